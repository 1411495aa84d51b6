-- What is put one after the other is the line's end.
use Rattle.lines.specs.AddsLaws.{adds_then}
use Rattle.lines.specs.Said.{read_end}
use Rattle.lines.proofs.Text.read.Goals as goal

pub returns : goal.returns
unfolding read_end
returns c = adds_then (adds_then c.one.ensures c.numbers.ensures) c.put.ensures

-- What is put one after the other is the join.
use Rattle.lines.specs.AddsLaws.{adds_then}
use Rattle.lines.proofs.Text.two.Goals as goal

pub returns : goal.returns
returns c = adds_then (adds_then c.one.ensures c.number.ensures) c.put.ensures

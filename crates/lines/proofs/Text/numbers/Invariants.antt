-- The numbers so far are put.
use Rattle.std.proofs.Common.{take}
use Rattle.lines.specs.Adds.{Adds}
use Rattle.lines.specs.Said.{numbers_text}
use Rattle.lines.proofs.Text.numbers.Given as goal

abbrev pub invariant-loop-n : goal.invariant-loop-n
invariant-loop-n l = Adds l.initial.self (numbers_text (take l.n-index l.numbers)) l.self

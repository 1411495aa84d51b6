-- The slots so far are put.
use Rattle.std.proofs.Common.{take}
use Rattle.lines.specs.Adds.{Adds}
use Rattle.lines.specs.Said.{slot_lines}
use Rattle.lines.proofs.Text.slots.Given as goal

abbrev pub invariant-loop-n : goal.invariant-loop-n
invariant-loop-n l = Adds l.initial.self (slot_lines l.two 0 (take l.n l.slots) l.numbers) l.self

-- `decimal::spell` meets its contract. The loop's invariant: the digits of the rest belong in front of those that are spelt (Digits).
-- Assumes nothing.
use Rattle.lines.proofs.Digits.{Spelling}
use Rattle.lines.proofs.decimal.spell.Given as goal

abbrev pub invariant-loop-rest : goal.invariant-loop-rest
invariant-loop-rest l = Spelling l.n l.digits l.i l.rest

abbrev pub decreases-loop-rest : goal.decreases-loop-rest
decreases-loop-rest l = l.i

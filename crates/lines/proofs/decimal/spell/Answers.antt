-- `decimal::spell` meets its contract. The loop's invariant: the digits of the rest belong in front of those that are spelt (Digits).
-- Assumes nothing.
use native.Mathlib.Omega.{arith}
use Rattle.std.proofs.Common.{rules}
use Rattle.lines.proofs.Digits.{begin, turn, last}
use Rattle.lines.proofs.decimal.spell.Goals as goal

pub loop-rest-init : goal.loop-rest-init
loop-rest-init c = begin _ _ (search rules) (omega arith)

pub loop-rest-preserved : goal.loop-rest-preserved
loop-rest-preserved c = turn _ _ _ _ c.loop-rest.invariant c.loop-rest-test.true

pub returns : goal.returns
returns c = (omega (arith, c.loop-rest.invariant.high), last _ _ _ _ c.loop-rest.invariant c.loop-rest-test.false)

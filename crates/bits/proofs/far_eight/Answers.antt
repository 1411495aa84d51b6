-- `bits::far_eight` meets its contract. The loop's invariant: the number is what the bits of the bytes passed spell.
use native.Mathlib.Omega.{arith}
use Rattle.bits.proofs.Spelt.{none_spelt, spelt_on, spelt_small}
use Rattle.bits.proofs.far_eight.Goals as goal

pub loop-k-init : goal.loop-k-init
loop-k-init c = none_spelt _ _

pub overflow_mul-v : goal.overflow_mul-v
overflow_mul-v c = record { fits = omega (arith, spelt_small _ _ _ c.loop-k.invariant c.loop-k-test.true) }

pub overflow_add-v : goal.overflow_add-v
overflow_add-v c = record { fits = omega (arith, spelt_small _ _ _ c.loop-k.invariant c.loop-k-test.true, c.byte.ensures.1) }

pub loop-k-preserved : goal.loop-k-preserved
loop-k-preserved c = spelt_on _ _ _ c.loop-k.invariant c.byte.ensures

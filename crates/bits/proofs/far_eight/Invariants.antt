-- `bits::far_eight` meets its contract. The loop's invariant: the number is what the bits of the bytes passed spell.
use mathlib.Core.Path.{◌≡◌}
use Prim.Native.Nat.{◌*◌}
use Rattle.standard.specs.Bits.{field_at}
use Rattle.bits.proofs.far_eight.Given as goal

abbrev pub invariant-loop-k : goal.invariant-loop-k
invariant-loop-k l = l.v ≡ field_at l.s (8 * l.i) (8 * l.k)

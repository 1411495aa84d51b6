-- `huffman::values::sign_of` meets its contract: a magnitude below 2 ^ 31 is itself as a signed number, and so is its negation.
-- Assumes nothing.
use mathlib.Core.Path.{◌≡◌, sym, ap, ◌∙◌, subst}
use mathlib.Core.Bool.{Bool}
use Prim.Native.Nat.{ℕ, zero, suc, ◌<◌, ◌^◌}
use native.Mathlib.Omega.{arith}
use lib.IntN.{ℤ, pos, neg_ℤ, ◌-ℤ◌, +ℤ_idl}
use mir.Syntax.{w32}
use mir.Val.{SFits, to_z}
use mir.ValLaws.{to_z_pos, to_z-of_z}
use Rattle.standard.specs.Numbers.{sign_of}
use Rattle.huffman.proofs.values.sign_of.Goals as goal

minus_of : (v : ℕ) → v < 2 ^ 31 → pos 0 -ℤ to_z w32 v ≡ neg_ℤ (pos v)
minus_of v h = ap (λ (z : ℤ). pos 0 -ℤ z) (to_z_pos w32 v h) ∙ +ℤ_idl (neg_ℤ (pos v))

minus_fits : (v : ℕ) → v < 2 ^ 31 → SFits w32 (neg_ℤ (pos v))
minus_fits zero h = record { sfits = omega arith }
minus_fits (suc v) h = record { sfits = omega arith }

pub returns-then-minus : goal.returns-then-minus
unfolding sign_of
returns-then-minus c =
    to_z-of_z w32 (pos 0 -ℤ to_z w32 c.args.value) (subst (SFits w32) (sym (minus_of c.args.value c.requires)) (minus_fits c.args.value c.requires))
    ∙ minus_of c.args.value c.requires
    ∙ ap (λ (b : Bool). sign_of b c.args.value) (sym c.if-minus.true)

pub returns-else-minus : goal.returns-else-minus
unfolding sign_of
returns-else-minus c = to_z_pos w32 c.args.value c.requires ∙ ap (λ (b : Bool). sign_of b c.args.value) (sym c.if-minus.false)

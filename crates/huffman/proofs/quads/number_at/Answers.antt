-- `huffman::quads::number_at` meets its contract: the cell of a digit, less 1, is its number. Assumes nothing.
use mathlib.Core.Path.{◌≡◌, refl, sym, ap, subst, ◌∙◌}
use Prim.Native.Nat.{ℕ, zero, suc, ◌<◌}
use native.Mathlib.Omega.{arith}
use lib.IntN.{ℤ, pos, ◌-ℤ◌}
use mir.Syntax.{w32}
use mir.Val.{SFits, to_z, of_z}
use mir.ValLaws.{to_z_pos, to_z-of_z}
use Rattle.huffman.specs.Signed.{digit}
use Rattle.huffman.proofs.quads.number_at.Goals as goal

less_pos : (n : ℕ) → n < 3 → pos n -ℤ pos 1 ≡ digit n
unfolding digit
less_pos zero h = refl
less_pos (suc zero) h = refl
less_pos (suc (suc zero)) h = refl
less_pos (suc (suc (suc n))) h = absurd (omega arith)

less_one : (n : ℕ) → n < 3 → to_z w32 n -ℤ pos 1 ≡ digit n
less_one n h = ap (λ (z : ℤ). z -ℤ pos 1) (to_z_pos w32 n (omega arith)) ∙ less_pos n h

digit-fits : (n : ℕ) → SFits w32 (digit n)
unfolding digit
digit-fits zero = record { sfits = omega arith }
digit-fits (suc zero) = record { sfits = omega arith }
digit-fits (suc (suc n)) = record { sfits = omega arith }

pub overflow_sub-result : goal.overflow_sub-result
overflow_sub-result c = let n = c.cell.result in subst (SFits w32) (sym (less_one n (omega arith))) (digit-fits n)

pub returns : goal.returns
returns c =
    let n = c.cell.result in
    ap (λ (z : ℤ). to_z w32 (of_z w32 z)) (less_one n (omega arith)) ∙ to_z-of_z w32 (digit n) (digit-fits n) ∙ ap digit c.cell.ensures

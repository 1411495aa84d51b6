-- A number of 32 bits as text, by the test of its sign.
use mathlib.Core.Path.{◌≡◌, refl, ap, ◌∙◌}
use mathlib.Core.Bool.{true, false}
use mathlib.Core.List.{◌∷◌}
use Prim.Native.Nat.{ℕ}
use native.Mathlib.Omega.{arith}
use borrow.Author.Tests.{ltb-true}
use lib.IntN.{ℤ, pos, negsuc, nat_abs}
use lib.Signed.{lt_z}
use mir.Syntax.{w32}
use mir.Val.{SFits, to_z, of_z}
use mir.ValLaws.{to_z-of_z}
use Rattle.lines.specs.Text.{decimal_of, signed_of}

signed-minus : (n : ℤ) → lt_z n (pos 0) ≡ true → 45 ∷ decimal_of (nat_abs n) ≡ signed_of n
unfolding signed_of
signed-minus (pos n) h = absurd (omega (arith, ltb-true n 0 h))
signed-minus (negsuc n) h = refl

signed-plain : (n : ℤ) → lt_z n (pos 0) ≡ false → decimal_of (nat_abs n) ≡ signed_of n
unfolding signed_of
signed-plain (pos n) h = refl
signed-plain (negsuc n) h = absurd (let z : ◌≡◌ {A = ℕ} 0 1 = cc in omega arith)

-- as the code reads it
abbrev pub wide : ℤ → ℤ
wide n = to_z w32 (of_z w32 n)

module _ (n : ℤ) (f : SFits w32 n) where
  pub minus_text : {u : ℕ} → lt_z (wide n) (pos 0) ≡ true → u ≡ nat_abs (wide n) → 45 ∷ decimal_of u ≡ signed_of n
  minus_text h e = ap (λ (u : ℕ). 45 ∷ decimal_of u) e ∙ signed-minus _ h ∙ ap signed_of (to_z-of_z w32 n f)

  pub plain_text : {u : ℕ} → lt_z (wide n) (pos 0) ≡ false → u ≡ nat_abs (wide n) → decimal_of u ≡ signed_of n
  plain_text h e = ap decimal_of e ∙ signed-plain _ h ∙ ap signed_of (to_z-of_z w32 n f)

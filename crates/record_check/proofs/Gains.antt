-- The number of a gain by its bit pattern.
use mathlib.Core.Path.{◌≡◌, refl, sym, ap, ◌∙◌}
use mathlib.Core.Bool.{Bool, true, false}
use mathlib.Core.List.{List, [], ◌∷◌}
use Prim.Native.Nat.{ℕ, zero, suc}
use native.Mathlib.Omega.{arith}
use borrow.Author.Tests.{ltb-true}
use lib.Dec.{T, ltb}
use lib.ListN.{get_or}
use lib.Ieee.{Float, nan, inf, fin, binary32, fits, is_nan, of_bits, to_bits, of_int}
use lib.Ieee.Bits.{of_bits-to_bits}
use Rattle.standard.specs.ToldLaws.{never}
use Rattle.standard.specs.Rows.{place, later}
use Rattle.standard.specs.Same.{same_int, same_float}
use Rattle.standard.specs.SameLaws.{float_is}
use Rattle.standard.specs.Record.{gain_of, gains_row, gain_number}

-- the patterns of 0.0 to 7.0
abbrev pub patterns : List ℕ
patterns = 0 ∷ 0x3f80_0000 ∷ 0x4000_0000 ∷ 0x4040_0000 ∷ 0x4080_0000 ∷ 0x40a0_0000 ∷ 0x40c0_0000 ∷ 0x40e0_0000 ∷ []

-- each is the pattern of its gain, whose number is the place
back : (k : ℕ) → ltb k 8 ≡ true → (k ≡ gain_number (of_bits binary32 (get_or patterns k 0))) × (to_bits binary32 (gain_of k) ≡ get_or patterns k 0)
unfolding gain_number place later gains_row same_float same_int of_int of_bits to_bits
back zero h = (refl, refl)
back (suc zero) h = (refl, refl)
back (suc (suc zero)) h = (refl, refl)
back (suc (suc (suc zero))) h = (refl, refl)
back (suc (suc (suc (suc zero)))) h = (refl, refl)
back (suc (suc (suc (suc (suc zero))))) h = (refl, refl)
back (suc (suc (suc (suc (suc (suc zero)))))) h = (refl, refl)
back (suc (suc (suc (suc (suc (suc (suc zero))))))) h = (refl, refl)
back (suc (suc (suc (suc (suc (suc (suc (suc k)))))))) h = absurd (omega (arith, ltb-true))

-- a NaN is no gain
pub gain_nan : (g : Float) → is_nan g ≡ true → 8 ≡ gain_number g
unfolding is_nan gain_number place later gains_row same_float of_int
gain_nan nan e = refl
gain_nan (inf s) e = never e
gain_nan (fin s m k) e = never e

module _ (g : Float) where
  -- a float of the pattern at k
  pub gain_at : (k : ℕ) → ltb k 8 ≡ true → T (fits binary32 g) → to_bits binary32 g ≡ get_or patterns k 0 → k ≡ gain_number g
  gain_at k h f e = (back k h).0 ∙ ap gain_number (ap (of_bits binary32) (sym e) ∙ of_bits-to_bits binary32 g f)

  -- a float of none of the patterns
  unlike : (k : ℕ) → ltb k 8 ≡ true → (to_bits binary32 g ≡ get_or patterns k 0 → ⊥) → same_float g (gain_of k) ≡ false
  unlike k h n = go (same_float g (gain_of k)) refl
    where
      go : (b : Bool) → same_float g (gain_of k) ≡ b → b ≡ false
      go true e = absurd (n (ap (to_bits binary32) (float_is g (gain_of k) e) ∙ (back k h).1))
      go false e = refl

  abbrev Off : ℕ → Type 0
  Off p = to_bits binary32 g ≡ p → ⊥

  pub gain_none : Off 0 → Off 0x3f80_0000 → Off 0x4000_0000 → Off 0x4040_0000 → Off 0x4080_0000 → Off 0x40a0_0000 → Off 0x40c0_0000 → Off 0x40e0_0000
      → 8 ≡ gain_number g
  unfolding gain_number place later gains_row
  gain_none a b c d e f h i =
      simp (unlike 0 refl a, unlike 1 refl b, unlike 2 refl c, unlike 3 refl d, unlike 4 refl e, unlike 5 refl f, unlike 6 refl h, unlike 7 refl i)

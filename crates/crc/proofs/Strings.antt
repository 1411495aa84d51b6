-- A string of bytes one after the other: what goes in of the first, and then of the others.
use mathlib.Core.Path.{◌≡◌, refl, sym, ap, ◌∙◌}
use mathlib.Core.Bool.{Bool}
use mathlib.Core.List.{List, ◌++◌}
use Prim.Native.Nat.{ℕ, ◌+◌, ◌*◌, ◌-◌, ◌^◌, ◌≤◌, ◌<◌}
use native.Mathlib.Omega.{arith}
use lib.Dec.{eqb}
use lib.ListN.{get_or}
use Rattle.standard.specs.Bits.{bits, between, value, field_at}
use Rattle.standard.specs.BitsLaws.{length-bits, bits-add, between-nil, value-below, byte-value}
use Rattle.standard.specs.Written.{bits_of, length-bits_of, value-bits_of, bits-own}
use Rattle.standard.specs.Crc.{fed, check_word, covered, crc_fits}
use Rattle.standard.specs.CrcLaws.{fed-long, fed-append}

-- ending with the register c, from the byte i on, comes to the whole
pub record Feeding (whole : ℕ) (s : List ℕ) (to word i : ℕ) : Type 0 where
  pub same : whole ≡ value (fed (bits_of 16 word) (between s (8 * i) (8 * to)))
  pub small : word < 2 ^ 16

pub begin_feeding : (s : List ℕ) (c from to : ℕ) → c < 2 ^ 16 → Feeding (value (fed (bits_of 16 c) (between s (8 * from) (8 * to)))) s to c from
begin_feeding s c from to h = record { same = refl; small = h }

module _ {whole : ℕ} {s : List ℕ} {to word i : ℕ} (f : Feeding whole s to word i) where
  pub feed-on : i < to → (b next : ℕ) → b ≡ get_or s i 0 → b < 256 → next ≡ value (fed (bits_of 16 word) (bits_of 8 b)) → Feeding whole s to next (i + 1)
  unfolding between value field_at
  feed-on h b next eb lb e =
      let count : 8 * to - 8 * i ≡ 8 + (8 * to - 8 * (i + 1)) = omega arith in
      let start : 8 * i + 8 ≡ 8 * (i + 1) = omega arith in
      let cut : between s (8 * i) (8 * to) ≡ bits s (8 * i) 8 ++ between s (8 * (i + 1)) (8 * to) =
      ap (bits s (8 * i)) count ∙ bits-add s 8 (8 * i) (8 * to - 8 * (i + 1))
      ∙ ap (λ (n : ℕ). bits s (8 * i) 8 ++ bits s n (8 * to - 8 * (i + 1))) start in
      let own : bits s (8 * i) 8 ≡ bits_of 8 b =
      sym (bits-own 8 (bits s (8 * i) 8) (length-bits s (8 * i) 8)) ∙ ap (bits_of 8) (byte-value s i (omega (arith, eb)) ∙ sym eb) in
      let long = fed-long (bits_of 16 word) (bits_of 8 b) (length-bits_of 16 word) in
      let after : fed (bits_of 16 word) (bits_of 8 b) ≡ bits_of 16 next =
      sym (bits-own 16 (fed (bits_of 16 word) (bits_of 8 b)) long) ∙ ap (bits_of 16) (sym e) in
      record {
        same =
            f.same
            ∙ ap value
            (ap (fed (bits_of 16 word)) cut ∙ fed-append (bits_of 16 word) (bits s (8 * i) 8) (between s (8 * (i + 1)) (8 * to))
            ∙ (λ j. fed ((ap (fed (bits_of 16 word)) own ∙ after) j) (between s (8 * (i + 1)) (8 * to))));
        small = omega (arith, e, value-below (fed (bits_of 16 word) (bits_of 8 b)) 16 long);
      }

  pub end-feeding : to ≤ i → word ≡ whole
  unfolding fed
  end-feeding h = sym (f.same ∙ ap (λ (b : List Bool). value (fed (bits_of 16 word) b)) (between-nil s (8 * i) (8 * to) (omega arith)) ∙ value-bits_of 16 word f.small)

-- two strings one after the other, and the word that they are compared with
pub fits_is : (s : List ℕ) (end header all word : ℕ) → header ≡ value (fed (bits_of 16 0xFFFF) (between s 16 32))
    → all ≡ value (fed (bits_of 16 header) (between s 48 (8 * end))) → word ≡ field_at s 32 16 → eqb all word ≡ crc_fits s end
unfolding crc_fits covered check_word bits_of
fits_is s end header all word eh ea ew =
    let first = fed (bits_of 16 0xFFFF) (between s 16 32) in
    let own : bits_of 16 header ≡ first = ap (bits_of 16) eh ∙ bits-own 16 first (fed-long (bits_of 16 0xFFFF) (between s 16 32) (length-bits_of 16 0xFFFF)) in
    let whole : all ≡ value (fed (bits_of 16 0xFFFF) (between s 16 32 ++ between s 48 (8 * end))) =
    ea ∙ ap (λ (r : List Bool). value (fed r (between s 48 (8 * end)))) own ∙ ap value (sym (fed-append (bits_of 16 0xFFFF) (between s 16 32) (between s 48 (8 * end)))) in
    λ j. eqb (whole j) (ew j)

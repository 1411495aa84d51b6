-- The fields of a record, cut out of the numbers that its parts are read as, and the way through its tests.
use Rattle.std.specs.Prelude.{Ok, Err}
use mathlib.Core.Path.{◌≡◌, refl, sym, ap, ◌∙◌}
use mathlib.Core.Bool.{Bool, true, false, not, ◌&&◌}
use mathlib.Core.List.{List}
use Prim.Native.Nat.{ℕ, ◌+◌, ◌-◌, ◌/◌, ◌%◌, ◌^◌, ◌≤◌, ◌<◌}
use native.Mathlib.Nat.{div-one}
use native.Mathlib.Omega.{arith}
use borrow.Author.Tests.{lt-ltb, le-ltb, eq-eqb, ne_eqb}
use lib.Dec.{ltb, leb, eqb}
use lib.Ieee.{binary32, of_bits, of_int}
use Rattle.standard.specs.ToldLaws.{picked, passed, never, no_refusal, told_is}
use Rattle.standard.specs.Bits.{bit_at, field, flag, field_at}
use Rattle.standard.specs.BitsLaws.{field-bits, flag-bits, field_at_cut}
use Rattle.standard.specs.Record.{gain_of, compress_width, record_width, scale_at, count1_at, preflag_of, block_of, shape_by, is_mixed, long_of, switched_of, record_in, record_of}
use Rattle.standard.specs.declared.BlockType.{BlockType}
use Rattle.standard.specs.declared.Shape.{Shape}
use Rattle.standard.specs.declared.SlotRecord.{SlotRecord}
use Rattle.standard.specs.declared.Refusal.TheVariants.{TooManyPairs, ForbiddenBlock, MixedBlock}
use Rattle.record_check.proofs.Widths.{width}
use Rattle.side_info.specs.declared.record.Common.{Common}
use Rattle.side_info.specs.Parts.{common_of, record_bits, PartsAt}

pub zero_gain : of_bits binary32 0 ≡ gain_of 0
unfolding of_bits of_int
zero_gain = refl

-- n bits that stand at j of a number, with m bits after them, and at k of the record
pub cut : (mpeg1 : Bool) (s : List ℕ) (at a j n m k : ℕ) {v : ℕ} → v ≡ field_at s a (j + n + m) → a + j ≡ at + k → k + n ≤ record_width mpeg1
    → v / 2 ^ m % 2 ^ n ≡ field (record_bits mpeg1 s at) k n
cut mpeg1 s at a j n m k e p h =
    ap (λ (v : ℕ). v / 2 ^ m % 2 ^ n) e ∙ sym (field_at_cut s a j n m) ∙ ap (λ (i : ℕ). field_at s i n) p ∙ sym (field-bits s at (record_width mpeg1) k n h)

-- ---- what every record has
pub compress_there : (mpeg1 : Bool) (s : List ℕ) (at : ℕ) {n x : ℕ} → n ≡ compress_width mpeg1 → x ≡ field_at s (at + 29) n
    → x ≡ field (record_bits mpeg1 s at) 29 (compress_width mpeg1)
compress_there mpeg1 s at e f = f ∙ ap (field_at s (at + 29)) e ∙ sym (field-bits s at (record_width mpeg1) 29 (compress_width mpeg1) (omega (arith, width mpeg1)))

pub preflag_read : (mpeg1 : Bool) (s : List ℕ) (at : ℕ) → mpeg1 ≡ true → bit_at s (at + 56) ≡ preflag_of mpeg1 (record_bits mpeg1 s at)
unfolding preflag_of
preflag_read true s at e = sym (flag-bits s at 59 56 (omega arith))
preflag_read false s at e = never e

pub preflag_follows : (mpeg1 : Bool) (s : List ℕ) (at : ℕ) {x : ℕ} → mpeg1 ≡ false → x ≡ field (record_bits mpeg1 s at) 29 (compress_width mpeg1)
    → leb 500 x ≡ preflag_of mpeg1 (record_bits mpeg1 s at)
unfolding preflag_of
preflag_follows true s at e f = never (sym e)
preflag_follows false s at e f = ap (leb 500) f

scale_there : (mpeg1 : Bool) (s : List ℕ) (at : ℕ) → bit_at s (at + record_width mpeg1 - 2) ≡ flag (record_bits mpeg1 s at) (scale_at mpeg1)
scale_there true s at = let p : at + 59 - 2 ≡ at + 57 = omega arith in ap (bit_at s) p ∙ sym (flag-bits s at 59 57 (omega arith))
scale_there false s at = let p : at + 63 - 2 ≡ at + 61 = omega arith in ap (bit_at s) p ∙ sym (flag-bits s at 63 61 (omega arith))

count1_there : (mpeg1 : Bool) (s : List ℕ) (at : ℕ) → bit_at s (at + record_width mpeg1 - 1) ≡ flag (record_bits mpeg1 s at) (count1_at mpeg1)
count1_there true s at = let p : at + 59 - 1 ≡ at + 58 = omega arith in ap (bit_at s) p ∙ sym (flag-bits s at 59 58 (omega arith))
count1_there false s at = let p : at + 63 - 1 ≡ at + 62 = omega arith in ap (bit_at s) p ∙ sym (flag-bits s at 63 62 (omega arith))

pub common_read : (mpeg1 : Bool) (s : List ℕ) (at : ℕ) {v x n : ℕ} {p q r : Bool} → v ≡ field_at s at 29
    → x ≡ field (record_bits mpeg1 s at) 29 (compress_width mpeg1) → n ≡ record_width mpeg1 → p ≡ preflag_of mpeg1 (record_bits mpeg1 s at)
    → q ≡ bit_at s (at + n - 2) → r ≡ bit_at s (at + n - 1)
    → record { part2_3_length = v / 2 ^ 17 % 2 ^ 12; big_values = v / 2 ^ 8 % 2 ^ 9; global_gain = v % 2 ^ 8; scalefac_compress = x; preflag = p; scalefac_scale = q; count1table_select = r } ≡ common_of mpeg1 (record_bits mpeg1 s at)
unfolding common_of
common_read mpeg1 s at {v} {x} {n} {p} {q} {r} e f g h i k = λ j. record {
  part2_3_length = cut mpeg1 s at at 0 12 17 0 e refl (omega (arith, width mpeg1)) j;
  big_values = cut mpeg1 s at at 12 9 8 12 e refl (omega (arith, width mpeg1)) j;
  global_gain = (ap (λ (y : ℕ). y % 2 ^ 8) (sym (div-one v)) ∙ cut mpeg1 s at at 21 8 0 21 e refl (omega (arith, width mpeg1))) j;
  scalefac_compress = f j;
  preflag = h j;
  scalefac_scale = (i ∙ ap (λ (y : ℕ). bit_at s (at + y - 2)) g ∙ scale_there mpeg1 s at) j;
  count1table_select = (k ∙ ap (λ (y : ℕ). bit_at s (at + y - 1)) g ∙ count1_there mpeg1 s at) j;
}

-- ---- the window
module _ {mpeg1 : Bool} {s : List ℕ} {at : ℕ} {k : Common} {w : ℕ} (e : PartsAt mpeg1 s at k w) where
  abbrev b : List Bool
  b = record_bits mpeg1 s at

  abbrev c : ℕ
  c = compress_width mpeg1

  -- n bits that stand at j of the window's
  pub window_cut : (j n m : ℕ) → j + n + m ≡ 23 → w / 2 ^ m % 2 ^ n ≡ field (record_bits mpeg1 s at) (29 + j + compress_width mpeg1) n
  window_cut j n m p =
      let q : at + 29 + c + j ≡ at + (29 + j + c) = omega arith in
      cut mpeg1 s at (at + 29 + c) j n m (29 + j + c) (e.window ∙ ap (field_at s (at + 29 + c)) (sym p)) q (omega (arith, width mpeg1))

  pub window_last : (j n : ℕ) → j + n ≡ 23 → w % 2 ^ n ≡ field (record_bits mpeg1 s at) (29 + j + compress_width mpeg1) n
  window_last j n p = ap (λ (v : ℕ). v % 2 ^ n) (sym (div-one w)) ∙ window_cut j n 0 (omega arith)

  -- ---- the tests
  pairs-are : k.big_values ≡ field b 12 9
  unfolding common_of
  pairs-are = ap (λ (x : Common). x.big_values) e.common

  few : k.big_values ≤ 288 → ltb 288 (field b 12 9) ≡ false
  few h = le-ltb 288 (field b 12 9) (rw pairs-are at h)

  -- a flag of the window
  flag_is : (j m : ℕ) → j + 1 + m ≡ 23 → eqb (w / 2 ^ m % 2) 1 ≡ flag b (29 + j + c)
  unfolding flag
  flag_is j m p = ap (λ (n : ℕ). eqb n 1) (window_cut j 1 m p)

  abbrev switched : Bool
  switched = flag b (29 + c)

  is_switched : w / 2 ^ 22 % 2 ≡ 1 → not switched ≡ false
  is_switched h = ap not (sym (flag_is 0 22 refl) ∙ eq-eqb (w / 2 ^ 22 % 2) 1 h)

  is_not : (w / 2 ^ 22 % 2 ≡ 1 → ⊥) → not switched ≡ true
  is_not h = ap not (sym (flag_is 0 22 refl) ∙ ne_eqb (w / 2 ^ 22 % 2) 1 h)

  type_is : block_of (w / 2 ^ 20 % 4) ≡ block_of (field b (30 + c) 2)
  type_is = ap block_of (window_cut 1 2 20 refl)

  -- whether it is a mixed short block, and the rate 8 kHz
  mixed_is : (slow : Bool) {t : BlockType} {k : Shape} {x : Bool} → t ≡ block_of (w / 2 ^ 20 % 4) → k ≡ shape_by t (eqb (w / 2 ^ 19 % 2) 1) → x ≡ is_mixed k
      → slow && x ≡ slow && is_mixed (shape_by (block_of (field b (30 + c) 2)) (flag b (32 + c)))
  mixed_is slow p q r = ap (λ (y : Bool). slow && y) (r ∙ ap is_mixed (q ∙ (λ j. shape_by ((p ∙ type_is) j) (flag_is 3 19 refl j))))

  other : (w / 2 ^ 20 % 4 ≡ 0 → ⊥) → eqb (field b (30 + c) 2) 0 ≡ false
  other h = ne_eqb (field b (30 + c) 2) 0 (λ q. h (window_cut 1 2 20 refl ∙ q))

  pub says_many : (slow : Bool) → 288 < k.big_values → record_of mpeg1 slow (record_bits mpeg1 s at) ≡ Err TooManyPairs
  unfolding record_of record_in
  says_many slow h = picked _ (lt-ltb 288 (field b 12 9) (rw pairs-are at h))

  module _ (slow : Bool) (h : k.big_values ≤ 288) where
    pub says_long : (w / 2 ^ 22 % 2 ≡ 1 → ⊥)
        → record_of mpeg1 slow (record_bits mpeg1 s at) ≡ Ok (long_of mpeg1 (compress_width mpeg1) (record_bits mpeg1 s at))
    unfolding record_of record_in
    says_long i = passed _ (few h) ∙ picked _ (is_not i)

    module _ (i : w / 2 ^ 22 % 2 ≡ 1) where
      pub says_forbidden : w / 2 ^ 20 % 4 ≡ 0 → record_of mpeg1 slow (record_bits mpeg1 s at) ≡ Err ForbiddenBlock
      unfolding record_of record_in
      says_forbidden l = passed _ (few h) ∙ passed _ (is_switched i) ∙ picked _ (eq-eqb (field b (30 + c) 2) 0 (sym (window_cut 1 2 20 refl) ∙ l))

      module _ (l : w / 2 ^ 20 % 4 ≡ 0 → ⊥) {t : BlockType} {z : Shape} {x : Bool} (p : t ≡ block_of (w / 2 ^ 20 % 4))
          (q : z ≡ shape_by t (eqb (w / 2 ^ 19 % 2) 1)) (r : x ≡ is_mixed z) where
        pub says_mixed : slow && x ≡ true → record_of mpeg1 slow (record_bits mpeg1 s at) ≡ Err MixedBlock
        unfolding record_of record_in
        says_mixed m = passed _ (few h) ∙ passed _ (is_switched i) ∙ passed _ (other l) ∙ picked _ (sym (mixed_is slow p q r) ∙ m)

        pub says_switched : slow && x ≡ false
            → record_of mpeg1 slow (record_bits mpeg1 s at)
            ≡ Ok (switched_of mpeg1 (compress_width mpeg1) (block_of (w / 2 ^ 20 % 4)) (eqb (w / 2 ^ 19 % 2) 1) (record_bits mpeg1 s at))
        unfolding record_of record_in
        says_switched m =
            passed _ (few h) ∙ passed _ (is_switched i) ∙ passed _ (other l) ∙ passed _ (sym (mixed_is slow p q r) ∙ m)
            ∙ (λ j. Ok (switched_of mpeg1 c (sym type_is j) (sym (flag_is 3 19 refl) j) b))

  -- ---- the record, where it has no fault
  pub long-is : (slow : Bool) {a : SlotRecord} → (w / 2 ^ 22 % 2 ≡ 1 → ⊥) → record_of mpeg1 slow (record_bits mpeg1 s at) ≡ Ok a
      → long_of mpeg1 (compress_width mpeg1) (record_bits mpeg1 s at) ≡ a
  unfolding record_of record_in
  long-is slow {a} i f = told_is (sym (picked _ (is_not i)) ∙ (no_refusal _ _ _ a f).1)

  pub switched-is : (slow : Bool) {a : SlotRecord} → w / 2 ^ 22 % 2 ≡ 1 → record_of mpeg1 slow (record_bits mpeg1 s at) ≡ Ok a
      → switched_of mpeg1 (compress_width mpeg1) (block_of (w / 2 ^ 20 % 4)) (eqb (w / 2 ^ 19 % 2) 1) (record_bits mpeg1 s at) ≡ a
  unfolding record_of record_in
  switched-is slow {a} i f =
      let g = sym (passed _ (is_switched i)) ∙ (no_refusal _ _ _ a f).1 in
      let h = (no_refusal _ _ _ a (no_refusal _ _ _ a g).1).1 in
      (λ j. switched_of mpeg1 c (type_is j) (flag_is 3 19 refl j) b) ∙ told_is h

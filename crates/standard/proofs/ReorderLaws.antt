-- The new order, band by band: which number comes to each place of a band, and what is left of the order after one.
use Rattle.std.specs.Prelude.{◌≡◌, true, false, ◌&&◌, ℕ, zero, suc, ◌+◌, ◌-◌, ◌*◌, ◌≤◌, ◌<◌, ℤ, pos, take, Ok, Err}
use Rattle.std.proofs.Math.Path.{refl, ap}
use Rattle.std.proofs.Common.{sym, ◌∙◌, lt-ltb, le-ltb, take-append-drop, drop_of_length-le, drop-cons}
use mathlib.Core.List.{List, [], ◌∷◌, ◌++◌, append-nil}
use Rattle.std.proofs.Math.Numerals.{add-one}
use native.Mathlib.Omega.{arith}
use Rattle.std.proofs.Math.ListN.{length, get_or, drop}
use Rattle.standard.specs.Bands.{row_of, short_rows, short_start}
use Rattle.standard.specs.BandsLaws.{row_lt, short_rising, starts-at_0, rises, tops, lasts}
use Rattle.standard.specs.RowsLaws.{every, rows_long}
use Rattle.standard.specs.ToldLaws.{never, both, picked, passed}
use Rattle.standard.specs.Header.{is_slow, is_header}
use Rattle.standard.specs.Record.{shape_of}
use Rattle.standard.specs.SideInfo.{is_record_under}
use Rattle.standard.specs.Reorder.{band_order, order_from, order_of, gathered, band_numbers, first_short, reordered_from, reorder_of}
use Rattle.standard.specs.declared.SampleRate.{SampleRate}
use Rattle.standard.specs.declared.SampleRate.TheVariants.{Hz8000, Hz11025, Hz12000, Hz16000, Hz22050, Hz24000, Hz32000, Hz44100, Hz48000}
use Rattle.standard.specs.declared.FrameHeader.{FrameHeader}
use Rattle.standard.specs.declared.SlotRecord.{SlotRecord}
use Rattle.standard.specs.declared.Shape.{Shape}
use Rattle.standard.specs.declared.Shape.TheVariants.{AllLong, AllShort, LongThenShort}
use Rattle.standard.specs.declared.Refusal.TheVariants.{UnfitMemory, MadeUpRecord}

gathered-append : (is js : List ℕ) (d : List ℤ) → gathered (is ++ js) d ≡ gathered is d ++ gathered js d
unfolding gathered
gathered-append [] js d = refl
gathered-append (i ∷ is) js d = ap (λ (l : List ℤ). get_or d i (pos 0) ∷ l) (gathered-append is js d)

length-gathered : (is : List ℕ) (d : List ℤ) → length (gathered is d) ≡ length is
unfolding gathered
length-gathered [] d = refl
length-gathered (i ∷ is) d = ap suc (length-gathered is d)

length-band : (from w j n : ℕ) → length (band_order from w j n) ≡ 3 * n
unfolding band_order
length-band from w j zero = refl
length-band from w j (suc n) = let p : suc (suc (suc (3 * n))) ≡ 3 * suc n = omega arith in ap (λ (m : ℕ). suc (suc (suc m))) (length-band from w (suc j) n) ∙ p

pub length-band_numbers : (from w : ℕ) (d : List ℤ) → length (band_numbers from w d) ≡ 3 * w
unfolding band_numbers
length-band_numbers from w d = length-gathered (band_order from w 0 w) d ∙ length-band from w 0 w

-- at 3 i + window stands the number that stood at window w + i
band_from : (from w : ℕ) (d : List ℤ) (n j i : ℕ) → i < n
    → (get_or (gathered (band_order from w j n) d) (3 * i) (pos 0) ≡ get_or d (from + (j + i)) (pos 0))
    × (get_or (gathered (band_order from w j n) d) (3 * i + 1) (pos 0) ≡ get_or d (from + w + (j + i)) (pos 0))
    × (get_or (gathered (band_order from w j n) d) (3 * i + 2) (pos 0) ≡ get_or d (from + 2 * w + (j + i)) (pos 0))
unfolding band_order gathered
band_from from w d zero j i h = absurd (omega arith)
band_from from w d (suc n) j zero h =
    let e : j ≡ j + 0 = omega arith in
    (ap (λ (k : ℕ). get_or d (from + k) (pos 0)) e, ap (λ (k : ℕ). get_or d (from + w + k) (pos 0)) e, ap (λ (k : ℕ). get_or d (from + 2 * w + k) (pos 0)) e)
band_from from w d (suc n) j (suc i) h =
    let r = band_from from w d n (suc j) i (omega arith) in
    let l = gathered (band_order from w j (suc n)) d in
    let e : suc j + i ≡ j + suc i = omega arith in
    let p : 3 * suc i ≡ suc (suc (suc (3 * i))) = omega arith in
    let q : 3 * suc i + 1 ≡ suc (suc (suc (3 * i + 1))) = omega arith in
    let s : 3 * suc i + 2 ≡ suc (suc (suc (3 * i + 2))) = omega arith in (
      ap (λ (k : ℕ). get_or l k (pos 0)) p ∙ r.0 ∙ ap (λ (k : ℕ). get_or d (from + k) (pos 0)) e,
      ap (λ (k : ℕ). get_or l k (pos 0)) q ∙ r.1 ∙ ap (λ (k : ℕ). get_or d (from + w + k) (pos 0)) e,
      ap (λ (k : ℕ). get_or l k (pos 0)) s ∙ r.2 ∙ ap (λ (k : ℕ). get_or d (from + 2 * w + k) (pos 0)) e,
    )

module _ (from w : ℕ) (d : List ℤ) (i : ℕ) (h : i < w) where
  pub band_first : get_or (band_numbers from w d) (3 * i) (pos 0) ≡ get_or d (from + i) (pos 0)
  unfolding band_numbers
  band_first = let e : 0 + i ≡ i = omega arith in (band_from from w d w 0 i h).0 ∙ ap (λ (k : ℕ). get_or d (from + k) (pos 0)) e

  pub band_second : get_or (band_numbers from w d) (3 * i + 1) (pos 0) ≡ get_or d (from + w + i) (pos 0)
  unfolding band_numbers
  band_second = let e : 0 + i ≡ i = omega arith in (band_from from w d w 0 i h).1 ∙ ap (λ (k : ℕ). get_or d (from + w + k) (pos 0)) e

  pub band_third : get_or (band_numbers from w d) (3 * i + 2) (pos 0) ≡ get_or d (from + 2 * w + i) (pos 0)
  unfolding band_numbers
  band_third = let e : 0 + i ≡ i = omega arith in (band_from from w d w 0 i h).2 ∙ ap (λ (k : ℕ). get_or d (from + 2 * w + k) (pos 0)) e

module _ (r : SampleRate) where
  pub short_first : short_start r 0 ≡ 0
  unfolding short_start
  short_first = starts-at_0 192 (get_or short_rows (row_of r) []) (short_rising r)

  pub short_rises : (k : ℕ) → short_start r k ≤ short_start r (k + 1)
  unfolding short_start
  short_rises k = rw add-one (rises 192 (get_or short_rows (row_of r) []) (short_rising r) k)

  pub short_tops : (k : ℕ) → short_start r k ≤ 192
  unfolding short_start
  short_tops k = tops 192 (get_or short_rows (row_of r) []) (short_rising r) k

  row_length : length (get_or short_rows (row_of r) []) ≡ 14
  unfolding every short_rows
  row_length = rows_long 14 short_rows refl (row_of r) (row_lt r)

  pub short_last : short_start r 13 ≡ 192
  unfolding short_start
  short_last =
      let p : length (get_or short_rows (row_of r) []) - 1 ≡ 13 = omega (arith, row_length) in
      ap (λ (k : ℕ). get_or (get_or short_rows (row_of r) []) k 192) (sym p) ∙ lasts 192 (get_or short_rows (row_of r) []) (short_rising r)

  -- ---- the order from the k-th band on: that band's, and then the order from the next one on
  pub order_band : (k : ℕ) (d : List ℤ) → k < 13
      → gathered (order_of r k) d ≡ band_numbers (3 * short_start r k) (short_start r (k + 1) - short_start r k) d ++ gathered (order_of r (k + 1)) d
  unfolding order_of order_from short_start band_numbers
  order_band k d h =
      let row = get_or short_rows (row_of r) [] in
      let b = get_or row k 192 in
      let c = get_or row (k + 1) 192 in
      ap (λ (l : List ℕ). gathered (order_from b l) d)
      (drop-cons row (k + 1) 192 (omega (arith, row_length)) ∙ ap (λ (n : ℕ). c ∷ drop n row) (sym (add-one (k + 1))))
      ∙ gathered-append (band_order (3 * b) (c - b) 0 (c - b)) (order_from c (drop (k + 1 + 1) row)) d

  order_none : (d : List ℤ) → gathered (order_of r 13) d ≡ []
  unfolding order_of order_from gathered
  order_none d =
      ap (λ (l : List ℕ). gathered (order_from (short_start r 13) l) d) (drop_of_length-le (get_or short_rows (row_of r) []) {i = 14} (omega (arith, row_length)))

  -- past the last band all 576 are passed
  pub order_end : (d old : List ℤ) → take (3 * short_start r 13) d ++ gathered (order_of r 13) old ++ drop 576 d ≡ d
  order_end d old =
      let e : 3 * short_start r 13 ≡ 576 = omega (arith, short_last) in
      (λ j. take (e j) d ++ order_none old j ++ drop 576 d) ∙ ap (λ (l : List ℤ). l ++ drop 576 d) (append-nil (take 576 d)) ∙ take-append-drop 576 d

-- ---- what the call comes to
module _ (h : FrameHeader) (r : SlotRecord) (d : List ℤ) where
  pub few_numbers : length d < 576 → reorder_of h r d ≡ Err UnfitMemory
  unfolding reorder_of
  few_numbers k = picked _ (lt-ltb (length d) 576 k)

  module _ (k : 576 ≤ length d) where
    pub made_up : is_header h && is_record_under h r ≡ false → reorder_of h r d ≡ Err MadeUpRecord
    unfolding reorder_of
    made_up e = passed _ (le-ltb (length d) 576 k) ∙ passed _ e

    pub in_order : is_header h ≡ true → is_record_under h r ≡ true → reorder_of h r d ≡ Ok (reordered_from h.rate (first_short (shape_of r)) d)
    unfolding reorder_of
    in_order e f = passed _ (le-ltb (length d) 576 k) ∙ picked _ (both e f)

pub first-le : (k : Shape) → first_short k ≤ 13
first-le AllLong = omega arith
first-le AllShort = omega arith
first-le LongThenShort = omega arith

-- at every rate but 8 kHz the short bands of a mixed block begin where its long ones end
pub mixed_first : (r : SampleRate) → is_slow r ≡ false → 3 * short_start r (first_short LongThenShort) ≡ 36
unfolding short_start short_rows
mixed_first Hz8000 e = never (sym e)
mixed_first Hz11025 e = refl
mixed_first Hz12000 e = refl
mixed_first Hz16000 e = refl
mixed_first Hz22050 e = refl
mixed_first Hz24000 e = refl
mixed_first Hz32000 e = refl
mixed_first Hz44100 e = refl
mixed_first Hz48000 e = refl

-- long bands stay
pub long_order : (rate : SampleRate) (d : List ℤ) → reordered_from rate (first_short AllLong) d ≡ d
unfolding reordered_from
long_order rate d = order_end rate d (take 576 d)

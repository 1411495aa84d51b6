-- Every rate has its row, and every row all of its band starts, which rise from 0 to the end of the spectrum.
use Rattle.std.specs.Prelude.{◌≡◌, refl, Bool, true, false, ◌&&◌, leb, eqb}
use Rattle.std.proofs.Math.Path.{ap}
use Rattle.std.proofs.Common.{◌∙◌, add-zero}
use mathlib.Core.List.{List, [], ◌∷◌}
use Prim.Native.Nat.{ℕ, zero, suc, ◌+◌, ◌-◌, ◌<◌, ◌≤◌}
use native.Mathlib.Omega.{arith}
use borrow.Author.Tests.{leb-true, eqb-true}
use Rattle.std.proofs.Math.ListN.{length, get_or, get_or-eq_default}
use Rattle.standard.specs.Bands.{row_of, long_rows, short_rows, long_start, short_start}
use Rattle.standard.specs.RowsLaws.{every, every_in, rows_long, get_d_within}
use Rattle.standard.specs.ToldLaws.{never, both_of}
use Rattle.standard.specs.declared.SampleRate.{SampleRate}
use Rattle.standard.specs.declared.SampleRate.TheVariants.{Hz8000, Hz11025, Hz12000, Hz16000, Hz22050, Hz24000, Hz32000, Hz44100, Hz48000}

pub row_lt : (r : SampleRate) → row_of r < 9
row_lt Hz44100 = omega arith
row_lt Hz48000 = omega arith
row_lt Hz32000 = omega arith
row_lt Hz22050 = omega arith
row_lt Hz24000 = omega arith
row_lt Hz16000 = omega arith
row_lt Hz11025 = omega arith
row_lt Hz12000 = omega arith
row_lt Hz8000 = omega arith

-- rows of n starts, by rate: the i-th, whatever is taken to stand past the end
module _ (n : ℕ) (rows : List (List ℕ)) (nine : length rows ≡ 9) (each : every (λ (row : List ℕ). eqb (length row) n) rows ≡ true) where
  row_length : (r : SampleRate) → length (get_or rows (row_of r) []) ≡ n
  row_length r = rows_long n rows each (row_of r) (omega (arith, row_lt r, nine))

  in_row : (r : SampleRate) (i d e : ℕ) → i < n → get_or (get_or rows (row_of r) []) i d ≡ get_or (get_or rows (row_of r) []) i e
  in_row r i d e h = get_d_within (get_or rows (row_of r) []) i d e (omega (arith, row_length r))

  past_row : (r : SampleRate) (i d : ℕ) → n ≤ i → get_or (get_or rows (row_of r) []) i d ≡ d
  past_row r i d h = get_or-eq_default (get_or rows (row_of r) []) d (omega (arith, row_length r))

pub long-within : (r : SampleRate) (i : ℕ) → i < 23 → get_or (get_or long_rows (row_of r) []) i 0 ≡ long_start r i
unfolding every long_rows long_start
long-within r i h = in_row 23 long_rows refl refl r i 0 576 h

pub long-past : (r : SampleRate) (i : ℕ) → 23 ≤ i → long_start r i ≡ 576
unfolding every long_rows long_start
long-past r i h = past_row 23 long_rows refl refl r i 576 h

pub short_within : (r : SampleRate) (i : ℕ) → i < 14 → get_or (get_or short_rows (row_of r) []) i 0 ≡ short_start r i
unfolding every short_rows short_start
short_within r i h = in_row 14 short_rows refl refl r i 0 192 h

pub short_past : (r : SampleRate) (i : ℕ) → 14 ≤ i → short_start r i ≡ 192
unfolding every short_rows short_start
short_past r i h = past_row 14 short_rows refl refl r i 192 h

-- ---- starts that rise from 0 to a top
rising : ℕ → ℕ → List ℕ → Bool
rising top b [] = eqb b top
rising top b (c ∷ cs) = leb b c && rising top c cs

pub rising_row : ℕ → List ℕ → Bool
unfolding rising
rising_row top [] = false
rising_row top (b ∷ cs) = eqb b 0 && rising top b cs

module _ (top : ℕ) where
  rises_from : (cs : List ℕ) (b : ℕ) → rising top b cs ≡ true → (k : ℕ) → get_or (b ∷ cs) k top ≤ get_or cs k top
  unfolding rising
  rises_from [] b e zero = omega (arith, eqb-true b top e)
  rises_from [] b e (suc k) = omega arith
  rises_from (c ∷ cs) b e zero = leb-true b c (both_of (leb b c) (rising top c cs) e).0
  rises_from (c ∷ cs) b e (suc k) = rises_from cs c (both_of (leb b c) (rising top c cs) e).1 k

  tops_from : (cs : List ℕ) (b : ℕ) → rising top b cs ≡ true → (k : ℕ) → get_or (b ∷ cs) k top ≤ top
  unfolding rising
  tops_from [] b e zero = omega (arith, eqb-true b top e)
  tops_from [] b e (suc k) = omega arith
  tops_from (c ∷ cs) b e zero =
      let p = both_of (leb b c) (rising top c cs) e in omega (arith, leb-true b c p.0, tops_from cs c p.1 0)
  tops_from (c ∷ cs) b e (suc k) = tops_from cs c (both_of (leb b c) (rising top c cs) e).1 k

  last_from : (cs : List ℕ) (b : ℕ) → rising top b cs ≡ true → get_or (b ∷ cs) (length cs) top ≡ top
  unfolding rising
  last_from [] b e = eqb-true b top e
  last_from (c ∷ cs) b e = last_from cs c (both_of (leb b c) (rising top c cs) e).1

  -- of a whole row
  pub starts-at_0 : (row : List ℕ) → rising_row top row ≡ true → get_or row 0 top ≡ 0
  unfolding rising_row
  starts-at_0 [] e = never e
  starts-at_0 (b ∷ cs) e = eqb-true b 0 (both_of (eqb b 0) (rising top b cs) e).0

  pub rises : (row : List ℕ) → rising_row top row ≡ true → (k : ℕ) → get_or row k top ≤ get_or row (suc k) top
  unfolding rising_row
  rises [] e k = never e
  rises (b ∷ cs) e k = rises_from cs b (both_of (eqb b 0) (rising top b cs) e).1 k

  pub tops : (row : List ℕ) → rising_row top row ≡ true → (k : ℕ) → get_or row k top ≤ top
  unfolding rising_row
  tops [] e k = never e
  tops (b ∷ cs) e k = tops_from cs b (both_of (eqb b 0) (rising top b cs) e).1 k

  pub lasts : (row : List ℕ) → rising_row top row ≡ true → get_or row (length row - 1) top ≡ top
  unfolding rising_row
  lasts [] e = never e
  lasts (b ∷ cs) e =
      let p : suc (length cs) - 1 ≡ length cs = omega arith in
      ap (λ (k : ℕ). get_or (b ∷ cs) k top) p ∙ last_from cs b (both_of (eqb b 0) (rising top b cs) e).1

pub short_rising : (r : SampleRate) → rising_row 192 (get_or short_rows (row_of r) []) ≡ true
unfolding every rising rising_row short_rows
short_rising r = every_in (rising_row 192) [] short_rows refl (row_of r) (row_lt r)

long-rising : (r : SampleRate) → rising_row 576 (get_or long_rows (row_of r) []) ≡ true
unfolding every rising rising_row long_rows
long-rising r = every_in (rising_row 576) [] long_rows refl (row_of r) (row_lt r)

-- ---- a long band starts at 576 at most, and no later than one after it
pub long-tops : (r : SampleRate) (i : ℕ) → long_start r i ≤ 576
unfolding long_start
long-tops r i = tops 576 (get_or long_rows (row_of r) []) (long-rising r) i

pub long-rises : (r : SampleRate) (i n : ℕ) → long_start r i ≤ long_start r (i + n)
unfolding long_start
long-rises r i zero = rw add-zero (omega arith)
long-rises r i (suc n) =
    let p : i + suc n ≡ suc (i + n) = omega arith in
    omega (arith, long-rises r i n, rises 576 (get_or long_rows (row_of r) []) (long-rising r) (i + n), ap (λ (k : ℕ). get_or (get_or long_rows (row_of r) []) k 576) p)

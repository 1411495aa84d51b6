-- One frequency of a band: three numbers more are copied in their new order. One band of a slot: what is in order grows by it.
use mathlib.Core.Path.{◌≡◌, sym, ap, ◌∙◌}
use mathlib.Core.List.{List, ◌++◌, append_assoc, append-nil}
use Prim.Native.Nat.{ℕ, ◌+◌, ◌-◌, ◌*◌, ◌≤◌, ◌<◌}
use native.Mathlib.Omega.{arith}
use lib.IntN.{ℤ, pos}
use lib.ListN.{length, get_or, take, drop, set, drop_of_length-le, length-take}
use lib.Seq.{paste, length-paste, take-paste, take_all}
use Rattle.std.proofs.lemmas.List.{take-take}
use Rattle.standard.specs.Bands.{short_start}
use Rattle.standard.specs.Reorder.{order_of, gathered, reordered_from, band_numbers}
use Rattle.standard.specs.CopyLaws.{Copying, copying_turn}
use Rattle.standard.proofs.ReorderLaws.{band_first, band_second, band_third, length-band_numbers, order_band, order_end, short_rises, short_tops}
use Rattle.standard.specs.declared.SampleRate.{SampleRate}

pub band_turn : (old d₀ d left : List ℤ) (from w j at : ℕ) → Copying (band_numbers from w old) d₀ d from (3 * j) → at ≡ from + 3 * j → j < w
    → from + 3 * w ≤ length d₀
    → left ≡ set (set (set d at (get_or old (from + j) (pos 0))) (at + 1) (get_or old (from + w + j) (pos 0))) (at + 2) (get_or old (from + 2 * w + j) (pos 0))
    → Copying (band_numbers from w old) d₀ left from (3 * (j + 1))
band_turn old d₀ d left from w j at r e h l s =
    let n = length-band_numbers from w old in
    let one = copying_turn _ d₀ d from (3 * j) r (pos 0) at _ e (sym (band_first from w old j h)) (omega arith) (omega arith) in
    let two = copying_turn _ d₀ _ from (3 * j + 1) one (pos 0) (at + 1) _ (omega arith) (sym (band_second from w old j h)) (omega arith) (omega arith) in
    let q : 3 * j + 1 + 1 ≡ 3 * j + 2 = omega arith in
    let three = copying_turn _ d₀ _ from (3 * j + 2) (rw q at two) (pos 0) (at + 2) _ (omega arith) (sym (band_third from w old j h)) (omega arith)
    (omega arith) in
    let p : 3 * j + 2 + 1 ≡ 3 * (j + 1) = omega arith in
    rw s (rw p at three)

-- ---- the bands in turn, of 576 numbers: those from the first short one to before the k-th stand in their new order, and what remains of the order
-- is theirs from the k-th on
pub record Ordered (rate : SampleRate) (first : ℕ) (d₀ d : List ℤ) (k : ℕ) : Type 0 where
  pub some : k ≤ 13
  pub long : length d ≡ 576
  pub same : reordered_from rate first d₀ ≡ take (3 * short_start rate k) d ++ gathered (order_of rate k) d₀

pub ordered-begin : (rate : SampleRate) (first : ℕ) (d : List ℤ) → first ≤ 13 → length d ≡ 576 → Ordered rate first d d first
unfolding reordered_from
ordered-begin rate first d l h = record {
  some = l;
  long = h;
  same =
      (λ j. take (3 * short_start rate first) d ++ gathered (order_of rate first) (take_all 576 d (omega arith) j) ++ drop_of_length-le d {i = 576} (omega arith) j)
      ∙ append-nil (take (3 * short_start rate first) d ++ gathered (order_of rate first) d);
}

-- a band's start and end, for one of three windows
pub within : (rate : SampleRate) (k : ℕ) {b c : ℕ} → b ≡ short_start rate k → c ≡ short_start rate (k + 1) → (b ≤ c) × (c ≤ 192)
within rate k p q = (omega (arith, p, q, short_rises rate k), omega (arith, q, short_tops rate (k + 1)))

module _ (rate : SampleRate) (first : ℕ) (d₀ d : List ℤ) (k : ℕ) (r : Ordered rate first d₀ d k) where
  pub ordered-turn : (b c : ℕ) (left : List ℤ) → b ≡ short_start rate k → c ≡ short_start rate (k + 1) → k < 13
      → left ≡ paste d (3 * b) (band_numbers (3 * b) (c - b) d₀) (3 * (c - b)) → Ordered rate first d₀ left (k + 1)
  ordered-turn b c left p q h s = record {
    some = omega arith;
    long = ap length is ∙ length-paste d (3 * sb) band n (omega (arith, r.long, rise, top)) (omega (arith, many)) ∙ r.long;
    same =
        r.same
        ∙ ap (λ (l : List ℤ). take (3 * sb) d ++ l) (order_band rate k d₀ h)
        ∙ sym (append_assoc (take (3 * sb) d) band (gathered (order_of rate (k + 1)) d₀))
        ∙ ap (λ (l : List ℤ). l ++ gathered (order_of rate (k + 1)) d₀) (sym front);
  }
    where
      sb : ℕ
      sb = short_start rate k

      n : ℕ
      n = 3 * (short_start rate (k + 1) - short_start rate k)

      band : List ℤ
      band = band_numbers (3 * short_start rate k) (short_start rate (k + 1) - short_start rate k) d₀

      top : short_start rate (k + 1) ≤ 192
      top = short_tops rate (k + 1)

      rise : short_start rate k ≤ short_start rate (k + 1)
      rise = short_rises rate k

      many : length band ≡ n
      many = length-band_numbers (3 * short_start rate k) (short_start rate (k + 1) - short_start rate k) d₀

      reach : 3 * sb + n ≡ 3 * short_start rate (k + 1)
      reach = omega (arith, rise)

      is : left ≡ paste d (3 * sb) band n
      is = s ∙ (λ j. paste d (3 * p j) (band_numbers (3 * p j) (q j - p j) d₀) (3 * (q j - p j)))

      front : take (3 * short_start rate (k + 1)) left ≡ take (3 * sb) d ++ band
      front =
          (λ j. take (sym reach j) (is j))
          ∙ take-paste d (3 * sb) band n (omega (arith, r.long, rise, top)) (omega (arith, many))
          ∙ ap (λ (l : List ℤ). take (3 * sb) d ++ l) (take_all n band (omega (arith, many)))

  pub ordered_end : 13 ≤ k → d ≡ reordered_from rate first d₀
  ordered_end h =
      let e : k ≡ 13 = omega (arith, r.some) in
      let whole = take (3 * short_start rate 13) d ++ gathered (order_of rate 13) d₀ in
      sym
      (r.same
      ∙ ap (λ (m : ℕ). take (3 * short_start rate m) d ++ gathered (order_of rate m) d₀) e
      ∙ sym (append-nil whole)
      ∙ ap (λ (l : List ℤ). whole ++ l) (sym (drop_of_length-le d {i = 576} (omega (arith, r.long))))
      ∙ order_end rate d d₀)

-- the first 576 of more numbers, and the others as they are
pub reordered-first : (rate : SampleRate) (k : ℕ) (d : List ℤ)
    → reordered_from rate k (take 576 d) ++ drop 576 d ≡ reordered_from rate k d
unfolding reordered_from
reordered-first rate k d =
    (λ j. take-take (3 * short_start rate k) 576 d (omega (arith, short_tops rate k)) j ++ gathered (order_of rate k) (take-take 576 576 d (omega arith) j)
    ++ drop_of_length-le (take 576 d) {i = 576} (omega (arith, length-take 576 d)) j ++ drop 576 d)
    ∙ ap (λ (l : List ℤ). l ++ drop 576 d) (append-nil (take (3 * short_start rate k) d ++ gathered (order_of rate k) (take 576 d)))

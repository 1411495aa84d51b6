-- A number's digits from the last to the first: what is spelt so far, and that the digits of the rest belong in front of it.
use mathlib.Core.Path.{◌≡◌, sym, ap, ◌∙◌, subst, subst⁻¹}
use mathlib.Core.Bool.{Bool}
use mathlib.Core.List.{List, [], ◌∷◌, ◌++◌, append_assoc, append-nil}
use Prim.Native.Nat.{ℕ, zero, suc, ◌+◌, ◌-◌, ◌/◌, ◌%◌, ◌^◌, ◌≤◌, ◌<◌}
use native.Mathlib.Omega.{arith}
use native.Mathlib.Nat.{div-lt_iff_lt-mul, pow-suc}
use borrow.Author.Tests.{le-ltb, lt-ltb}
use lib.ListN.{length, drop, set, length-set, drop_of_length-le}
use lib.Seq.{drop-cons, drop-set-lt, get_or-set_same}
use Rattle.standard.specs.Told.{pick}
use Rattle.lines.specs.Text.{digits_of, decimal_of}

pub record Spelling (n : ℕ) (digits : List ℕ) (i rest : ℕ) : Type 0 where
  pub low : 0 < i
  pub high : i ≤ 20
  pub long : length digits ≡ 20
  pub small : rest < 10 ^ i
  pub same : decimal_of n ≡ digits_of i rest ++ drop i digits

pub begin : (n : ℕ) (digits : List ℕ) → length digits ≡ 20 → n < 2 ^ 64 → Spelling n digits 20 n
unfolding decimal_of
begin n digits l h = record {
  low = omega arith;
  high = omega arith;
  long = l;
  small = omega arith;
  same =
      let k : length digits ≤ 20 = omega arith in sym
      (ap (λ (x : List ℕ). digits_of 20 n ++ x) (drop_of_length-le digits {i = 20} k) ∙ append-nil (digits_of 20 n));
}

-- what stands from a place on, once a byte is stored there
stored : (d : List ℕ) (j v : ℕ) → j < length d → drop j (set d j v) ≡ v ∷ drop (suc j) d
stored d j v h =
    drop-cons (set d j v) j 0 (simp length-set h)
    ∙ (λ t. get_or-set_same d j v 0 h t ∷ drop-set-lt (suc j) d j v (omega arith) t)

-- a number of more than one digit has room for two
pub two_left : (i rest : ℕ) → 0 < i → rest < 10 ^ i → 9 < rest → 1 < i
two_left zero rest l h g = absurd (omega arith)
two_left (suc zero) rest l h g = absurd (omega arith)
two_left (suc (suc i)) rest l h g = omega arith

module _ (n : ℕ) (d : List ℕ) (j rest : ℕ) (r : Spelling n d (suc j) rest) where
  one_more : 9 < rest → Spelling n (set d j (48 + rest % 10)) j (rest / 10)
  unfolding digits_of pick
  one_more g = record {
    low = omega (arith, two_left (suc j) rest r.low r.small g);
    high = omega (arith, r.high);
    long = length-set d j _ ∙ r.long;
    small = (div-lt_iff_lt-mul {k = 10} {x = rest} {y = 10 ^ j} (omega arith)).1 (subst (λ (m : ℕ). rest < m) (pow-suc 10 j) r.small);
    same =
        r.same
        ∙ ap (λ (b : Bool). pick b ((48 + rest) ∷ []) (digits_of j (rest / 10) ++ ((48 + rest % 10) ∷ [])) ++ drop (suc j) d) (le-ltb rest 10 g)
        ∙ append_assoc (digits_of j (rest / 10)) ((48 + rest % 10) ∷ []) (drop (suc j) d)
        ∙ ap (λ (x : List ℕ). digits_of j (rest / 10) ++ x) (sym (stored d j (48 + rest % 10) (omega (arith, r.long, r.high))));
  }

  the_last : rest ≤ 9 → drop j (set d j (48 + rest)) ≡ decimal_of n
  unfolding digits_of pick
  the_last g =
      stored d j (48 + rest) (omega (arith, r.long, r.high))
      ∙ sym (r.same
      ∙ ap (λ (b : Bool). pick b ((48 + rest) ∷ []) (digits_of j (rest / 10) ++ ((48 + rest % 10) ∷ [])) ++ drop (suc j) d) (lt-ltb rest 10 (omega arith)))

-- one place before i
before : (i : ℕ) → 0 < i → suc (i - 1) ≡ i
before i h = omega arith

module _ (n : ℕ) (d : List ℕ) (i rest : ℕ) (r : Spelling n d i rest) where
  pub turn : 9 < rest → Spelling n (set d (i - 1) (48 + rest % 10)) (i - 1) (rest / 10)
  turn = one_more n d (i - 1) rest (subst⁻¹ (λ (k : ℕ). Spelling n d k rest) (before i r.low) r)

  pub last : rest ≤ 9 → drop (i - 1) (set d (i - 1) (48 + rest)) ≡ decimal_of n
  last = the_last n d (i - 1) rest (subst⁻¹ (λ (k : ℕ). Spelling n d k rest) (before i r.low) r)

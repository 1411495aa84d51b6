-- A number, two and a pair own the bits of their parts, one part after the other.
use Rattle.std.specs.Prelude.{Some, None, Ok, Err}
use mathlib.Core.Path.{◌≡◌, refl, ap, subst, ◌∙◌}
use mathlib.Core.Bool.{Bool}
use mathlib.Core.List.{List}
use Prim.Native.Nat.{ℕ, zero, suc, ◌+◌, ◌-◌, ◌/◌, ◌%◌, ◌≤◌, ◌<◌}
use native.Mathlib.Decide.{dec_le}
use native.Mathlib.Omega.{arith}
use borrow.Author.Tests.{le-leb, lt-leb, eq-eqb, ne_eqb}
use lib.IntN.{ℤ, pos}
use lib.ListN.{length, take, drop}
use Rattle.standard.specs.ToldLaws.{picked, passed}
use Rattle.standard.specs.Bits.{bit_at, bits, value, field_at}
use Rattle.standard.specs.BitsLaws.{drop_bits, take-bits, length-bits}
use Rattle.standard.specs.Codes.{escape_width, word_of, taken}
use Rattle.standard.specs.Numbers.{escaped, magnitude_of, sign_of, signed, further, then_sign, number_in, two_last, two_first, two_of, pair_after, pair_word, pair_of}
use Rattle.standard.specs.declared.Refusal.TheVariants.{PairOverrun}
use Rattle.standard.specs.declared.Unread.TheVariants.{Cut}
use Rattle.huffman.specs.Owns.{Owns}

-- ---- in general
-- one reader after another
pub in_turn : {A B : Type 0} (f : List Bool → A) (g c : List Bool → B) (fgood fbad : A) (good bad : B) (s : List ℕ) (at n k : ℕ)
    → Owns f fgood fbad s at n → Owns g good bad s (at + n) k
    → ((b : List Bool) → f b ≡ fgood → c b ≡ g (drop n b)) → ((b : List Bool) → f b ≡ fbad → c b ≡ bad)
    → Owns c good bad s at (n + k)
in_turn f g c fgood fbad good bad s at n k p q then else = record { whole = whole; short = short }
  where
    whole : (m : ℕ) → n + k ≤ m → c (bits s at m) ≡ good
    whole m h = then (bits s at m) (p.whole m (omega arith)) ∙ ap g (drop_bits n s at m) ∙ q.whole (m - n) (omega arith)

    short : (m : ℕ) → m < n + k → c (bits s at m) ≡ bad
    short m h =
        elim (dec_le n m) [
          | yes j ↦ then (bits s at m) (p.whole m j) ∙ ap g (drop_bits n s at m) ∙ q.short (m - n) (omega arith)
          | no j ↦ else (bits s at m) (p.short m (omega arith))
        ]

-- what is made of its answer
pub made : {A B : Type 0} (h : A → B) (f : List Bool → A) (good bad : A) (s : List ℕ) (at n : ℕ) → Owns f good bad s at n
    → Owns (λ (b : List Bool). h (f b)) (h good) (h bad) s at n
made h f good bad s at n p = record { whole = λ m g. ap h (p.whole m g); short = λ m g. ap h (p.short m g) }

-- ---- one number
pub magnitude_plain : (w v : ℕ) → (v ≡ 15 → ⊥) → (s : List ℕ) (at : ℕ) → Owns (magnitude_of w v) (Some (taken v 0)) None s at 0
unfolding magnitude_of
magnitude_plain w v h s at =
    record { whole = λ m g. passed (escaped w (bits s at m)) (ne_eqb v 15 h); short = λ m g. absurd (omega arith) }

pub magnitude_escaped : (w v : ℕ) → v ≡ 15 → (s : List ℕ) (at : ℕ) → Owns (magnitude_of w v) (Some (taken (15 + field_at s at w) w)) None s at w
unfolding magnitude_of escaped field_at
magnitude_escaped w v e s at =
    record {
      whole = λ m g.
          picked (Some (taken v 0)) (eq-eqb v 15 e)
          ∙ picked None (le-leb w (length (bits s at m)) (omega (arith, length-bits s at m)))
          ∙ ap (λ (b : List Bool). Some (taken (15 + value b) w)) (take-bits w s at m g);
      short = λ m g.
          picked (Some (taken v 0)) (eq-eqb v 15 e)
          ∙ passed (Some (taken (15 + value (take w (bits s at m))) w)) (lt-leb w (length (bits s at m)) (omega (arith, length-bits s at m)));
    }

pub signed-none : (s : List ℕ) (at : ℕ) → Owns (signed 0) (Some (taken (pos 0) 0)) None s at 0
unfolding signed
signed-none s at = record { whole = λ m g. refl; short = λ m g. absurd (omega arith) }

signed_by : (v : ℕ) (s : List ℕ) (at m : ℕ) → 1 ≤ m → signed (suc v) (bits s at m) ≡ Some (taken (sign_of (bit_at s at) (suc v)) 1)
unfolding signed bits
signed_by v s at zero g = absurd (omega arith)
signed_by v s at (suc m) g = refl

signed-without : (v : ℕ) (s : List ℕ) (at m : ℕ) → m < 1 → signed (suc v) (bits s at m) ≡ None
unfolding signed bits
signed-without v s at zero g = refl
signed-without v s at (suc m) g = absurd (omega arith)

pub signed-some : (v : ℕ) (s : List ℕ) (at : ℕ) → Owns (signed (suc v)) (Some (taken (sign_of (bit_at s at) (suc v)) 1)) None s at 1
signed-some v s at = record { whole = signed_by v s at; short = signed-without v s at }

pub number_owns : (w v a u k : ℕ) (z : ℤ) (s : List ℕ) (at : ℕ) → Owns (magnitude_of w v) (Some (taken a u)) None s at u
    → Owns (signed a) (Some (taken z k)) None s (at + u) k → Owns (number_in w v) (Some (taken z (u + k))) None s at (u + k)
unfolding number_in then_sign further
number_owns w v a u k z s at p q =
    in_turn (magnitude_of w v) (λ (b : List Bool). further u (signed a b)) (number_in w v) (Some (taken a u)) None (Some (taken z (u + k))) None s at u k p
    (made (further u) (signed a) (Some (taken z k)) None s (at + u) k q) (λ b e. ap (then_sign b) e) (λ b e. ap (then_sign b) e)

-- a value that is not 15 has no escape
pub number_plain : (w v k : ℕ) (z : ℤ) → (v ≡ 15 → ⊥) → (s : List ℕ) (at : ℕ) → Owns (signed v) (Some (taken z k)) None s at k
    → Owns (number_in w v) (Some (taken z k)) None s at k
number_plain w v k z h s at o =
    let a : at ≡ at + 0 = omega arith in
    let u : 0 + k ≡ k = omega arith in
    subst (λ (i : ℕ). Owns (number_in w v) (Some (taken z i)) None s at i) u
    (number_owns w v v 0 k z s at (magnitude_plain w v h s at) (subst (λ (i : ℕ). Owns (signed v) (Some (taken z k)) None s i k) a o))

-- ---- two, and a pair
pub two_owns : (w x y k n : ℕ) (p q : ℤ) (s : List ℕ) (at : ℕ) → Owns (number_in w x) (Some (taken p k)) None s at k
    → Owns (number_in w y) (Some (taken q n)) None s (at + k) n → Owns (two_of w x y) (Ok (taken (p, q) (k + n))) (Err PairOverrun) s at (k + n)
unfolding two_of two_first two_last
two_owns w x y k n p q s at f g =
    in_turn (number_in w x) (λ (b : List Bool). two_last p k (number_in w y b)) (two_of w x y) (Some (taken p k)) None (Ok (taken (p, q) (k + n))) (Err PairOverrun) s at k n f
    (made (two_last p k) (number_in w y) (Some (taken q n)) None s (at + k) n g) (λ b e. ap (two_first w y b) e) (λ b e. ap (two_first w y b) e)

pub pair-owns : (t v n k : ℕ) (p q : ℤ) (s : List ℕ) (at : ℕ) → Owns (word_of t) (Ok (taken v n)) (Err Cut) s at n
    → Owns (two_of (escape_width t) (v / 16) (v % 16)) (Ok (taken (p, q) k)) (Err PairOverrun) s (at + n) k
    → Owns (pair_of word_of t) (Ok (taken (p, q) (n + k))) (Err PairOverrun) s at (n + k)
unfolding pair_of pair_word pair_after
pair-owns t v n k p q s at f g =
    in_turn (word_of t) (λ (b : List Bool). pair_after n (two_of (escape_width t) (v / 16) (v % 16) b)) (pair_of word_of t) (Ok (taken v n)) (Err Cut) (Ok (taken (p, q) (n + k))) (Err PairOverrun) s at n k f
    (made (pair_after n) (two_of (escape_width t) (v / 16) (v % 16)) (Ok (taken (p, q) k)) (Err PairOverrun) s (at + n) k g) (λ b e. ap (pair_word (escape_width t) b) e) (λ b e. ap (pair_word (escape_width t) b) e)

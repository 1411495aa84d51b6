-- Numbers out of a word: each part is cut out of it where the bytes have it.
use Rattle.std.specs.Prelude.{Some, None, Ok, Err}
use mathlib.Core.Path.{◌≡◌, refl, sym, ap, subst, ◌∙◌}
use mathlib.Core.Bool.{Bool, true, false}
use mathlib.Core.List.{List}
use Prim.Native.Nat.{ℕ, zero, suc, ◌+◌, ◌-◌, ◌*◌, ◌/◌, ◌%◌, ◌^◌, ◌≤◌, ◌<◌, min}
use native.Mathlib.Omega.{arith}
use lib.Dec.{eqb}
use lib.Pow.{shr_lt, pow_mono}
use lib.IntN.{ℤ, pos}
use Rattle.standard.specs.Bits.{bit_at, field_at, bits, value, value_from}
use Rattle.standard.specs.BitsLaws.{field_at_one, one-is}
use Rattle.standard.specs.Numbers.{magnitude_of, sign_of, signed, number_in, two_of}
use Rattle.standard.specs.declared.Refusal.TheVariants.{PairOverrun}
use Rattle.standard.specs.Codes.{taken}
use Rattle.huffman.specs.Owns.{Owns}
use Rattle.huffman.specs.Ahead.{Ahead}
use Rattle.huffman.proofs.Owning.{magnitude_escaped, signed-none, signed-some, number_owns, two_owns}

-- the bit of a word after the first so many
bit_is : (s : List ℕ) (p word gone : ℕ) → Ahead word s p → gone < 57 → eqb ((word * 2 ^ gone) % 2 ^ 64 / 2 ^ 63) 1 ≡ bit_at s (p + gone)
bit_is s p word gone e h =
    ap (λ (n : ℕ). eqb n 1) (e gone 1 (omega arith) ∙ field_at_one s (p + gone)) ∙ one-is (bit_at s (p + gone))

no_sign : (x : Bool) → sign_of x 0 ≡ pos 0
unfolding sign_of
no_sign true = refl
no_sign false = refl

-- a magnitude v, whose sign is that bit
pub signed_is : (v : ℕ) (s : List ℕ) (p word gone used : ℕ) (minus : Bool) (z : ℤ) → Ahead word s p → gone < 57 → used ≡ min v 1
    → minus ≡ eqb ((word * 2 ^ gone) % 2 ^ 64 / 2 ^ 63) 1 → z ≡ sign_of minus v → Owns (signed v) (Some (taken z used)) None s (p + gone) used
signed_is zero s p word gone used minus z e h u m q =
    let o : 0 ≡ used = omega (arith, u) in
    let y : pos 0 ≡ z = sym (q ∙ no_sign minus) in
    subst (λ (k : ℕ). Owns (signed 0) (Some (taken z k)) None s (p + gone) k) o
    (subst (λ (i : ℤ). Owns (signed 0) (Some (taken i 0)) None s (p + gone) 0) y (signed-none s (p + gone)))
signed_is (suc v) s p word gone used minus z e h u m q =
    let o : 1 ≡ used = omega (arith, u) in
    let y : sign_of (bit_at s (p + gone)) (suc v) ≡ z = sym (q ∙ ap (λ (x : Bool). sign_of x (suc v)) (m ∙ bit_is s p word gone e h)) in
    subst (λ (k : ℕ). Owns (signed (suc v)) (Some (taken z k)) None s (p + gone) k) o
    (subst (λ (i : ℤ). Owns (signed (suc v)) (Some (taken i 1)) None s (p + gone) 1) y (signed-some v s (p + gone)))

-- a value v with its escape
pub extent_none : (v : ℕ) (s : List ℕ) (at : ℕ) → v ≡ 15 → Owns (magnitude_of 0 v) (Some (taken v 0)) None s at 0
unfolding field_at value value_from bits
extent_none v s at e = subst (λ (k : ℕ). Owns (magnitude_of 0 v) (Some (taken k 0)) None s at 0) (sym e) (magnitude_escaped 0 v e s at)

pub extent_some : (w v : ℕ) (s : List ℕ) (p word gone : ℕ) → v ≡ 15 → Ahead word s p → gone + w < 57
    → Owns (magnitude_of w v) (Some (taken (15 + (word * 2 ^ gone) % 2 ^ 64 / 2 ^ (64 - w)) w)) None s (p + gone) w
extent_some w v s p word gone e h g =
    subst (λ (k : ℕ). Owns (magnitude_of w v) (Some (taken (15 + k) w)) None s (p + gone) w) (sym (h gone w (omega arith)))
    (magnitude_escaped w v e s (p + gone))

-- the parts one after the other
further-on : {A : Type 0} (f : List Bool → A) (good bad : A) (s : List ℕ) (p gone u n : ℕ) → Owns f good bad s (p + (gone + u)) n → Owns f good bad s (p + gone + u) n
further-on f good bad s p gone u n o =
    let e : p + (gone + u) ≡ p + gone + u = omega arith in
    subst (λ (k : ℕ). Owns f good bad s k n) e o

pub number_is : (w v a u k : ℕ) (z : ℤ) (s : List ℕ) (p gone : ℕ) → Owns (magnitude_of w v) (Some (taken a u)) None s (p + gone) u
    → Owns (signed a) (Some (taken z k)) None s (p + (gone + u)) k → Owns (number_in w v) (Some (taken z (u + k))) None s (p + gone) (u + k)
number_is w v a u k z s p gone f g = number_owns w v a u k z s (p + gone) f (further-on (signed a) (Some (taken z k)) None s p gone u k g)

pub two_is : (w x y k n : ℕ) (i j : ℤ) (s : List ℕ) (p gone : ℕ) → Owns (number_in w x) (Some (taken i k)) None s (p + gone) k
    → Owns (number_in w y) (Some (taken j n)) None s (p + (gone + k)) n → Owns (two_of w x y) (Ok (taken (i, j) (k + n))) (Err PairOverrun) s (p + gone) (k + n)
two_is w x y k n i j s p gone f g = two_owns w x y k n i j s (p + gone) f (further-on (number_in w y) (Some (taken j n)) None s p gone k n g)

-- the top w bits of 64
pub top_lt : (x w : ℕ) → w ≤ 13 → x % 2 ^ 64 / 2 ^ (64 - w) < 8192
top_lt x w h =
    let e : 64 ≡ w + (64 - w) = omega arith in
    let b : x % 2 ^ 64 < 2 ^ 64 = omega arith in
    let l = shr_lt {n = x % 2 ^ 64} w (64 - w) (subst (λ (k : ℕ). x % 2 ^ 64 < 2 ^ k) e b) in
    let g : 2 ^ w ≤ 2 ^ 13 = pow_mono h in
    omega (arith, l, g)

-- Bits of a word of 64: what a shift up and a shift down cut out of it.
use mathlib.Core.Path.{◌≡◌, sym, ap, ◌∙◌}
use mathlib.Core.Bool.{Bool, false}
use mathlib.Core.List.{List}
use Prim.Native.Nat.{ℕ, ◌+◌, ◌-◌, ◌*◌, ◌/◌, ◌%◌, ◌^◌, ◌≤◌, ◌<◌}
use native.Mathlib.Nat.{mul_assoc, add-mul, div-add-mod, mul-add-mod_self_left}
use native.Mathlib.Omega.{arith}
use lib.Arith.{digits_div, digits_mod}
use lib.Dec.{eqb}
use lib.ListN.{get_or}
use lib.Pow.{pow-add, shl_lt, shl-shr, shr-shr}
use lib.Seq.{ext_get_or}
use Rattle.standard.specs.Bits.{one, bit_at, bits, value, field_at}
use Rattle.standard.specs.BitsLaws.{field_at_add, field_at_lt, field_at_one, one-is, length-bits, get_d_bits}
use Rattle.standard.specs.Written.{bits_of, length-bits_of, value-bits_of, pack, bits-pack}
use Rattle.huffman.specs.Ahead.{Ahead}
use Rattle.huffman.specs.Found.{bytes_of}

-- ---- cut out
-- o bits gone, k wanted, m after them
cut_up : (a g o n : ℕ) → g < 2 ^ n → (a * 2 ^ n + g) * 2 ^ o % 2 ^ (n + o) ≡ g * 2 ^ o
cut_up a g o n h =
    ap (λ (x : ℕ). x % 2 ^ (n + o))
    (add-mul (a * 2 ^ n) g (2 ^ o) ∙ ap (λ (x : ℕ). x + g * 2 ^ o) (mul_assoc a (2 ^ n) (2 ^ o) ∙ ap (λ (x : ℕ). a * x) (sym (pow-add 2 n o))))
    ∙ digits_mod a (shl_lt n o h)

cut_down : (f r o m : ℕ) → r < 2 ^ m → (f * 2 ^ m + r) * 2 ^ o / 2 ^ (o + m) ≡ f
cut_down f r o m h =
    sym (shr-shr ((f * 2 ^ m + r) * 2 ^ o) o m) ∙ ap (λ (x : ℕ). x / 2 ^ m) (shl-shr (f * 2 ^ m + r) o) ∙ digits_div f h

cut_of : (s : List ℕ) (p o k m : ℕ) → field_at s p (o + (k + m)) * 2 ^ o % 2 ^ ((k + m) + o) / 2 ^ (o + m) ≡ field_at s (p + o) k
cut_of s p o k m =
    ap (λ (x : ℕ). x * 2 ^ o % 2 ^ ((k + m) + o) / 2 ^ (o + m)) (field_at_add s p o (k + m))
    ∙ ap (λ (x : ℕ). x / 2 ^ (o + m)) (cut_up (field_at s p o) (field_at s (p + o) (k + m)) o (k + m) (field_at_lt s (p + o) (k + m)))
    ∙ ap (λ (x : ℕ). x * 2 ^ o / 2 ^ (o + m)) (field_at_add s (p + o) k m)
    ∙ cut_down (field_at s (p + o) k) (field_at s (p + o + k) m) o m (field_at_lt s (p + o + k) m)

-- the k bits of a word after the first o
word_cut : (s : List ℕ) (p word o k : ℕ) → word ≡ field_at s p 64 → o + k ≤ 64
    → (word * 2 ^ o) % 2 ^ 64 / 2 ^ (64 - k) ≡ field_at s (p + o) k
word_cut s p word o k e h =
    let m = 64 - o - k in
    let a : o + (k + m) ≡ 64 = omega arith in
    let b : (k + m) + o ≡ 64 = omega arith in
    let d : o + m ≡ 64 - k = omega arith in
    (λ j. (e ∙ ap (field_at s p) (sym a)) j * 2 ^ o % 2 ^ (sym b j) / 2 ^ (sym d j)) ∙ cut_of s p o k m

mod_times : (x c m : ℕ) → x % m * c % m ≡ x * c % m
mod_times x c m =
    sym
    (ap (λ (n : ℕ). n * c % m) (sym (div-add-mod x m))
    ∙ ap (λ (n : ℕ). n % m) (add-mul (m * (x / m)) (x % m) c ∙ ap (λ (n : ℕ). n + x % m * c) (mul_assoc m (x / m) c))
    ∙ mul-add-mod_self_left m (x / m * c) (x % m * c))

-- a word of bytes, turned up to the bit of a place
pub ahead_of : (s : List ℕ) (at word : ℕ) → word ≡ field_at s (8 * (at / 8)) 64 → Ahead ((word * 2 ^ (at % 8)) % 2 ^ 64) s at
ahead_of s at word e o k h =
    let p : 8 * (at / 8) + (at % 8 + o) ≡ at + o = omega arith in
    ap (λ (n : ℕ). n / 2 ^ (64 - k))
    (mod_times (word * 2 ^ (at % 8)) (2 ^ o) (2 ^ 64) ∙ ap (λ (n : ℕ). n % 2 ^ 64) (mul_assoc word (2 ^ (at % 8)) (2 ^ o) ∙ ap (λ (n : ℕ). word * n) (sym (pow-add 2 (at % 8) o))))
    ∙ word_cut s (8 * (at / 8)) word (at % 8 + o) k e (omega arith) ∙ ap (λ (n : ℕ). field_at s n k) p

-- ---- a word has its own bytes ahead, and so the bits of any bytes that it has ahead
pub own_ahead : (word : ℕ) → word < 2 ^ 64 → Ahead word (bytes_of word) 0
unfolding bytes_of field_at
own_ahead word h o k l =
    let e : word ≡ value (bits (pack 8 (bits_of 64 word)) 0 64) =
    sym (ap value (bits-pack 8 (bits_of 64 word) (length-bits_of 64 word)) ∙ value-bits_of 64 word h) in
    word_cut (bytes_of word) 0 word o k e (omega arith)

pub bits-ahead : (word : ℕ) (s : List ℕ) (p : ℕ) → word < 2 ^ 64 → Ahead word s p → bits s p 57 ≡ bits (bytes_of word) 0 57
bits-ahead word s p h a =
    ext_get_or false (bits s p 57) (bits (bytes_of word) 0 57) (length-bits s p 57 ∙ sym (length-bits (bytes_of word) 0 57)) (λ i l. at i (rw length-bits at l))
  where
    same_one : (x y : Bool) → one x ≡ one y → x ≡ y
    same_one x y e = sym (one-is x) ∙ ap (λ (n : ℕ). eqb n 1) e ∙ one-is y

    at : (i : ℕ) → i < 57 → get_or (bits s p 57) i false ≡ get_or (bits (bytes_of word) 0 57) i false
    at i l =
        get_d_bits 57 s p i l
        ∙ same_one (bit_at s (p + i)) (bit_at (bytes_of word) (0 + i))
        (sym (field_at_one s (p + i)) ∙ sym (a i 1 (omega arith)) ∙ own_ahead word h i 1 (omega arith) ∙ field_at_one (bytes_of word) (0 + i))
        ∙ sym (get_d_bits 57 (bytes_of word) 0 i l)

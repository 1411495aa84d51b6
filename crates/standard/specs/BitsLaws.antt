-- Laws of bits by place: past the end, how many, what is left after some, and bytes after and before them; of windows; and of the number
-- that bits spell.
use Rattle.std.specs.Prelude.{◌≡◌, refl, Bool, true, false, List, [], ◌∷◌, ◌++◌, ℕ, zero, suc, ◌+◌, ◌-◌, ◌*◌, ◌/◌, ◌%◌, ◌^◌, ◌≤◌, ◌<◌, eqb, length, get_or, take, drop}
use Rattle.std.proofs.Common.{sym, ap, ◌∙◌, append_assoc, add-zero, add_assoc, add-mul, mul_assoc, mul_left_comm, mul_comm, mul-one, le_of_eq, mod-eq_of_lt, add-one, arith, length-take, length-drop, take-append-drop, pow_pos, get_or-append-add}
use Rattle.std.proofs.Math.Nat.{zero-sub, sub-zero, zero-div, pow-succ', mul-add-div_right, div-eq_of_lt, div-div-eq-div-mul, mul-add-mod_self_right}
use Rattle.std.proofs.Math.ListN.{get_or-append, get_or-eq_default}
use Rattle.standard.specs.Bits.{bit_at, bits, between, one, value_from, value, field, flag, field_at}

-- ---- bits by place
pub bit_at_past : (s : List ℕ) (i : ℕ) → length s ≤ i / 8 → bit_at s i ≡ false
unfolding bit_at
bit_at_past s i h = rw (get_or-eq_default s 0 h, zero-div)

pub length-bits : (s : List ℕ) (at n : ℕ) → length (bits s at n) ≡ n
unfolding bits
length-bits s at zero = refl
length-bits s at (suc n) = ap suc (length-bits s (suc at) n)

-- what is left after k bits, whatever k is
pub drop_bits : (k : ℕ) (s : List ℕ) (at n : ℕ) → drop k (bits s at n) ≡ bits s (at + k) (n - k)
unfolding bits
drop_bits zero s at n = rw (add-zero, sub-zero)
drop_bits (suc k) s at zero = rw zero-sub
drop_bits (suc k) s at (suc n) =
    drop_bits k s (suc at) n ∙ ap (λ (i : ℕ). bits s i (n - k)) p ∙ ap (bits s (at + suc k)) q
  where
    p : suc at + k ≡ at + suc k
    p = omega arith

    q : n - k ≡ suc n - suc k
    q = omega arith

-- bytes after them change no bit of xs
pub bit_at_append : (xs ys : List ℕ) (i : ℕ) → i < 8 * length xs → bit_at (xs ++ ys) i ≡ bit_at xs i
unfolding bit_at
bit_at_append xs ys i h =
    let p : i / 8 < length xs = omega arith in
    ap (λ (b : ℕ). eqb (b / 2 ^ (7 - i % 8) % 2) 1) (get_or-append xs ys 0 (i / 8) p)

pub bits-append : (xs ys : List ℕ) (n at : ℕ) → at + n ≤ 8 * length xs → bits (xs ++ ys) at n ≡ bits xs at n
unfolding bits
bits-append xs ys zero at h = refl
bits-append xs ys (suc n) at h =
    let p : at < 8 * length xs = omega arith in
    let q : suc at + n ≤ 8 * length xs = omega arith in
    λ i. bit_at_append xs ys at p i ∷ bits-append xs ys n (suc at) q i

pub bits-add : (s : List ℕ) (m at n : ℕ) → bits s at (m + n) ≡ bits s at m ++ bits s (at + m) n
unfolding bits
bits-add s zero at n =
    let p : 0 + n ≡ n = omega arith in
    let q : at ≡ at + 0 = omega arith in
    λ j. bits s (q j) (p j)
bits-add s (suc m) at n =
    let p : suc m + n ≡ suc (m + n) = omega arith in
    let q : suc at + m ≡ at + suc m = omega arith in
    ap (bits s at) p ∙ ap (λ (l : List Bool). bit_at s at ∷ l) (bits-add s m (suc at) n ∙ ap (λ (i : ℕ). bits s (suc at) m ++ bits s i n) q)

pub take-bits : (n : ℕ) (s : List ℕ) (at w : ℕ) → n ≤ w → take n (bits s at w) ≡ bits s at n
unfolding bits
take-bits zero s at w h = refl
take-bits (suc n) s at zero h = absurd (omega arith)
take-bits (suc n) s at (suc w) h = ap (λ (l : List Bool). bit_at s at ∷ l) (take-bits n s (suc at) w (omega arith))

-- ---- windows
pub between-nil : (s : List ℕ) (at e : ℕ) → e ≤ at → between s at e ≡ []
unfolding bits between
between-nil s at e h = let p : e - at ≡ 0 = omega arith in ap (bits s at) p

-- one bit is read, and the rest stays
pub between_cons : (s : List ℕ) (at e : ℕ) → at < e → between s at e ≡ bit_at s at ∷ between s (at + 1) e
unfolding bits between
between_cons s at e h =
    let p : e - at ≡ suc (e - (at + 1)) = omega arith in
    ap (bits s at) p ∙ ap (λ (i : ℕ). bit_at s at ∷ bits s i (e - (at + 1))) (sym (add-one at))

-- k bits are read, whatever k is
pub between-drop : (k : ℕ) (s : List ℕ) (at e : ℕ) → drop k (between s at e) ≡ between s (at + k) e
unfolding between
between-drop k s at e = let p : (e - at) - k ≡ e - (at + k) = omega arith in drop_bits k s at (e - at) ∙ ap (bits s (at + k)) p

pub between-length : (s : List ℕ) (at e : ℕ) → length (between s at e) ≡ e - at
unfolding between
between-length s at e = length-bits s at (e - at)

-- ---- the number that bits spell
pub one-le : (x : Bool) → one x ≤ 1
one-le true = omega arith
one-le false = omega arith

pub one-is : (x : Bool) → eqb (one x) 1 ≡ x
one-is true = refl
one-is false = refl

pub value-lt : (b : List Bool) (a i n : ℕ) → a < 2 ^ i → length b ≤ n → value_from a b < 2 ^ (i + n)
unfolding value_from
value-lt [] a i n h l = up n
  where
    up : (n : ℕ) → a < 2 ^ (i + n)
    up zero = rw add-zero h
    up (suc n) = let q : i + suc n ≡ suc (i + n) = omega arith in rw (q, pow-succ') (omega (arith, up n))
value-lt (x ∷ b) a i zero h l = absurd (omega arith)
value-lt (x ∷ b) a i (suc n) h l =
    let q : suc i + n ≡ i + suc n = omega arith in
    let k : 2 * a + one x < 2 ^ suc i = rw pow-succ' (omega (arith, one-le x)) in
    rw q at (value-lt b (2 * a + one x) (suc i) n k (omega arith))

pub field_lt : (b : List Bool) (at n : ℕ) → field b at n < 2 ^ n
unfolding field value
field_lt b at n =
    let q : 0 + n ≡ n = omega arith in
    rw q at (value-lt (take n (drop at b)) 0 0 n (omega arith) (simp length-take (omega arith)))

-- what a record of w bits has at k, its bytes have at at + k
pub field-bits : (s : List ℕ) (at w k n : ℕ) → k + n ≤ w → field (bits s at w) k n ≡ field_at s (at + k) n
unfolding field field_at
field-bits s at w k n h = ap (λ (b : List Bool). value (take n b)) (drop_bits k s at w) ∙ ap value (take-bits n s (at + k) (w - k) (omega arith))

pub field_at_lt : (s : List ℕ) (at n : ℕ) → field_at s at n < 2 ^ n
unfolding field_at value
field_at_lt s at n =
    let q : 0 + n ≡ n = omega arith in
    rw q at (value-lt (bits s at n) 0 0 n (omega arith) (le_of_eq (length-bits s at n)))

-- ---- a field of bits that were read as one number: m bits stand after it
value-shift : (y : List Bool) (a : ℕ) → value_from a y ≡ a * 2 ^ length y + value_from 0 y
unfolding value_from
value-shift [] a = simp mul-one (omega arith)
value-shift (x ∷ y) a =
    let p = 2 ^ length y in
    value-shift y (2 * a + one x)
    ∙ ap (λ (n : ℕ). n + value_from 0 y)
    (add-mul (2 * a) (one x) p ∙ ap (λ (n : ℕ). n + one x * p) (mul_assoc 2 a p ∙ mul_left_comm 2 a p ∙ ap (λ (n : ℕ). a * n) (sym (pow-succ' 2 (length y)))))
    ∙ add_assoc (a * 2 ^ suc (length y)) (one x * p) (value_from 0 y)
    ∙ ap (λ (n : ℕ). a * 2 ^ suc (length y) + n) (sym (value-shift y (2 * 0 + one x) ∙ ap (λ (n : ℕ). n * p + value_from 0 y) zero_one))
  where
    zero_one : 2 * 0 + one x ≡ one x
    zero_one = omega arith

pub value-append : (x y : List Bool) (a : ℕ) → value_from a (x ++ y) ≡ value_from (value_from a x) y
unfolding value_from
value-append [] y a = refl
value-append (z ∷ x) y a = value-append x y (2 * a + one z)

pub value-below : (b : List Bool) (n : ℕ) → length b ≡ n → value b < 2 ^ n
unfolding value
value-below b n e = let q : 0 + n ≡ n = omega arith in rw q at (value-lt b 0 0 n (omega arith) (omega arith))

pub value-two : (x y : List Bool) (n : ℕ) → length y ≡ n → value (x ++ y) ≡ value x * 2 ^ n + value y
unfolding value
value-two x y n e = value-append x y 0 ∙ value-shift y (value_from 0 x) ∙ ap (λ (k : ℕ). value_from 0 x * 2 ^ k + value_from 0 y) e

cut_out : (a f r n m : ℕ) → f < 2 ^ n → r < 2 ^ m → ((a * 2 ^ n + f) * 2 ^ m + r) / 2 ^ m % 2 ^ n ≡ f
cut_out a f r n m hf hr =
    ap (λ (k : ℕ). k % 2 ^ n) (mul-add-div_right (pow_pos m) (a * 2 ^ n + f) r ∙ ap (λ (k : ℕ). a * 2 ^ n + f + k) (div-eq_of_lt hr) ∙ add-zero (a * 2 ^ n + f))
    ∙ mul-add-mod_self_right a (2 ^ n) f ∙ mod-eq_of_lt hf

pub field-value : (b : List Bool) (k n m : ℕ) → length b ≡ k + n + m → field b k n ≡ value b / 2 ^ m % 2 ^ n
unfolding field
field-value b k n m e =
    sym
    (ap (λ (v : ℕ). v / 2 ^ m % 2 ^ n)
    (ap value
    (sym (take-append-drop k b) ∙ ap (λ (l : List Bool). take k b ++ l) (sym (take-append-drop n (drop k b)))
    ∙ sym (append_assoc (take k b) (take n (drop k b)) (drop n (drop k b))))
    ∙ value-two (take k b ++ take n (drop k b)) (drop n (drop k b)) m rest-long
    ∙ ap (λ (v : ℕ). v * 2 ^ m + value (drop n (drop k b))) (value-two (take k b) (take n (drop k b)) n field-long))
    ∙ cut_out (value (take k b)) (value (take n (drop k b))) (value (drop n (drop k b))) n m (value-below (take n (drop k b)) n field-long)
    (value-below (drop n (drop k b)) m rest-long))
  where
    rest-long : length (drop n (drop k b)) ≡ m
    rest-long = simp length-drop (omega arith)

    field-long : length (take n (drop k b)) ≡ n
    field-long = simp (length-take, length-drop) (omega arith)

-- ---- bits by their place among some
pub get_d_bits : (n : ℕ) (s : List ℕ) (at i : ℕ) → i < n → get_or (bits s at n) i false ≡ bit_at s (at + i)
unfolding bits
get_d_bits zero s at i h = absurd (omega arith)
get_d_bits (suc n) s at zero h = ap (bit_at s) (sym (add-zero at))
get_d_bits (suc n) s at (suc i) h = let p : suc at + i ≡ at + suc i = omega arith in get_d_bits n s (suc at) i (omega arith) ∙ ap (bit_at s) p

pub flag-get_d : (b : List Bool) (i : ℕ) → flag b i ≡ get_or b i false
unfolding flag field value value_from
flag-get_d [] zero = refl
flag-get_d [] (suc i) = refl
flag-get_d (true ∷ b) zero = refl
flag-get_d (false ∷ b) zero = refl
flag-get_d (x ∷ b) (suc i) = flag-get_d b i

-- bytes before them move the bits of ys
pub bit_at_after : (xs ys : List ℕ) (i : ℕ) → bit_at (xs ++ ys) (8 * length xs + i) ≡ bit_at ys i
unfolding bit_at
bit_at_after xs ys i =
    let p : (8 * length xs + i) / 8 ≡ length xs + i / 8 = omega arith in
    let q : (8 * length xs + i) % 8 ≡ i % 8 = omega arith in
    (λ j. eqb (get_or (xs ++ ys) (p j) 0 / 2 ^ (7 - q j) % 2) 1) ∙ ap (λ (b : ℕ). eqb (b / 2 ^ (7 - i % 8) % 2) 1) (get_or-append-add xs ys (i / 8) 0)

pub bits-after : (xs ys : List ℕ) (n at : ℕ) → bits (xs ++ ys) (8 * length xs + at) n ≡ bits ys at n
unfolding bits
bits-after xs ys zero at = refl
bits-after xs ys (suc n) at =
    let p : suc (8 * length xs + at) ≡ 8 * length xs + suc at = omega arith in
    (λ j. bit_at_after xs ys at j ∷ bits (xs ++ ys) (p j) n) ∙ ap (λ (l : List Bool). bit_at ys at ∷ l) (bits-after xs ys n (suc at))

-- ---- a field of up to 16 bits lies within three bytes
bit_one : (y : ℕ) → one (eqb (y % 2) 1) ≡ y % 2
bit_one y = go (y % 2) (omega arith)
  where
    go : (r : ℕ) → r < 2 → one (eqb r 1) ≡ r
    go zero h = refl
    go (suc zero) h = refl
    go (suc (suc r)) h = absurd (omega arith)

byte-bit : (s : List ℕ) (i k at : ℕ) → k < 8 → at ≡ 8 * i + k → one (bit_at s at) ≡ get_or s i 0 / 2 ^ (7 - k) % 2
unfolding bit_at
byte-bit s i k at h e =
    let p : at / 8 ≡ i = omega arith in
    let q : at % 8 ≡ k = omega arith in
    (λ j. one (eqb (get_or s (p j) 0 / 2 ^ (7 - q j) % 2) 1)) ∙ bit_one (get_or s i 0 / 2 ^ (7 - k))

-- the first n bits of a byte are its upper part
upper-part : (s : List ℕ) (i : ℕ) → get_or s i 0 < 256 → (n : ℕ) → n ≤ 8 → field_at s (8 * i) n ≡ get_or s i 0 / 2 ^ (8 - n)
unfolding field_at value value_from bits
upper-part s i h zero l = omega arith
upper-part s i h (suc n) l =
    let x = get_or s i 0 in
    let k : n + 1 ≡ suc n = omega arith in
    let d : 8 - n ≡ suc (7 - n) = omega arith in
    let e : 8 - suc n ≡ 7 - n = omega arith in
    let halves : x / 2 ^ (8 - n) ≡ x / 2 ^ (7 - n) / 2 = ap (λ (m : ℕ). x / 2 ^ m) d ∙ ap (λ (m : ℕ). x / m) (pow-succ' 2 (7 - n) ∙ mul_comm 2 (2 ^ (7 - n)))
    ∙ sym (div-div-eq-div-mul x (2 ^ (7 - n)) 2) in
    let low : one (bit_at s (8 * i + n)) ≡ x / 2 ^ (7 - n) % 2 = byte-bit s i n (8 * i + n) (omega arith) refl in
    let first = upper-part s i h n (omega arith) in
    ap (λ (m : ℕ). value (bits s (8 * i) m)) (sym k)
    ∙ ap value (bits-add s n (8 * i) 1)
    ∙ value-two (bits s (8 * i) n) (bits s (8 * i + n) 1) 1 (length-bits s (8 * i + n) 1)
    ∙ (λ j. (first ∙ halves) j * 2 + last (one (bit_at s (8 * i + n))) j)
    ∙ whole (x / 2 ^ (7 - n)) low
    ∙ ap (λ (m : ℕ). x / 2 ^ m) (sym e)
  where
    last : (v : ℕ) → 2 * 0 + v ≡ v
    last v = omega arith

    whole : (y : ℕ) {v : ℕ} → v ≡ y % 2 → y / 2 * 2 + v ≡ y
    whole y e = omega arith

pub byte-value : (s : List ℕ) (i : ℕ) → get_or s i 0 < 256 → field_at s (8 * i) 8 ≡ get_or s i 0
byte-value s i h = upper-part s i h 8 (omega arith) ∙ all_of_it (get_or s i 0)
  where
    all_of_it : (x : ℕ) → x / 1 ≡ x
    all_of_it x = omega arith

-- ---- a field of a list of bytes: in two parts, within a longer one, and of a bit
pub field_at_add : (s : List ℕ) (at m n : ℕ) → field_at s at (m + n) ≡ field_at s at m * 2 ^ n + field_at s (at + m) n
unfolding field_at
field_at_add s at m n = ap value (bits-add s m at n) ∙ value-two (bits s at m) (bits s (at + m) n) n (length-bits s (at + m) n)

pub field_at_cut : (s : List ℕ) (at k n m : ℕ) → field_at s (at + k) n ≡ field_at s at (k + n + m) / 2 ^ m % 2 ^ n
unfolding field_at
field_at_cut s at k n m =
    sym (field-bits s at (k + n + m) k n (omega arith)) ∙ field-value (bits s at (k + n + m)) k n m (length-bits s at (k + n + m))

-- bytes in turn: two, and four
two_bytes : (s : List ℕ) (i : ℕ) → get_or s i 0 < 256 → get_or s (i + 1) 0 < 256 → field_at s (8 * i) 16 ≡ get_or s i 0 * 256 + get_or s (i + 1) 0
unfolding field_at
two_bytes s i h0 h1 =
    let p : 8 * i + 8 ≡ 8 * (i + 1) = omega arith in
    field_at_add s (8 * i) 8 8 ∙ (λ j. byte-value s i h0 j * 2 ^ 8 + (ap (λ (m : ℕ). field_at s m 8) p ∙ byte-value s (i + 1) h1) j)

pub four_bytes : (s : List ℕ) (i b0 b1 b2 b3 : ℕ) → (b0 ≡ get_or s i 0) × (b0 < 256) → (b1 ≡ get_or s (i + 1) 0) × (b1 < 256)
    → (b2 ≡ get_or s (i + 2) 0) × (b2 < 256) → (b3 ≡ get_or s (i + 3) 0) × (b3 < 256)
    → b0 * 16777216 + b1 * 65536 + b2 * 256 + b3 ≡ field_at s (8 * i) 32
four_bytes s i b0 b1 b2 b3 p0 p1 p2 p3 =
    let p : 8 * i + 16 ≡ 8 * (i + 2) = omega arith in
    let n : i + 2 + 1 ≡ i + 3 = omega arith in
    let last : get_or s (i + 2 + 1) 0 ≡ b3 = ap (λ (m : ℕ). get_or s m 0) n ∙ sym p3.0 in
    let high = two_bytes s i (omega (arith, p0.0, p0.1)) (omega (arith, p1.0, p1.1)) in
    let low = ap (λ (m : ℕ). field_at s m 16) p ∙ two_bytes s (i + 2) (omega (arith, p2.0, p2.1)) (omega (arith, last, p3.1)) in
    sym (field_at_add s (8 * i) 16 16 ∙ omega (arith, high, low, last, p0.0, p1.0, p2.0))

-- a field lies within the four bytes from its first on
pub field-in_four : (s : List ℕ) (at m : ℕ) → m ≤ 24 → field_at s at m ≡ field_at s (8 * (at / 8)) 32 / 2 ^ (32 - at % 8 - m) % 2 ^ m
field-in_four s at m h =
    let e : 8 * (at / 8) + at % 8 ≡ at = omega arith in
    let n : at % 8 + m + (32 - at % 8 - m) ≡ 32 = omega arith in
    ap (λ (i : ℕ). field_at s i m) (sym e) ∙ field_at_cut s (8 * (at / 8)) (at % 8) m (32 - at % 8 - m)
    ∙ ap (λ (w : ℕ). field_at s (8 * (at / 8)) w / 2 ^ (32 - at % 8 - m) % 2 ^ m) n

pub field_at_one : (s : List ℕ) (at : ℕ) → field_at s at 1 ≡ one (bit_at s at)
unfolding field_at value value_from bits
field_at_one s at = omega arith

-- what a record of w bits has set at k, its bytes have set at at + k
pub flag-bits : (s : List ℕ) (at w k : ℕ) → k < w → flag (bits s at w) k ≡ bit_at s (at + k)
unfolding flag
flag-bits s at w k h = ap (λ (n : ℕ). eqb n 1) (field-bits s at w k 1 (omega arith) ∙ field_at_one s (at + k)) ∙ one-is (bit_at s (at + k))

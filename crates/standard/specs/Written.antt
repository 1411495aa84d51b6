-- Numbers written down as bits are read back: v in n bits, fields one after the other, and eight bits to a byte.
-- The last of n bits is v's lowest; a field is found by dropping those before it; a bit of a byte is the field of one bit at its place.
use Rattle.std.specs.Prelude.{◌≡◌, refl, Bool, true, false, List, [], ◌∷◌, ◌++◌, ℕ, zero, suc, ◌+◌, ◌-◌, ◌*◌, ◌/◌, ◌%◌, ◌^◌, ◌<◌, eqb, length, get_or, take, drop}
use Rattle.std.proofs.Common.{sym, ap, ◌∙◌, append_assoc, append-nil, arith, length-append, length-take, length-drop, take-append-drop, take_at, drop_at, drop-drop, ext_get_or}
use Rattle.std.proofs.Math.Nat.{pow-succ'}
use Rattle.standard.specs.Bits.{bit_at, bits, one, value_from, value, field, flag}
use Rattle.standard.specs.BitsLaws.{length-bits, bits-add, value-lt, value-below, value-append, field-value, get_d_bits, flag-get_d, bits-after}

-- ---- v in n bits
unfoldable pub bits_of : ℕ → ℕ → List Bool
bits_of zero v = []
bits_of (suc n) v = bits_of n (v / 2) ++ eqb (v % 2) 1 ∷ []

pub length-bits_of : (n v : ℕ) → length (bits_of n v) ≡ n
unfolding bits_of
length-bits_of zero v = refl
length-bits_of (suc n) v = simp length-append (simp (length-bits_of n (v / 2)) (omega arith))

one-odd : (v : ℕ) → v < 2 → one (eqb v 1) ≡ v
one-odd zero h = refl
one-odd (suc zero) h = refl
one-odd (suc (suc v)) h = absurd (omega arith)

pub value-bits_of : (n v : ℕ) → v < 2 ^ n → value (bits_of n v) ≡ v
unfolding value bits_of value_from
value-bits_of zero v h = omega arith
value-bits_of (suc n) v h =
    let k : v < 2 * 2 ^ n = rw (← pow-succ') h in
    value-append (bits_of n (v / 2)) (eqb (v % 2) 1 ∷ []) 0
    ∙ (λ j. 2 * value-bits_of n (v / 2) (omega arith) j + one-odd (v % 2) (omega arith) j)
    ∙ whole
  where
    whole : 2 * (v / 2) + v % 2 ≡ v
    whole = omega arith

-- ---- bits of one number are those that spell it
pub value-one : (b c : List Bool) (i j : ℕ) → length b ≡ length c → value_from i b ≡ value_from j c → (i ≡ j) × (b ≡ c)
unfolding value_from
value-one [] [] i j l e = (e, refl)
value-one [] (y ∷ c) i j l e = absurd (omega arith)
value-one (x ∷ b) [] i j l e = absurd (omega arith)
value-one (x ∷ b) (y ∷ c) i j l e =
    let k = value-one b c (2 * i + one x) (2 * j + one y) (omega arith) e in
    let q = apart x y i j k.0 in (q.0, λ n. q.1 n ∷ k.1 n)
  where
    apart : (x y : Bool) (i j : ℕ) → 2 * i + one x ≡ 2 * j + one y → (i ≡ j) × (x ≡ y)
    apart true true i j e = (omega arith, refl)
    apart true false i j e = absurd (omega arith)
    apart false true i j e = absurd (omega arith)
    apart false false i j e = (omega arith, refl)

pub bits-own : (n : ℕ) (b : List Bool) → length b ≡ n → bits_of n (value b) ≡ b
unfolding value
bits-own n b l = (value-one (bits_of n (value b)) b 0 0 (length-bits_of n (value b) ∙ sym l) (value-bits_of n (value b) (value-below b n l))).1

-- ---- fields one after the other
pub data Part : Type 0 where
  ◌in-bits◌ : ℕ → ℕ → Part

infix 40 ◌in-bits◌
unfoldable pub write : List Part → List Bool
write [] = []
write ((v in-bits n) ∷ ps) = bits_of n v ++ write ps

-- each value fits its bits
abbrev pub Fit : List Part → Type 0
Fit [] = Unit {0}
Fit ((v in-bits n) ∷ ps) = (v < 2 ^ n) × Fit ps

-- each value stands at its place, from a place on
abbrev pub Stand : List Bool → ℕ → List Part → Type 0
Stand b at [] = Unit {0}
Stand b at ((v in-bits n) ∷ ps) = (field b at n ≡ v) × Stand b (at + n) ps

abbrev pub width : List Part → ℕ
width [] = 0
width ((v in-bits n) ∷ ps) = n + width ps

pub length-write : (ps : List Part) → length (write ps) ≡ width ps
unfolding write
length-write [] = refl
length-write ((v in-bits n) ∷ ps) = simp (length-append, length-bits_of, length-write ps)

pub fit_append : (ps qs : List Part) → Fit ps → Fit qs → Fit (ps ++ qs)
fit_append [] qs f g = g
fit_append ((v in-bits n) ∷ ps) qs f g = (f.0, fit_append ps qs f.1 g)

stand_from : (ps : List Part) (b r : List Bool) (at : ℕ) → Fit ps → drop at b ≡ write ps ++ r → Stand b at ps
unfolding write field
stand_from [] b r at f e = tt
stand_from ((v in-bits n) ∷ ps) b r at f e =
    let k = e ∙ append_assoc (bits_of n v) (write ps) r in (
      ap (λ (x : List Bool). value (take n x)) k ∙ ap value (take_at (bits_of n v) (write ps ++ r) n (length-bits_of n v)) ∙ value-bits_of n v f.0,
      stand_from ps b r (at + n) f.1 (sym (drop-drop n at b) ∙ ap (drop n) k ∙ drop_at (bits_of n v) (write ps ++ r) n (length-bits_of n v)),
    )

-- whatever follows them
pub stands : (ps : List Part) (r : List Bool) → Fit ps → Stand (write ps ++ r) 0 ps
stands ps r f = stand_from ps (write ps ++ r) r 0 f refl

pub stands_alone : (ps : List Part) → Fit ps → Stand (write ps) 0 ps
stands_alone ps f = stand_from ps (write ps) [] 0 f (sym (append-nil (write ps)))

-- ---- a list of bytes: none is above 255
abbrev pub Bytes : List ℕ → Type 0
Bytes s = (i : ℕ) → get_or s i 0 < 256

pub bytes-append : (s t : List ℕ) → Bytes s → Bytes t → Bytes (s ++ t)
bytes-append [] t f g i = g i
bytes-append (x ∷ s) t f g zero = f 0
bytes-append (x ∷ s) t f g (suc i) = bytes-append s t (λ k. f (suc k)) g i

-- n bytes of 8 n bits
unfoldable pub pack : ℕ → List Bool → List ℕ
pack zero b = []
pack (suc n) b = value (take 8 b) ∷ pack n (drop 8 b)

pub length-pack : (n : ℕ) (b : List Bool) → length (pack n b) ≡ n
unfolding pack
length-pack zero b = refl
length-pack (suc n) b = ap suc (length-pack n (drop 8 b))

pub bytes-pack : (n : ℕ) (b : List Bool) → Bytes (pack n b)
unfolding pack value
bytes-pack zero b i = omega arith
bytes-pack (suc n) b zero = value-lt (take 8 b) 0 0 8 (omega arith) (simp length-take (omega arith))
bytes-pack (suc n) b (suc i) = bytes-pack n (drop 8 b) i

bit_byte : (b : List Bool) (s : List ℕ) (i : ℕ) → length b ≡ 8 → i < 8 → bit_at (value b ∷ s) i ≡ get_or b i false
unfolding bit_at flag
bit_byte b s i e h =
    let p : i / 8 ≡ 0 = omega arith in
    let q : i % 8 ≡ i = omega arith in
    (λ j. eqb (get_or (value b ∷ s) (p j) 0 / 2 ^ (7 - q j) % 2) 1) ∙ ap (λ (n : ℕ). eqb n 1) (sym (field-value b i 1 (7 - i) (omega arith))) ∙ flag-get_d b i

bits-byte : (b : List Bool) (s : List ℕ) → length b ≡ 8 → bits (value b ∷ s) 0 8 ≡ b
bits-byte b s e =
    ext_get_or false (bits (value b ∷ s) 0 8) b (length-bits (value b ∷ s) 0 8 ∙ sym e) (λ i h. at i (rw length-bits at h))
  where
    at : (i : ℕ) → i < 8 → get_or (bits (value b ∷ s) 0 8) i false ≡ get_or b i false
    at i h = let p : 0 + i ≡ i = omega arith in get_d_bits 8 (value b ∷ s) 0 i h ∙ ap (bit_at (value b ∷ s)) p ∙ bit_byte b s i e h

pub bits-pack : (n : ℕ) (b : List Bool) → length b ≡ 8 * n → bits (pack n b) 0 (8 * n) ≡ b
unfolding pack bits
bits-pack zero [] e = refl
bits-pack zero (x ∷ b) e = absurd (omega arith)
bits-pack (suc n) b e =
    let x = value (take 8 b) in
    let rest = pack n (drop 8 b) in
    let p : 8 * suc n ≡ 8 + 8 * n = omega arith in
    ap (bits (x ∷ rest) 0) p ∙ bits-add (x ∷ rest) 8 0 (8 * n)
    ∙ (λ j. bits-byte (take 8 b) rest (simp length-take (omega arith)) j
    ++ (bits-after (x ∷ []) rest (8 * n) 0 ∙ bits-pack n (drop 8 b) (simp length-drop (omega arith))) j)
    ∙ take-append-drop 8 b

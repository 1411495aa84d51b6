-- Laws of a slot's numbers, over any reader of codewords: what is read lies within the bits; a magnitude is at most 8,206, since an escape has
-- at most 13 bits; a step of pairs and of quads; n pairs are 2 n numbers, and a slot has at most 576.
use Rattle.std.specs.Prelude.{◌≡◌, Bool, true, false, leb, ltb, eqb, ℤ, pos, nat_abs, Some, None, Ok, Err, get_or, take, drop}
use Rattle.std.proofs.Math.Path.{refl, ap}
use Rattle.std.proofs.Common.{sym, ◌∙◌, arith, le-leb, leb-true, ltb-true, eq-eqb, ne_eqb, length-append, length-drop, length-take, pow_mono}
use Rattle.std.specs.Bool.{beq}
use mathlib.Core.List.{List, [], ◌∷◌, ◌++◌, append_assoc}
use Prim.Native.Nat.{ℕ, zero, suc, ◌+◌, ◌-◌, ◌*◌, ◌/◌, ◌%◌, ◌≤◌, ◌<◌}
use Rattle.std.proofs.lemmas.Bool.{lt-leb}
use Rattle.std.proofs.Math.ListN.{length}
use Rattle.standard.specs.ToldLaws.{picked, passed, either_way, both, both_of, never}
use Rattle.standard.specs.Bits.{between, value, field_at}
use Rattle.standard.specs.BitsLaws.{between-nil, between_cons, between-length, take-bits, value-lt}
use Rattle.standard.specs.RowsLaws.{every, every-at, every_append}
use Rattle.standard.specs.Codes.{taken, Codeword, Entry, entry, low_bits, pair, quad, starts, first, begun, decode, silent, table1, table2, table3, table5, table6, table7, table8, table9, table10, table11, table12, table13, table15, table16, table24, table_a, table_b, codes, published, word_of, escapes, escape_width}
use Rattle.standard.specs.Numbers.{Magnitude, Number, Pair, Quad, Reader, escaped, magnitude_of, sign_of, signed, further, then_sign, number_in, two_last, two_first, two_of, pair_after, pair_word, pair_of, quad_last, quad_first, quad_word, quad_of, quad_table, regions_of, table_at, Numbers, halted, got, prepend, then_pairs, pairs, then_quads, quads, then_rest, numbers_by, numbers_of, quiet}
use Rattle.standard.specs.declared.SampleRate.{SampleRate}
use Rattle.standard.specs.declared.SlotRecord.{SlotRecord}
use Rattle.standard.specs.declared.Refusal.{Refusal}
use Rattle.standard.specs.declared.Refusal.TheVariants.{NoCodeword}
use Rattle.standard.specs.declared.Taken.{Taken}
use Rattle.standard.specs.declared.Unread.TheVariants.{Cut, Alien}
use Rattle.standard.specs.declared.Regions.{Regions}

-- ---- what fits within l bits
abbrev pub largest : ℕ
largest = 8206

unfoldable pub small : ℤ → Bool
small z = leb (nat_abs z) largest

is_small : (z : ℤ) → nat_abs z ≤ largest → small z ≡ true
unfolding small
is_small z h = le-leb (nat_abs z) largest h

abbrev pub WordFits : ℕ → Codeword → Type 0
WordFits l (Ok c) = (c.value < 256) × (c.used ≤ l)
WordFits l (Err e) = Unit {0}

abbrev pub MagnitudeFits : ℕ → Magnitude → Type 0
MagnitudeFits l (Some m) = (m.value ≤ largest) × (m.used ≤ l)
MagnitudeFits l None = Unit {0}

abbrev pub NumberFits : ℕ → Number → Type 0
NumberFits l (Some z) = (nat_abs z.value ≤ largest) × (z.used ≤ l)
NumberFits l None = Unit {0}

abbrev pub PairFits : ℕ → Pair → Type 0
PairFits l (Ok p) = (nat_abs p.value.0 ≤ largest) × (nat_abs p.value.1 ≤ largest) × (p.used ≤ l)
PairFits l (Err r) = Unit {0}

abbrev pub QuadFits : ℕ → Quad → Type 0
QuadFits l (Ok q) = (length q.value ≡ 4) × (every small q.value ≡ true) × (q.used ≤ l)
QuadFits l (Err e) = Unit {0}

-- what fits all bits of a list fits what a reader at a place has left
pub fits_window : {A : Type 0} (F : ℕ → A → Type 0) (f : List Bool → A) → ((b : List Bool) → F (length b) (f b))
    → (s : List ℕ) (at e : ℕ) (x : A) → x ≡ f (between s at e) → F (e - at) x
fits_window F f g s at e x h = rw (h, ← (between-length s at e)) (g (between s at e))

-- ---- one number
pub escape_le : (t : ℕ) → escape_width t ≤ 13
unfolding escape_width escapes every
escape_le t = leb-true (escape_width t) 13 (every-at (λ (w : ℕ). leb w 13) 0 escapes refl refl t)

value-le : (w : ℕ) (b : List Bool) → w ≤ 13 → 15 + value (take w b) ≤ largest
unfolding value
value-le w b h =
    let k : 0 + w ≤ 13 = omega arith in
    omega (arith, pow_mono k, value-lt (take w b) 0 0 w (omega arith) (simp length-take (omega arith)))

escaped-fits : (w : ℕ) (b : List Bool) → w ≤ 13 → MagnitudeFits (length b) (escaped w b)
unfolding escaped
escaped-fits w b h = either_way (MagnitudeFits (length b)) (leb w (length b)) _ _ (λ e. (value-le w b h, leb-true w (length b) e)) (λ e. tt)

pub magnitude_fits : (w v : ℕ) (b : List Bool) → w ≤ 13 → v ≤ largest → MagnitudeFits (length b) (magnitude_of w v b)
unfolding magnitude_of
magnitude_fits w v b h k = either_way (MagnitudeFits (length b)) (eqb v 15) _ _ (λ e. escaped-fits w b h) (λ e. (k, omega arith))

sign_size : (x : Bool) (v : ℕ) → nat_abs (sign_of x v) ≡ v
unfolding sign_of
sign_size true zero = refl
sign_size true (suc v) = refl
sign_size false v = refl

pub signed-fits : (v : ℕ) (b : List Bool) → v ≤ largest → NumberFits (length b) (signed v b)
unfolding signed
signed-fits zero b h = (omega arith, omega arith)
signed-fits (suc v) [] h = tt
signed-fits (suc v) (x ∷ b) h = (omega (arith, sign_size x (suc v)), omega arith)

further-fits : (u l m : ℕ) → u + m ≤ l → (n : Number) → NumberFits m n → NumberFits l (further u n)
unfolding further
further-fits u l m h None f = tt
further-fits u l m h (Some z) f = (f.0, omega (arith, f.1))

then_sign_lem : (b : List Bool) (m : Magnitude) → MagnitudeFits (length b) m → NumberFits (length b) (then_sign b m)
unfolding then_sign
then_sign_lem b None f = tt
then_sign_lem b (Some m) f =
    further-fits m.used (length b) (length (drop m.used b)) (simp length-drop (omega (arith, f.1))) (signed m.value (drop m.used b)) (signed-fits m.value (drop m.used b) f.0)

pub number_fits : (w v : ℕ) (b : List Bool) → w ≤ 13 → v ≤ largest → NumberFits (length b) (number_in w v b)
unfolding number_in
number_fits w v b h k = then_sign_lem b (magnitude_of w v b) (magnitude_fits w v b h k)

-- ---- one number by place
pub plain : (w v : ℕ) (b : List Bool) → (v ≡ 15 → ⊥) → magnitude_of w v b ≡ Some (taken v 0)
unfolding magnitude_of
plain w v b h = passed (escaped w b) (ne_eqb v 15 h)

module _ (w v : ℕ) (s : List ℕ) (at e : ℕ) (h : v ≡ 15) where
  pub escape_cut : e - at < w → magnitude_of w v (between s at e) ≡ None
  unfolding magnitude_of escaped
  escape_cut k =
      picked (Some (taken v 0)) (eq-eqb v 15 h)
      ∙ passed (Some (taken (15 + value (take w (between s at e))) w)) (lt-leb w (length (between s at e)) (rw between-length k))

  pub escape_whole : w ≤ e - at → magnitude_of w v (between s at e) ≡ Some (taken (15 + field_at s at w) w)
  unfolding magnitude_of escaped between field_at
  escape_whole k =
      picked (Some (taken v 0)) (eq-eqb v 15 h) ∙ picked None (le-leb w (length (between s at e)) (rw between-length k))
      ∙ ap (λ (b : List Bool). Some (taken (15 + value b) w)) (take-bits w s at (e - at) k)

pub signed-zero : (v : ℕ) (b : List Bool) → v ≡ 0 → signed v b ≡ Some (taken (pos 0) 0)
unfolding signed
signed-zero v b h = ap (λ (n : ℕ). signed n b) h

pub signed-none : (v : ℕ) → (v ≡ 0 → ⊥) → signed v [] ≡ None
unfolding signed
signed-none zero h = absurd (h refl)
signed-none (suc v) h = refl

pub signed-some : (v : ℕ) → (v ≡ 0 → ⊥) → (x : Bool) (b : List Bool) → signed v (x ∷ b) ≡ Some (taken (sign_of x v) 1)
unfolding signed
signed-some zero h x b = absurd (h refl)
signed-some (suc v) h x b = refl

-- ---- two numbers
two_last_lem : (x : ℤ) (n l m : ℕ) → nat_abs x ≤ largest → n + m ≤ l → (y : Number) → NumberFits m y → PairFits l (two_last x n y)
unfolding two_last
two_last_lem x n l m g h None f = tt
two_last_lem x n l m g h (Some y) f = (g, f.0, omega (arith, f.1))

two_first_lem : (w y : ℕ) (b : List Bool) → w ≤ 13 → y ≤ largest → (x : Number) → NumberFits (length b) x → PairFits (length b) (two_first w y b x)
unfolding two_first
two_first_lem w y b h g None f = tt
two_first_lem w y b h g (Some x) f =
    let k = x.used in
    two_last_lem x.value k (length b) (length (drop k b)) f.0 (simp length-drop (omega (arith, f.1))) (number_in w y (drop k b)) (number_fits w y (drop k b) h g)

pub two_fits : (w x y : ℕ) (b : List Bool) → w ≤ 13 → x ≤ largest → y ≤ largest → PairFits (length b) (two_of w x y b)
unfolding two_of
two_fits w x y b h g k = two_first_lem w y b h k (number_in w x b) (number_fits w x b h g)

-- ---- pairs and quads
pair-after : (n l m : ℕ) → n + m ≤ l → (p : Pair) → PairFits m p → PairFits l (pair_after n p)
unfolding pair_after
pair-after n l m h (Err r) f = tt
pair-after n l m h (Ok p) f = (f.0, f.1, omega (arith, f.2))

pair-word : (w : ℕ) (b : List Bool) → w ≤ 13 → (c : Codeword) → WordFits (length b) c → PairFits (length b) (pair_word w b c)
unfolding pair_word
pair-word w b h (Err Cut) f = tt
pair-word w b h (Err Alien) f = tt
pair-word w b h (Ok c) f =
    let v = c.value in
    let n = c.used in
    pair-after n (length b) (length (drop n b)) (simp length-drop (omega (arith, f.1))) (two_of w (v / 16) (v % 16) (drop n b))
    (two_fits w (v / 16) (v % 16) (drop n b) h (omega (arith, f.0)) (omega (arith, f.0)))

quad-last : (v w : ℤ) (n l m : ℕ) → nat_abs v ≤ largest → nat_abs w ≤ largest → n + m ≤ l → (p : Pair) → PairFits m p → QuadFits l (quad_last v w n p)
unfolding quad_last every
quad-last v w n l m g k h (Err r) f = tt
quad-last v w n l m g k h (Ok p) f =
    (refl, both (is_small v g) (both (is_small w k) (both (is_small p.value.0 f.0) (both (is_small p.value.1 f.1) refl))), omega (arith, f.2))

quad-first : (c n l : ℕ) (b : List Bool) → n + length b ≤ l → (p : Pair) → PairFits (length b) p → QuadFits l (quad_first c n b p)
unfolding quad_first
quad-first c n l b h (Err r) f = tt
quad-first c n l b h (Ok p) f =
    let k = p.used in
    quad-last p.value.0 p.value.1 (n + k) l (length (drop k b)) f.0 f.1 (simp length-drop (omega (arith, f.2))) (two_of 0 (c / 2 % 2) (c % 2) (drop k b))
    (two_fits 0 (c / 2 % 2) (c % 2) (drop k b) (omega arith) (omega arith) (omega arith))

quad-word : (b : List Bool) (c : Codeword) → WordFits (length b) c → QuadFits (length b) (quad_word b c)
unfolding quad_word
quad-word b (Err e) f = tt
quad-word b (Ok w) f =
    let c = w.value in
    let n = w.used in
    quad-first c n (length b) (drop n b) (simp length-drop (omega (arith, f.1))) (two_of 0 (c / 8 % 2) (c / 4 % 2) (drop n b))
    (two_fits 0 (c / 8 % 2) (c / 4 % 2) (drop n b) (omega arith) (omega arith) (omega arith))

-- a reader of codewords tells what fits its bits
abbrev pub ReaderFits : Reader → Type 0
ReaderFits word = (t : ℕ) (b : List Bool) → WordFits (length b) (word t b)

pub pair_fits : (word : Reader) → ReaderFits word → (t : ℕ) (b : List Bool) → PairFits (length b) (pair_of word t b)
unfolding pair_of
pair_fits word f t b = pair-word (escape_width t) b (escape_le t) (word t b) (f t b)

pub quad-fits : (word : Reader) → ReaderFits word → (t : ℕ) (b : List Bool) → QuadFits (length b) (quad_of word t b)
unfolding quad_of
quad-fits word f t b = quad-word b (word t b) (f t b)

-- ---- steps
pub prepend-nil : (q : Numbers) → prepend [] q ≡ q
unfolding prepend
prepend-nil (halted r) = refl
prepend-nil (got ws b) = refl

pub prepend-prepend : (vs ws : List ℤ) (q : Numbers) → prepend vs (prepend ws q) ≡ prepend (vs ++ ws) q
unfolding prepend
prepend-prepend vs ws (halted r) = refl
prepend-prepend vs ws (got us b) = ap (λ (l : List ℤ). got l b) (sym (append_assoc vs ws us))

module _ (word : Reader) (table : ℕ → ℕ) (k n : ℕ) (b : List Bool) where
  pub pairs-none : (r : Refusal) → Err r ≡ pair_of word (table (2 * k)) b → pairs word table k (suc n) b ≡ halted r
  unfolding pairs then_pairs
  pairs-none r e = ap (λ (p : Pair). then_pairs p (λ (u : ℕ). pairs word table (suc k) n (drop u b))) (sym e)

  pub pairs-two : (x y : ℤ) (u : ℕ) → Ok (taken (x, y) u) ≡ pair_of word (table (2 * k)) b
      → pairs word table k (suc n) b ≡ prepend (x ∷ y ∷ []) (pairs word table (suc k) n (drop u b))
  unfolding pairs then_pairs
  pairs-two x y u e = ap (λ (p : Pair). then_pairs p (λ (u : ℕ). pairs word table (suc k) n (drop u b))) (sym e)

module _ (word : Reader) (t n : ℕ) where
  pub quads-end : (b : List Bool) → length b ≡ 0 → quads word t n b ≡ got [] []
  unfolding quads
  quads-end b e = go n b e
    where
      go : (n : ℕ) (b : List Bool) → length b ≡ 0 → quads word t n b ≡ got [] []
      go zero [] e = refl
      go (suc n) [] e = refl
      go n (x ∷ b) e = absurd (omega arith)

  -- where a bit is left
  quads-step : (b : List Bool) (q : Quad) → 0 < length b → q ≡ quad_of word t b → quads word t (suc n) b ≡ then_quads q (λ (u : ℕ). quads word t n (drop u b))
  unfolding quads
  quads-step [] q h e = absurd (omega arith)
  quads-step (x ∷ b) q h e = ap (λ (q : Quad). then_quads q (λ (u : ℕ). quads word t n (drop u (x ∷ b)))) (sym e)

  module _ (b : List Bool) (h : 0 < length b) where
    pub quads-none : Err Alien ≡ quad_of word t b → quads word t (suc n) b ≡ halted NoCodeword
    unfolding then_quads
    quads-none e = quads-step b (Err Alien) h e

    pub quads-dropped : Err Cut ≡ quad_of word t b → quads word t (suc n) b ≡ got [] []
    unfolding then_quads
    quads-dropped e = quads-step b (Err Cut) h e

    pub quads-four : (q : Taken (List ℤ)) → Ok q ≡ quad_of word t b → quads word t (suc n) b ≡ prepend q.value (quads word t n (drop q.used b))
    unfolding then_quads
    quads-four q e = quads-step b (Ok q) h e

-- ---- a slot by place
module _ (word : Reader) (rate : SampleRate) (r : SlotRecord) (s : List ℕ) (at e : ℕ) where
  pub numbers-none : e ≤ at → numbers_of word rate r (between s at e) ≡ quiet (numbers_by word r (regions_of rate r) (between s at e))
  unfolding numbers_of
  numbers-none h =
      let w = between-nil s at e h in
      ap (numbers_of word rate r) w ∙ ap (λ (b : List Bool). quiet (numbers_by word r (regions_of rate r) b)) (sym w)

  pub numbers-some : at < e → numbers_of word rate r (between s at e) ≡ numbers_by word r (regions_of rate r) (between s at e)
  unfolding numbers_of
  numbers-some h =
      let w = between_cons s at e h in
      ap (numbers_of word rate r) w ∙ ap (numbers_by word r (regions_of rate r)) (sym w)

-- ---- how many numbers there are, and how large they are
pub record Bounded (P : ℕ → Type 0) (vs : List ℤ) : Type 0 where
  pub count : P (length vs)
  pub sizes : every small vs ≡ true

abbrev pub Exactly : ℕ → ℕ → Type 0
Exactly n m = m ≡ n

abbrev pub AtMost : ℕ → ℕ → Type 0
AtMost n m = m ≤ n

-- what was read, where it was read, is so bounded
abbrev pub Gives : (ℕ → Type 0) → Numbers → Type 0
Gives P (halted r) = Unit {0}
Gives P (got vs b) = Bounded P vs

gives_after : (P Q : ℕ → Type 0) (vs : List ℤ) → every small vs ≡ true → ((n : ℕ) → P n → Q (length vs + n)) → (q : Numbers) → Gives P q
    → Gives Q (prepend vs q)
unfolding prepend
gives_after P Q vs s f (halted r) g = tt
gives_after P Q vs s f (got ws b) g = record {
  count = rw length-append (f (length ws) g.count);
  sizes = every_append small vs ws s g.sizes;
}

then_pairs_lem : (n l : ℕ) (rest : ℕ → Numbers) → ((u : ℕ) → Gives (Exactly (2 * n)) (rest u))
    → (p : Pair) → PairFits l p → Gives (Exactly (2 * suc n)) (then_pairs p rest)
unfolding then_pairs every
then_pairs_lem n l rest f (Err r) g = tt
then_pairs_lem n l rest f (Ok p) g =
    gives_after (Exactly (2 * n)) (Exactly (2 * suc n)) (p.value.0 ∷ p.value.1 ∷ []) (both (is_small p.value.0 g.0) (both (is_small p.value.1 g.1) refl))
    (λ k e. omega arith) (rest p.used) (f p.used)

then_quads_lem : (n l : ℕ) (rest : ℕ → Numbers) → ((u : ℕ) → Gives (AtMost (4 * n)) (rest u))
    → (q : Quad) → QuadFits l q → Gives (AtMost (4 * suc n)) (then_quads q rest)
unfolding then_quads every
then_quads_lem n l rest f (Err Alien) g = tt
then_quads_lem n l rest f (Err Cut) g = record { count = omega arith; sizes = refl }
then_quads_lem n l rest f (Ok q) g = gives_after (AtMost (4 * n)) (AtMost (4 * suc n)) q.value g.1 (λ k e. omega (arith, g.0)) (rest q.used) (f q.used)

module _ (word : Reader) (fits : ReaderFits word) where
  pub pairs-bounded : (table : ℕ → ℕ) (k n : ℕ) (b : List Bool) → Gives (Exactly (2 * n)) (pairs word table k n b)
  unfolding pairs every
  pairs-bounded table k zero b = record { count = refl; sizes = refl }
  pairs-bounded table k (suc n) b =
      then_pairs_lem n (length b) (λ (u : ℕ). pairs word table (suc k) n (drop u b)) (λ u. pairs-bounded table (suc k) n (drop u b))
      (pair_of word (table (2 * k)) b) (pair_fits word fits (table (2 * k)) b)

  pub quads-bounded : (t n : ℕ) (b : List Bool) → Gives (AtMost (4 * n)) (quads word t n b)
  unfolding quads every
  quads-bounded t zero b = record { count = omega arith; sizes = refl }
  quads-bounded t (suc n) [] = record { count = omega arith; sizes = refl }
  quads-bounded t (suc n) (x ∷ b) =
      then_quads_lem n (length (x ∷ b)) (λ (u : ℕ). quads word t n (drop u (x ∷ b))) (λ u. quads-bounded t n (drop u (x ∷ b))) (quad_of word t (x ∷ b))
      (quad-fits word fits t (x ∷ b))

  then_rest_lem : (t n : ℕ) → n ≤ 288 → (q : Numbers) → Gives (Exactly (2 * n)) q → Gives (AtMost 576) (then_rest word t n q)
  unfolding then_rest
  then_rest_lem t n h (halted r) g = tt
  then_rest_lem t n h (got vs b) g =
      let e = g.count in
      gives_after (AtMost (4 * ((576 - 2 * n) / 4))) (AtMost 576) vs g.sizes (λ k l. omega arith) (quads word t ((576 - 2 * n) / 4) b)
      (quads-bounded t ((576 - 2 * n) / 4) b)

  numbers-by : (r : SlotRecord) → r.big_values ≤ 288 → (g : Regions) (b : List Bool) → Gives (AtMost 576) (numbers_by word r g b)
  unfolding numbers_by
  numbers-by r h g b =
      let table = table_at g.first g.second r.table_select in
      then_rest_lem (quad_table r.count1table_select) r.big_values h (pairs word table 0 r.big_values b)
      (pairs-bounded table 0 r.big_values b)

  quiet-bounded : (q : Numbers) → Gives (AtMost 576) (quiet q)
  unfolding quiet every
  quiet-bounded (halted k) = tt
  quiet-bounded (got vs b) = record { count = omega arith; sizes = refl }

  -- a slot has at most 576 numbers, and none above 8,206 in magnitude
  pub numbers-bounded : (rate : SampleRate) (r : SlotRecord) → r.big_values ≤ 288 → (b : List Bool) → Gives (AtMost 576) (numbers_of word rate r b)
  unfolding numbers_of every
  numbers-bounded rate r h [] = quiet-bounded (numbers_by word r (regions_of rate r) [])
  numbers-bounded rate r h (a ∷ b) = numbers-by r h (regions_of rate r) (a ∷ b)

-- ---- the published codes are such a reader: a codeword that the bits start with is no longer than they are, and stands for a byte's value
byte_value : Entry → Bool
byte_value (entry v w) = ltb v 256

starts-le : (w b : List Bool) → starts w b ≡ true → length w ≤ length b
unfolding starts
starts-le [] b e = omega arith
starts-le (x ∷ w) [] e = never e
starts-le (x ∷ w) (y ∷ b) e = let k = both_of (beq x y) (starts w b) e in omega (arith, starts-le w b k.1)

first_fits : (es : List Entry) (b : List Bool) (o : Codeword) → every byte_value es ≡ true → WordFits (length b) o → WordFits (length b) (first es b o)
unfolding first every byte_value
first_fits [] b o e f = f
first_fits (entry v w ∷ es) b o e f =
    let k = both_of (ltb v 256) (every byte_value es) e in
    either_way (WordFits (length b)) (starts w b) _ _ (λ h. (ltb-true v 256 k.0, starts-le w b h)) (λ h. first_fits es b o k.1 f)

all_bytes : every (every byte_value) codes ≡ true
unfolding every byte_value codes low_bits pair quad silent table1 table2 table3 table5 table6 table7 table8 table9 table10 table11 table12 table13 table15 table16 table24 table_a table_b
all_bytes = refl

silent-bytes : every byte_value silent ≡ true
unfolding every byte_value silent pair low_bits
silent-bytes = refl

pub published-fits : ReaderFits word_of
unfolding word_of published decode
published-fits t b =
    first_fits (get_or codes t silent) b _ (every-at (every byte_value) silent codes silent-bytes all_bytes t)
    (either_way (WordFits (length b)) (begun (get_or codes t silent) b) (Err Cut) (Err Alien) (λ e. tt) (λ e. tt))

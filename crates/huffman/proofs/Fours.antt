-- A quad with its signs is a codeword of one code more: what that code reads is the quad, and it owns its bits.
use Rattle.std.specs.Prelude.{Some, None, Ok, Err}
use mathlib.Core.Path.{◌≡◌, refl, sym, ap, subst, ◌∙◌}
use mathlib.Core.Bool.{Bool, true, false, ◌&&◌, beq}
use mathlib.Core.List.{List, [], ◌∷◌, map}
use Prim.Native.Nat.{ℕ, zero, suc, ◌+◌, ◌-◌, ◌*◌, ◌/◌, ◌%◌, ◌^◌, ◌<◌}
use native.Mathlib.Omega.{arith}
use lib.IntN.{ℤ}
use borrow.Author.Tests.{ltb-true, eqb-true}
use lib.Dec.{ltb, eqb}
use lib.ListN.{length, get_or, drop}
use lib.Seq.{get_or-drop}
use Rattle.standard.specs.RowsLaws.{every}
use Rattle.standard.specs.Told.{pick}
use Rattle.standard.specs.ToldLaws.{clash, never, both_of}
use Rattle.standard.specs.Bits.{bit_at, bits, one}
use Rattle.standard.specs.BitsLaws.{drop_bits}
use Rattle.standard.specs.Codes.{Entry, entry, low_bits, quad, codes, starts, first, begun, decode, word_of, published, table_a, table_b, taken, Codeword}
use Rattle.standard.proofs.CodesLaws.{In, here, there}
use Rattle.standard.specs.Numbers.{magnitude_of, sign_of, signed, further, then_sign, number_in, two_last, two_first, two_of, quad_last, quad_first, quad_word, quad_of, quad_table, Number, Pair, Quad}
use Rattle.standard.proofs.NumbersLaws.{plain}
use Rattle.standard.specs.declared.Refusal.TheVariants.{PairOverrun}
use Rattle.standard.specs.declared.Taken.{Taken}
use Rattle.standard.specs.declared.Unread.TheVariants.{Cut, Alien}
use Rattle.huffman.specs.Ahead.{Ahead}
use Rattle.huffman.specs.Found.{root_of, FoundIn}
use Rattle.huffman.specs.Owns.{Owns}
use Rattle.huffman.specs.Cells.{quads_at, size, cells}
use Rattle.huffman.specs.Signed.{with_signs, spread, branch, digit, digits, held_codes, held}
use Rattle.huffman.proofs.Reading.{word_owns}
use Rattle.huffman.proofs.Finding.{found_code}
use Rattle.huffman.proofs.Owning.{in_turn, made, signed-none, signed-some, number_plain, two_owns}

-- ---- what was read owns its bits
-- a number
OwnsNumber : (List Bool → Number) → List ℕ → ℕ → Number → Type 0
OwnsNumber f s at (Some z) = Owns f (Some z) None s at z.used
OwnsNumber f s at None = Unit {0}

signed-honest : (v : ℕ) (s : List ℕ) (at k : ℕ) → OwnsNumber (signed v) s at (signed v (bits s at k))
unfolding signed bits OwnsNumber
signed-honest zero s at k = signed-none s at
signed-honest (suc v) s at zero = tt
signed-honest (suc v) s at (suc k) = signed-some v s at

number_of : (v : ℕ) → (v ≡ 15 → ⊥) → (s : List ℕ) (at : ℕ) (x : Number) → OwnsNumber (signed v) s at x → OwnsNumber (number_in 0 v) s at x
unfolding OwnsNumber
number_of v h s at None o = tt
number_of v h s at (Some z) o = number_plain 0 v z.used z.value h s at o

further-none : (x : Number) → further 0 x ≡ x
unfolding further
further-none None = refl
further-none (Some z) = let p : 0 + z.used ≡ z.used = omega arith in ap (λ (n : ℕ). Some (taken z.value n)) p

number_honest : (v : ℕ) → (v ≡ 15 → ⊥) → (s : List ℕ) (at k : ℕ) → OwnsNumber (number_in 0 v) s at (number_in 0 v (bits s at k))
unfolding number_in then_sign
number_honest v h s at k =
    subst (OwnsNumber (number_in 0 v) s at) (sym (ap (then_sign (bits s at k)) (plain 0 v (bits s at k) h) ∙ further-none (signed v (bits s at k))))
    (number_of v h s at (signed v (bits s at k)) (signed-honest v s at k))

-- two
OwnsPair : (List Bool → Pair) → List ℕ → ℕ → Pair → Type 0
OwnsPair f s at (Ok p) = Owns f (Ok p) (Err PairOverrun) s at p.used
OwnsPair f s at (Err r) = Unit {0}

module _ (x y : ℕ) (hx : x ≡ 15 → ⊥) (hy : y ≡ 15 → ⊥) (s : List ℕ) (at k : ℕ) where
  last_honest : (p : ℤ) (i : ℕ) → Owns (number_in 0 x) (Some (taken p i)) None s at i → (q : Number)
      → OwnsNumber (number_in 0 y) s (at + i) q → OwnsPair (two_of 0 x y) s at (two_last p i q)
  unfolding two_last OwnsNumber OwnsPair
  last_honest p i o None g = tt
  last_honest p i o (Some q) g = two_owns 0 x y i q.used p q.value s at o g

  first-honest : (q : Number) → OwnsNumber (number_in 0 x) s at q → OwnsPair (two_of 0 x y) s at (two_first 0 y (bits s at k) q)
  unfolding two_first OwnsNumber OwnsPair
  first-honest None o = tt
  first-honest (Some n) o =
      let p = n.value in
      let i = n.used in
      subst (λ (b : List Bool). OwnsPair (two_of 0 x y) s at (two_last p i (number_in 0 y b))) (sym (drop_bits i s at k))
      (last_honest p i o (number_in 0 y (bits s (at + i) (k - i))) (number_honest y hy s (at + i) (k - i)))

  two_honest : OwnsPair (two_of 0 x y) s at (two_of 0 x y (bits s at k))
  unfolding two_of
  two_honest = first-honest (number_in 0 x (bits s at k)) (number_honest x hx s at k)

-- four
OwnsQuad : (List Bool → Quad) → List ℕ → ℕ → Quad → Type 0
OwnsQuad f s at (Ok q) = Owns f (Ok q) (Err Cut) s at q.used
OwnsQuad f s at (Err why) = Unit {0}

module _ (t c n : ℕ) (s : List ℕ) (at : ℕ) (own : Owns (word_of t) (Ok (taken c n)) (Err Cut) s at n) where
  abbrev rest : List Bool → Quad
  rest b = quad_first c n b (two_of 0 (c / 8 % 2) (c / 4 % 2) b)

  whole-quad : (v w x y : ℤ) (i j : ℕ) → Owns (two_of 0 (c / 8 % 2) (c / 4 % 2)) (Ok (taken (v, w) i)) (Err PairOverrun) s (at + n) i
      → Owns (two_of 0 (c / 2 % 2) (c % 2)) (Ok (taken (x, y) j)) (Err PairOverrun) s (at + n + i) j → Owns (quad_of word_of t) (Ok (taken (v ∷ w ∷ x ∷ y ∷ []) (n + i + j))) (Err Cut) s at (n + i + j)
  unfolding quad_of quad_word quad_first quad_last
  whole-quad v w x y i j f g =
      let e : n + (i + j) ≡ n + i + j = omega arith in
      let last = made (quad_last v w (n + i)) (two_of 0 (c / 2 % 2) (c % 2)) (Ok (taken (x, y) j)) (Err PairOverrun) s (at + n + i) j g in
      let both =
      in_turn (two_of 0 (c / 8 % 2) (c / 4 % 2)) (λ (b : List Bool). quad_last v w (n + i) (two_of 0 (c / 2 % 2) (c % 2) b)) rest (Ok (taken (v, w) i)) (Err PairOverrun)
      (Ok (taken (v ∷ w ∷ x ∷ y ∷ []) (n + i + j))) (Err Cut) s (at + n) i j f last (λ b q. ap (quad_first c n b) q) (λ b q. ap (quad_first c n b) q) in
      subst (λ (m : ℕ). Owns (quad_of word_of t) (Ok (taken (v ∷ w ∷ x ∷ y ∷ []) (n + i + j))) (Err Cut) s at m) e
      (in_turn (word_of t) rest (quad_of word_of t) (Ok (taken c n)) (Err Cut) (Ok (taken (v ∷ w ∷ x ∷ y ∷ []) (n + i + j))) (Err Cut) s at n (i + j) own both (λ b q. ap (quad_word b) q) (λ b q. ap (quad_word b) q))

  last_two : (v w : ℤ) (i : ℕ) → Owns (two_of 0 (c / 8 % 2) (c / 4 % 2)) (Ok (taken (v, w) i)) (Err PairOverrun) s (at + n) i → (q : Pair)
      → OwnsPair (two_of 0 (c / 2 % 2) (c % 2)) s (at + n + i) q → OwnsQuad (quad_of word_of t) s at (quad_last v w (n + i) q)
  unfolding quad_last OwnsPair OwnsQuad
  last_two v w i f (Err r) g = tt
  last_two v w i f (Ok p) g = whole-quad v w p.value.0 p.value.1 i p.used f g

  first_two : (m : ℕ) (q : Pair) → OwnsPair (two_of 0 (c / 8 % 2) (c / 4 % 2)) s (at + n) q → OwnsQuad (quad_of word_of t) s at (quad_first c n (bits s (at + n) m) q)
  unfolding quad_first OwnsPair OwnsQuad
  first_two m (Err r) f = tt
  first_two m (Ok p) f =
      let v = p.value.0 in
      let w = p.value.1 in
      let i = p.used in
      subst (λ (b : List Bool). OwnsQuad (quad_of word_of t) s at (quad_last v w (n + i) (two_of 0 (c / 2 % 2) (c % 2) b))) (sym (drop_bits i s (at + n) m))
      (last_two v w i f (two_of 0 (c / 2 % 2) (c % 2) (bits s (at + n + i) (m - i))) (two_honest (c / 2 % 2) (c % 2) (λ h. omega arith) (λ h. omega arith) s (at + n + i) (m - i)))

module _ (t : ℕ) (s : List ℕ) (at k : ℕ) where
  by_word : (w : Codeword) → word_of t (bits s at k) ≡ w → OwnsQuad (quad_of word_of t) s at (quad_word (bits s at k) w)
  unfolding quad_word OwnsQuad
  by_word (Err why) e = tt
  by_word (Ok r) e =
      let c = r.value in
      let n = r.used in
      subst (λ (b : List Bool). OwnsQuad (quad_of word_of t) s at (quad_first c n b (two_of 0 (c / 8 % 2) (c / 4 % 2) b))) (sym (drop_bits n s at k))
      (first_two t c n s at (word_owns t s at k c n e) (k - n) (two_of 0 (c / 8 % 2) (c / 4 % 2) (bits s (at + n) (k - n)))
      (two_honest (c / 8 % 2) (c / 4 % 2) (λ h. omega arith) (λ h. omega arith) s (at + n) (k - n)))

  quad-honest : OwnsQuad (quad_of word_of t) s at (quad_of word_of t (bits s at k))
  unfolding quad_of
  quad-honest = by_word (word_of t (bits s at k)) refl

-- ---- which codeword was read
record Read (es : List Entry) (b : List Bool) (r n : ℕ) : Type 0 where
  word : List Bool
  among : In (entry r word) es
  starting : starts word b ≡ true
  long : n ≡ length word

read_here : (v : ℕ) (w : List Bool) (es : List Entry) (b : List Bool) (r n : ℕ) → ◌≡◌ {A = Codeword} (Ok (taken v (length w))) (Ok (taken r n)) → starts w b ≡ true → Read (entry v w ∷ es) b r n
read_here v w es b r n e h =
    let t : taken v (length w) ≡ taken r n = cc in
    let p = ap (λ (x : Taken ℕ). x.value) t in
    let q = ap (λ (x : Taken ℕ). x.used) t in
    record { word = w; among = subst (λ (i : ℕ). In (entry i w) (entry v w ∷ es)) p here; starting = h; long = sym q }

read-there : (a : Entry) (es : List Entry) (b : List Bool) (r n : ℕ) → Read es b r n → Read (a ∷ es) b r n
read-there a es b r n f = record { word = f.word; among = there f.among; starting = f.starting; long = f.long }

read-either : (v : ℕ) (w : List Bool) (es : List Entry) (b : List Bool) (r n : ℕ) (later : Codeword) (x : Bool) → starts w b ≡ x
    → pick x (Ok (taken v (length w))) later ≡ Ok (taken r n) → (later ≡ Ok (taken r n) → Read es b r n) → Read (entry v w ∷ es) b r n
unfolding pick
read-either v w es b r n later true h e f = read_here v w es b r n e h
read-either v w es b r n later false h e f = read-there (entry v w) es b r n (f e)

read_by : (es : List Entry) (b : List Bool) (o : Codeword) (r n : ℕ) → (o ≡ Ok (taken r n) → ⊥) → first es b o ≡ Ok (taken r n) → Read es b r n
unfolding first
read_by [] b o r n h e = absurd (h e)
read_by (entry v w ∷ es) b o r n h e = read-either v w es b r n (first es b o) (starts w b) refl e (λ g. read_by es b o r n h g)

no_word : (x : Bool) (r n : ℕ) → pick x (Err Cut) (Err Alien) ≡ Ok (taken r n) → ⊥
unfolding pick
no_word true r n e = let z : ◌≡◌ {A = ℕ} 0 1 = cc in omega arith
no_word false r n e = let z : ◌≡◌ {A = ℕ} 0 1 = cc in omega arith

which : (es : List Entry) (b : List Bool) (r n : ℕ) → decode es b ≡ Ok (taken r n) → Read es b r n
unfolding decode
which es b r n e = read_by es b (pick (begun es b) (Err Cut) (Err Alien)) r n (no_word (begun es b) r n) e

-- the bits that it has
same_bit : (x y : Bool) → beq x y ≡ true → y ≡ x
same_bit true true e = refl
same_bit true false e = never e
same_bit false true e = never e
same_bit false false e = refl

own_bits : (w : List Bool) (s : List ℕ) (at k : ℕ) → starts w (bits s at k) ≡ true → bits s at (length w) ≡ w
unfolding starts bits
own_bits [] s at k e = refl
own_bits (x ∷ w) s at zero e = never e
own_bits (x ∷ w) s at (suc k) e =
    let p = both_of (beq x (bit_at s at)) _ e in
    (λ j. same_bit x (bit_at s at) p.0 j ∷ own_bits w s (suc at) k p.1 j)

-- ---- each of the 81 codewords reads as its quad: computed
abbrev as_quad : ℕ → Entry → Quad
as_quad t (entry r w) = quad_of word_of t w

abbrev as_digits : Entry → Quad
as_digits (entry r w) = Ok (taken (digits r) (length w))

agree_at : (f g : Entry → Quad) (es : List Entry) → map f es ≡ map g es → (e : Entry) → In e es → f e ≡ g e
agree_at f g [] p e i = elim i [ ]
agree_at f g (a ∷ es) p e here = let h : f a ≡ g a = cc in h
agree_at f g (a ∷ es) p e (there i) = let h : map f es ≡ map g es = cc in agree_at f g es h e i

abbrev below81 : Entry → Bool
below81 (entry r w) = ltb r 81

every_in : (f : Entry → Bool) (es : List Entry) → every f es ≡ true → (e : Entry) → In e es → f e ≡ true
unfolding every
every_in f [] h e i = elim i [ ]
every_in f (a ∷ es) h e here = (both_of (f a) _ h).0
every_in f (a ∷ es) h e (there i) = every_in f es (both_of (f a) _ h).1 e i

-- of both codes, by the table's number
agree_A : map (as_quad 32) (with_signs (published 32)) ≡ map as_digits (with_signs (published 32))
unfolding with_signs spread branch digit published codes table_a quad low_bits quad_of quad_word word_of decode first starts begun pick quad_first quad_last two_of two_first two_last number_in then_sign magnitude_of further signed sign_of
agree_A = refl

agree_B : map (as_quad 33) (with_signs (published 33)) ≡ map as_digits (with_signs (published 33))
unfolding with_signs spread branch digit published codes table_b quad low_bits quad_of quad_word word_of decode first starts begun pick quad_first quad_last two_of two_first two_last number_in then_sign magnitude_of further signed sign_of
agree_B = refl

module _ (t : ℕ) (agree : map (as_quad t) (with_signs (published t)) ≡ map as_digits (with_signs (published t))) where
  -- what the code of quads with signs reads is the quad of the published code, and owns its bits
  quad-owns : (s : List ℕ) (at k r n : ℕ) → decode (with_signs (published t)) (bits s at k) ≡ Ok (taken r n)
      → Owns (quad_of word_of t) (Ok (taken (digits r) n)) (Err Cut) s at n
  unfolding OwnsQuad
  quad-owns s at k r n e =
      let f = which (with_signs (published t)) (bits s at k) r n e in
      let w = f.word in
      let b = own_bits w s at k f.starting in
      let q = ap (quad_of word_of t) b ∙ agree_at (as_quad t) as_digits (with_signs (published t)) agree (entry r w) f.among in
      subst (λ (m : ℕ). Owns (quad_of word_of t) (Ok (taken (digits r) m)) (Err Cut) s at m) (sym f.long)
      (subst (OwnsQuad (quad_of word_of t) s at) q (quad-honest t s at (length w)))

  -- and it is one of 81
  quad-below : every below81 (with_signs (published t)) ≡ true → (b : List Bool) (r n : ℕ) → decode (with_signs (published t)) b ≡ Ok (taken r n) → r < 81
  quad-below h b r n e =
      let f = which (with_signs (published t)) b r n e in
      ltb-true r 81 (every_in below81 (with_signs (published t)) h (entry r f.word) f.among)

below-A : every below81 (with_signs (published 32)) ≡ true
unfolding every with_signs spread branch published codes table_a quad low_bits
below-A = refl

below-B : every below81 (with_signs (published 33)) ≡ true
unfolding every with_signs spread branch published codes table_b quad low_bits
below-B = refl

-- by the choice of the table
module _ (k : ℕ) (s : List ℕ) (at m r n : ℕ) where
  quad-read : (c : Bool) → held k ≡ with_signs (published (quad_table c)) → decode (held k) (bits s at m) ≡ Ok (taken r n)
      → Owns (quad_of word_of (quad_table c)) (Ok (taken (digits r) n)) (Err Cut) s at n
  quad-read false h e = quad-owns 32 agree_A s at m r n (sym (ap (λ (es : List Entry). decode es (bits s at m)) h) ∙ e)
  quad-read true h e = quad-owns 33 agree_B s at m r n (sym (ap (λ (es : List Entry). decode es (bits s at m)) h) ∙ e)

  quad-row : (c : Bool) → held k ≡ with_signs (published (quad_table c)) → decode (held k) (bits s at m) ≡ Ok (taken r n) → r < 81
  quad-row false h e = quad-below 32 agree_A below-A (bits s at m) r n (sym (ap (λ (es : List Entry). decode es (bits s at m)) h) ∙ e)
  quad-row true h e = quad-below 33 agree_B below-B (bits s at m) r n (sym (ap (λ (es : List Entry). decode es (bits s at m)) h) ∙ e)

-- without bits there is none, so one that is read has some
quad-none : (c : Bool) → quad_of word_of (quad_table c) [] ≡ Err Cut
unfolding quad_of quad_word word_of decode first starts begun pick published codes table_a table_b quad low_bits
quad-none false = refl
quad-none true = refl

quad-some : (c : Bool) (s : List ℕ) (at n : ℕ) (vs : List ℤ) → Owns (quad_of word_of (quad_table c)) (Ok (taken vs n)) (Err Cut) s at n → 0 < n
unfolding bits
quad-some c s at zero vs o = clash (let e : ◌≡◌ {A = Quad} (Err Cut) (Ok (taken vs 0)) = sym (quad-none c) ∙ o.whole 0 (omega arith) in cc)
quad-some c s at (suc n) vs o = omega arith

pub held-quads : (c : Bool) (k : ℕ) → k ≡ 34 + one c → held k ≡ with_signs (published (quad_table c))
unfolding held held_codes codes published
held-quads false k e = ap held e
held-quads true k e = ap held e

-- ---- the rows of cells
rows : ℕ → List ℕ → Bool
rows r [] = eqb r 81
rows r (a ∷ []) = false
rows r (a ∷ b ∷ []) = false
rows r (a ∷ b ∷ c ∷ []) = false
rows r (a ∷ b ∷ c ∷ d ∷ cs) = (eqb a (r / 27) && (eqb b (r / 9 % 3) && (eqb c (r / 3 % 3) && eqb d (r % 3)))) && rows (suc r) cs

rows-shown : rows 0 (drop quads_at cells) ≡ true
unfolding rows cells
rows-shown = refl

pub record Row (cs : List ℕ) (at r : ℕ) : Type 0 where
  pub first-is : get_or cs at 0 ≡ r / 27
  pub second_is : get_or cs (at + 1) 0 ≡ r / 9 % 3
  pub third_is : get_or cs (at + 2) 0 ≡ r / 3 % 3
  pub fourth_is : get_or cs (at + 3) 0 ≡ r % 3

-- a row after n cells
row_after : (n : ℕ) (cs : List ℕ) (at r : ℕ) → Row (drop n cs) at r → Row cs (n + at) r
row_after n cs at r w =
    record {
      first-is = sym (get_or-drop n cs at 0) ∙ w.first-is;
      second_is = moved 1 ∙ w.second_is;
      third_is = moved 2 ∙ w.third_is;
      fourth_is = moved 3 ∙ w.fourth_is;
    }
  where
    moved : (j : ℕ) → get_or cs (n + at + j) 0 ≡ get_or (drop n cs) (at + j) 0
    moved j = let q : n + at + j ≡ n + (at + j) = omega arith in ap (λ (i : ℕ). get_or cs i 0) q ∙ sym (get_or-drop n cs (at + j) 0)

row_in : (k i : ℕ) (cs : List ℕ) → rows i cs ≡ true → i + k < 81 → Row cs (4 * k) (i + k)
unfolding rows
row_in k i [] e h = let q = eqb-true i 81 e in absurd (omega arith)
row_in k i (a ∷ []) e h = never e
row_in k i (a ∷ b ∷ []) e h = never e
row_in k i (a ∷ b ∷ c ∷ []) e h = never e
row_in zero i (a ∷ b ∷ c ∷ d ∷ cs) e h =
    let p = (both_of (eqb a (i / 27) && (eqb b (i / 9 % 3) && (eqb c (i / 3 % 3) && eqb d (i % 3)))) _ e).0 in
    let q = both_of (eqb a (i / 27)) _ p in
    let r = both_of (eqb b (i / 9 % 3)) _ q.1 in
    let t = both_of (eqb c (i / 3 % 3)) _ r.1 in
    let z : i ≡ i + 0 = omega arith in
    subst (Row (a ∷ b ∷ c ∷ d ∷ cs) 0) z
    (record { first-is = eqb-true _ _ q.0; second_is = eqb-true _ _ r.0; third_is = eqb-true _ _ t.0; fourth_is = eqb-true _ _ t.1 })
row_in (suc k) i (a ∷ b ∷ c ∷ d ∷ cs) e h =
    let p = (both_of (eqb a (i / 27) && (eqb b (i / 9 % 3) && (eqb c (i / 3 % 3) && eqb d (i % 3)))) _ e).1 in
    let w = row_in k (suc i) cs p (omega arith) in
    let y : suc i + k ≡ i + suc k = omega arith in
    let z : 4 + 4 * k ≡ 4 * suc k = omega arith in
    subst (Row (a ∷ b ∷ c ∷ d ∷ cs) (4 * suc k)) y
    (subst (λ (j : ℕ). Row (a ∷ b ∷ c ∷ d ∷ cs) j (suc i + k)) z (row_after 4 (a ∷ b ∷ c ∷ d ∷ cs) (4 * k) (suc i + k) w))

pub row_at : (r : ℕ) → r < 81 → Row cells (quads_at + 4 * r) r
row_at r h =
    let z : 0 + r ≡ r = omega arith in
    row_after quads_at cells (4 * r) r (subst (Row (drop quads_at cells) (4 * r)) z (row_in r 0 (drop quads_at cells) rows-shown (omega arith)))

-- the cells of a row
module _ (r : ℕ) (g : r < 81) where
  pub row_0 : (quads_at + 4 * r < size) × (get_or cells (quads_at + 4 * r) 0 ≡ r / 27) × (get_or cells (quads_at + 4 * r) 0 < 3)
  row_0 = let e = (row_at r g).first-is in (omega arith, e, omega (arith, e))

  pub row_1 : (quads_at + 4 * r + 1 < size) × (get_or cells (quads_at + 4 * r + 1) 0 ≡ r / 9 % 3) × (get_or cells (quads_at + 4 * r + 1) 0 < 3)
  row_1 = let e = (row_at r g).second_is in (omega arith, e, omega (arith, e))

  pub row_2 : (quads_at + 4 * r + 2 < size) × (get_or cells (quads_at + 4 * r + 2) 0 ≡ r / 3 % 3) × (get_or cells (quads_at + 4 * r + 2) 0 < 3)
  row_2 = let e = (row_at r g).third_is in (omega arith, e, omega (arith, e))

  pub row_3 : (quads_at + 4 * r + 3 < size) × (get_or cells (quads_at + 4 * r + 3) 0 ≡ r % 3) × (get_or cells (quads_at + 4 * r + 3) 0 < 3)
  row_3 = let e = (row_at r g).fourth_is in (omega arith, e, omega (arith, e))

-- ---- what was found in a word, of the code of quads with signs
pub quad-found : {link word leaf used : ℕ} → FoundIn link word leaf used → word < 2 ^ 64 → (s : List ℕ) (p : ℕ) → Ahead word s p → (k : ℕ) → link ≡ root_of k
    → (c : Bool) → held k ≡ with_signs (published (quad_table c))
    → Owns (quad_of word_of (quad_table c))
    (Ok (taken (digits (leaf % 256)) used)) (Err Cut) s p used
    × (leaf % 256 < 81) × (0 < used)
quad-found {leaf = leaf} {used = used} f h s p a k is c same =
    let e = found_code f h s p a k is in
    let o = quad-read k s p 57 (leaf % 256) used c same e in
    (o, quad-row k s p 57 (leaf % 256) used c same e, quad-some c s p used _ o)

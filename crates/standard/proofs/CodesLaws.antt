-- Reading a codeword goes bit by bit: a bit leaves the entries that start with it. And of each published code, shown once over the table
-- number by a test that is computed over all tables: it is complete (whatever the bits are, they begin a codeword, so refusal 25 cannot
-- occur), and has one reading (no codeword begins another).
use Rattle.std.specs.Prelude.{◌≡◌, Bool, ◌&&◌, eqb, Ok, Err, length}
use Rattle.std.proofs.Math.Path.{refl, ap}
use Rattle.std.proofs.Common.{sym, ◌∙◌, arith, eqb-true, eq-eqb}
use Rattle.std.proofs.Math.Bool.{true, false}
use mathlib.Core.List.{List, [], ◌∷◌}
use Prim.Native.Nat.{ℕ, zero, suc}
use Rattle.standard.specs.Told.{pick}
use Rattle.standard.specs.ToldLaws.{never, both_of}
use Rattle.standard.specs.RowsLaws.{every, every-at}
use Rattle.standard.specs.Codes.{taken, Codeword, Entry, entry, low_bits, pair, quad, starts, first, begun, decode, silent, table1, table2, table3, table5, table6, table7, table8, table9, table10, table11, table12, table13, table15, table16, table24, table_a, table_b, codes, published}
use Rattle.standard.specs.declared.Unread.TheVariants.{Cut, Alien}

-- ---- one bit
-- the entries that start with a bit, without it
abbrev pub after : Bool → List Entry → List Entry
after b [] = []
after b (entry v [] ∷ es) = after b es
after true (entry v (true ∷ w) ∷ es) = entry v w ∷ after true es
after true (entry v (false ∷ w) ∷ es) = after true es
after false (entry v (true ∷ w) ∷ es) = after false es
after false (entry v (false ∷ w) ∷ es) = entry v w ∷ after false es

-- every entry has a bit left
abbrev pub open_all : List Entry → Bool
open_all [] = true
open_all (entry v [] ∷ es) = false
open_all (entry v (b ∷ w) ∷ es) = open_all es

-- there are entries, and every one has a bit left
abbrev pub inner : List Entry → Bool
inner [] = false
inner (e ∷ es) = open_all (e ∷ es)

-- there is one entry, and it has no bit left and the value v
abbrev pub lone : ℕ → List Entry → Bool
lone v [] = false
lone v (entry u [] ∷ []) = eqb u v
lone v (entry u (b ∷ w) ∷ []) = false
lone v (entry u w ∷ (e ∷ es)) = false

-- one bit more was used
unfoldable pub more : Codeword → Codeword
more (Ok c) = Ok (taken c.value (suc c.used))
more (Err e) = Err e

more-pick : (t : Bool) (x y : Codeword) → pick t (more x) (more y) ≡ more (pick t x y)
unfolding pick
more-pick true x y = refl
more-pick false x y = refl

first-after : (es : List Entry) (b : Bool) (bs : List Bool) (o : Codeword) → open_all es ≡ true
    → first es (b ∷ bs) (more o) ≡ more (first (after b es) bs o)
unfolding first starts pick more
first-after [] b bs o t = refl
first-after (entry v [] ∷ es) b bs o t = never t
first-after (entry v (true ∷ w) ∷ es) true bs o t =
    ap (λ (x : Codeword). pick (starts w bs) (Ok (taken v (suc (length w)))) x) (first-after es true bs o t)
    ∙ more-pick (starts w bs) (Ok (taken v (length w))) (first (after true es) bs o)
first-after (entry v (true ∷ w) ∷ es) false bs o t = first-after es false bs o t
first-after (entry v (false ∷ w) ∷ es) true bs o t = first-after es true bs o t
first-after (entry v (false ∷ w) ∷ es) false bs o t =
    ap (λ (x : Codeword). pick (starts w bs) (Ok (taken v (suc (length w)))) x) (first-after es false bs o t)
    ∙ more-pick (starts w bs) (Ok (taken v (length w))) (first (after false es) bs o)

begun-after : (es : List Entry) (b : Bool) (bs : List Bool) → begun es (b ∷ bs) ≡ begun (after b es) bs
unfolding begun starts
begun-after [] b bs = refl
begun-after (entry v [] ∷ es) b bs = begun-after es b bs
begun-after (entry v (true ∷ w) ∷ es) true bs = cc (begun-after es true bs)
begun-after (entry v (true ∷ w) ∷ es) false bs = begun-after es false bs
begun-after (entry v (false ∷ w) ∷ es) true bs = begun-after es true bs
begun-after (entry v (false ∷ w) ∷ es) false bs = cc (begun-after es false bs)

first-end : (es : List Entry) (o : Codeword) → open_all es ≡ true → first es [] o ≡ o
unfolding first starts pick
first-end [] o t = refl
first-end (entry v [] ∷ es) o t = never t
first-end (entry v (b ∷ w) ∷ es) o t = first-end es o t

inner-open : (es : List Entry) → inner es ≡ true → open_all es ≡ true
inner-open [] t = never t
inner-open (e ∷ es) t = t

more-last : (t : Bool) → more (pick t (Err Cut) (Err Alien)) ≡ pick t (Err Cut) (Err Alien)
unfolding more pick
more-last true = refl
more-last false = refl

pub decode-bit : (es : List Entry) (b : Bool) (bs : List Bool) → inner es ≡ true → decode es (b ∷ bs) ≡ more (decode (after b es) bs)
unfolding decode
decode-bit es b bs t =
    ap (first es (b ∷ bs)) (ap (λ (z : Bool). pick z (Err Cut) (Err Alien)) (begun-after es b bs) ∙ sym (more-last (begun (after b es) bs)))
    ∙ first-after es b bs (pick (begun (after b es) bs) (Err Cut) (Err Alien)) (inner-open es t)

pub decode-end : (es : List Entry) → inner es ≡ true → decode es [] ≡ Err Cut
unfolding decode begun starts pick
decode-end [] t = never t
decode-end (entry v w ∷ es) t = first-end (entry v w ∷ es) (Err Cut) t

pub decode-leaf : (v : ℕ) (es : List Entry) (b : List Bool) → lone v es ≡ true → decode es b ≡ Ok (taken v 0)
unfolding decode first starts pick
decode-leaf v [] b t = never t
decode-leaf v (entry u [] ∷ []) b t = ap (λ (n : ℕ). Ok (taken n 0)) (eqb-true u v t)
decode-leaf v (entry u (c ∷ w) ∷ []) b t = never t
decode-leaf v (entry u w ∷ (e ∷ es)) b t = never t

-- ---- a whole code: whichever bits come, they lead to one entry, in at most f bits
unfoldable pub whole : ℕ → List Entry → Bool
whole zero es = false
whole (suc f) [] = false
whole (suc f) (entry v [] ∷ []) = true
whole (suc f) (entry v [] ∷ (e ∷ es)) = false
whole (suc f) (entry v (x ∷ w) ∷ es) =
    open_all es && (whole f (after false (entry v (x ∷ w) ∷ es)) && whole f (after true (entry v (x ∷ w) ∷ es)))

-- what is left after a bit is whole too
left_whole : (f : ℕ) (v : ℕ) (x : Bool) (w : List Bool) (es : List Entry) → whole (suc f) (entry v (x ∷ w) ∷ es) ≡ true
    → (b : Bool) → (open_all es ≡ true) × (whole f (after b (entry v (x ∷ w) ∷ es)) ≡ true)
unfolding whole
left_whole f v x w es t b = pack b
  where
    parts : (open_all es ≡ true) × (whole f (after false (entry v (x ∷ w) ∷ es)) && whole f (after true (entry v (x ∷ w) ∷ es)) ≡ true)
    parts = both_of (open_all es) _ t

    pack : (b : Bool) → (open_all es ≡ true) × (whole f (after b (entry v (x ∷ w) ∷ es)) ≡ true)
    pack false = (parts.0, (both_of (whole f (after false (entry v (x ∷ w) ∷ es))) _ parts.1).0)
    pack true = (parts.0, (both_of (whole f (after false (entry v (x ∷ w) ∷ es))) _ parts.1).1)

alien_more : (c : Codeword) → more c ≡ Err Alien → c ≡ Err Alien
unfolding more
alien_more (Ok c) e = let z : ◌≡◌ {A = ℕ} 0 1 = cc in let w : ⊥ = omega arith in absurd w
alien_more (Err Cut) e = let z : ◌≡◌ {A = ℕ} 0 1 = cc in let w : ⊥ = omega arith in absurd w
alien_more (Err Alien) e = refl

complete_from : (f : ℕ) (es : List Entry) → whole f es ≡ true → (b : List Bool) → decode es b ≡ Err Alien → ⊥
unfolding whole
complete_from zero es t b e = never t
complete_from (suc f) [] t b e = never t
complete_from (suc f) (entry v [] ∷ []) t b e =
    let q = decode-leaf v (entry v [] ∷ []) b (eq-eqb v v refl) in let z : ◌≡◌ {A = ℕ} 0 1 = cc in omega arith
complete_from (suc f) (entry v [] ∷ (e ∷ es)) t b k = never t
complete_from (suc f) (entry v (x ∷ w) ∷ es) t [] e =
    let q = decode-end (entry v (x ∷ w) ∷ es) (left_whole f v x w es t false).0 in let z : ◌≡◌ {A = ℕ} 0 1 = cc in omega arith
complete_from (suc f) (entry v (x ∷ w) ∷ es) t (y ∷ b) e =
    let k = left_whole f v x w es t y in
    complete_from f (after y (entry v (x ∷ w) ∷ es)) k.1 b
    (alien_more (decode (after y (entry v (x ∷ w) ∷ es)) b) (sym (decode-bit (entry v (x ∷ w) ∷ es) y b k.0) ∙ e))

-- ---- one reading
pub data In (e : Entry) : List Entry → Type 0 where
  here : {es : List Entry} → In e (e ∷ es)
  there : {a : Entry} {es : List Entry} → In e es → In e (a ∷ es)

module _ (v : ℕ) where
  no_empty : {es : List Entry} → In (entry v []) es → open_all es ≡ true → ⊥
  no_empty here t = never t
  no_empty (there {a = entry u []} i) t = never t
  no_empty (there {a = entry u (c ∷ w)} i) t = no_empty i t

  in_after : (b : Bool) (w : List Bool) {es : List Entry} → In (entry v (b ∷ w)) es → In (entry v w) (after b es)
  in_after true w here = here
  in_after false w here = here
  in_after true w (there {a = entry u []} i) = in_after true w i
  in_after true w (there {a = entry u (true ∷ z)} i) = there (in_after true w i)
  in_after true w (there {a = entry u (false ∷ z)} i) = in_after true w i
  in_after false w (there {a = entry u []} i) = in_after false w i
  in_after false w (there {a = entry u (true ∷ z)} i) = in_after false w i
  in_after false w (there {a = entry u (false ∷ z)} i) = there (in_after false w i)

  -- of a code's only entry, that is out of bits
  last_one : (u : ℕ) (w : List Bool) → In (entry v w) (entry u [] ∷ []) → (b : List Bool) → decode (entry u [] ∷ []) b ≡ Ok (taken v (length w))
  unfolding decode first starts pick
  last_one u w here b = refl
  last_one u w (there i) b = elim i [ ]

  only-from : (f : ℕ) (es : List Entry) → whole f es ≡ true → (w : List Bool) → In (entry v w) es → (b : List Bool) → starts w b ≡ true
      → decode es b ≡ Ok (taken v (length w))
  unfolding whole starts more
  only-from zero es t w i b s = never t
  only-from (suc f) [] t w i b s = never t
  only-from (suc f) (entry u [] ∷ []) t w i b s = last_one u w i b
  only-from (suc f) (entry u [] ∷ (e ∷ es)) t w i b s = never t
  only-from (suc f) (entry u (x ∷ z) ∷ es) t [] i b s = absurd (no_empty i (left_whole f u x z es t false).0)
  only-from (suc f) (entry u (x ∷ z) ∷ es) t (c ∷ w) i [] s = never s
  only-from (suc f) (entry u (x ∷ z) ∷ es) t (true ∷ w) i (true ∷ b) s =
      let k = left_whole f u x z es t true in
      decode-bit (entry u (x ∷ z) ∷ es) true b k.0 ∙ ap more (only-from f (after true (entry u (x ∷ z) ∷ es)) k.1 w (in_after true w i) b s)
  only-from (suc f) (entry u (x ∷ z) ∷ es) t (false ∷ w) i (false ∷ b) s =
      let k = left_whole f u x z es t false in
      decode-bit (entry u (x ∷ z) ∷ es) false b k.0 ∙ ap more (only-from f (after false (entry u (x ∷ z) ∷ es)) k.1 w (in_after false w i) b s)
  only-from (suc f) (entry u (x ∷ z) ∷ es) t (true ∷ w) i (false ∷ b) s = never s
  only-from (suc f) (entry u (x ∷ z) ∷ es) t (false ∷ w) i (true ∷ b) s = never s

-- ---- all tables
all_whole : every (whole 20) codes ≡ true
unfolding every whole codes low_bits pair quad silent table1 table2 table3 table5 table6 table7 table8 table9 table10 table11 table12 table13 table15 table16 table24 table_a table_b
all_whole = refl

silent-whole : whole 20 silent ≡ true
unfolding whole silent pair low_bits
silent-whole = refl

pub published-whole : (t : ℕ) → whole 20 (published t) ≡ true
unfolding published
published-whole t = every-at (whole 20) silent codes silent-whole all_whole t

-- whatever the bits are, they begin a codeword of the table
pub complete : (t : ℕ) (b : List Bool) → decode (published t) b ≡ Err Alien → ⊥
complete t b e = complete_from 20 (published t) (published-whole t) b e

-- whichever codeword the bits start with is the one that is read
pub one-reading : (t v : ℕ) (w : List Bool) → In (entry v w) (published t) → (b : List Bool) → starts w b ≡ true → decode (published t) b ≡ Ok (taken v (length w))
one-reading t v w i b s = only-from v 20 (published t) (published-whole t) w i b s

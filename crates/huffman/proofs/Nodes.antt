-- The flat table is the published codes, over the table number: one test, computed over the whole table, pushes each published list into its
-- node, bit by bit; and what the test says of a node makes the cell that the next bits choose the reading of a codeword.
use Rattle.std.specs.Prelude.{Ok, Err}
use mathlib.Core.Path.{◌≡◌, refl, sym, ap, subst, ◌∙◌}
use mathlib.Core.Bool.{Bool, true, false, ◌&&◌, ◌||◌}
use mathlib.Core.List.{List, [], ◌∷◌}
use Prim.Native.Nat.{ℕ, zero, suc, ◌+◌, ◌-◌, ◌*◌, ◌/◌, ◌%◌, ◌^◌, ◌<◌, ◌≤◌}
use native.Mathlib.Nat.{zero-add, one-mul, zero-mul, pow-succ'}
use native.Mathlib.Decide.{dec_le}
use native.Mathlib.Omega.{arith}
use borrow.Author.Tests.{ltb-true, leb-true, eqb-true, le-ltb}
use lib.Dec.{ltb, leb, eqb}
use lib.ListN.{length, get_or, take, drop}
use lib.Seq.{get_or-drop}
use Rattle.standard.specs.ToldLaws.{never, both_of}
use Rattle.standard.specs.RowsLaws.{every, every-at}
use Rattle.standard.specs.Bits.{bit_at, bits, one, field_at, value, value_from}
use Rattle.standard.specs.BitsLaws.{field_at_add, field_at_one, field_at_lt}
use Rattle.standard.specs.Codes.{Entry, decode, low_bits, pair, quad, silent, table1, table2, table3, table5, table6, table7, table8, table9, table10, table11, table12, table13, table15, table16, table24, table_a, table_b, codes, taken, Codeword}
use Rattle.standard.proofs.CodesLaws.{after, inner, lone, more, decode-bit, decode-leaf}
use Rattle.huffman.specs.Cells.{roots, silent_link, size, cells}
use Rattle.huffman.specs.Found.{has_fifteen}
use Rattle.huffman.specs.Signed.{with_signs, spread, branch, held_codes, held}

pub size_is : length cells ≡ size
unfolding cells
size_is = refl

-- ---- the test
-- the 2 ^ k cells at the front of cs are the code es, d bits of their node having been used; the flag says that every entry has a bit left.
-- P tests a link.
block : (ℕ → List Entry → Bool) → ℕ → Bool → ℕ → List ℕ → List Entry → Bool
block P zero true d cs es = let c : ℕ = get_or cs 0 0 in ltb c 32768 && P c es
block P zero false d cs es = let c : ℕ = get_or cs 0 0 in leb 32768 c && (eqb (c / 256 % 8) d && lone (c % 256) es)
block P (suc k) true d cs es =
    block P k (inner (after false es)) (suc d) cs (after false es)
    && block P k (inner (after true es)) (suc d) (drop (2 ^ k) cs) (after true es)
block P (suc k) false d cs es = block P k false d cs es && block P k false d (drop (2 ^ k) cs) es

-- the node of a link, with at most f levels
pub node : ℕ → ℕ → List Entry → Bool
node zero c es = false
node (suc f) c es =
    ltb 0 (c / 4096)
    && (ltb (c / 4096) 8
    && (leb (c % 4096 + 2 ^ (c / 4096)) size
    && block (λ (l : ℕ) (r : List Entry). node f l r) (c / 4096) (inner es) 0 (drop (c % 4096) cells) es))

rooted : List ℕ → List (List Entry) → Bool
rooted [] [] = true
rooted [] (c ∷ cs) = false
rooted (n ∷ ns) [] = false
rooted (n ∷ ns) (c ∷ cs) = node 8 n c && rooted ns cs

shown : rooted (take roots cells) held_codes ≡ true
unfolding rooted node block cells held_codes with_signs spread branch codes low_bits pair quad silent table1 table2 table3 table5 table6 table7 table8 table9 table10 table11 table12 table13 table15 table16 table24 table_a table_b
shown = refl

silent-is : node 8 silent_link silent ≡ true
unfolding node block cells silent pair low_bits
silent-is = refl

rooted_at : (ns : List ℕ) (cs : List (List Entry)) → rooted ns cs ≡ true → (t : ℕ) → node 8 (get_or ns t silent_link) (get_or cs t silent) ≡ true
unfolding rooted
rooted_at [] [] e t = silent-is
rooted_at [] (c ∷ cs) e t = never e
rooted_at (n ∷ ns) [] e t = never e
rooted_at (n ∷ ns) (c ∷ cs) e zero = (both_of (node 8 n c) _ e).0
rooted_at (n ∷ ns) (c ∷ cs) e (suc t) = rooted_at ns cs (both_of (node 8 n c) _ e).1 t

pub table_is : (t : ℕ) → node 8 (get_or (take roots cells) t silent_link) (held t) ≡ true
unfolding held
table_is t = rooted_at (take roots cells) held_codes shown t

-- ---- a leaf's flag says whether it has a value of 15
flag_ok : ℕ → Bool
flag_ok c = ltb c 32768 || eqb (c / 4096 % 2) (one (has_fifteen (c % 256)))

all_flagged : every flag_ok cells ≡ true
unfolding every flag_ok cells
all_flagged = refl

pub flag_at : (i : ℕ) → 32768 ≤ get_or cells i 0 → get_or cells i 0 / 4096 % 2 ≡ one (has_fifteen (get_or cells i 0 % 256))
unfolding flag_ok
flag_at i h =
    let c = get_or cells i 0 in
    eqb-true _ _ (sym (ap (λ (b : Bool). b || eqb (c / 4096 % 2) (one (has_fifteen (c % 256)))) (le-ltb c 32768 h)) ∙ every-at flag_ok 0 cells refl all_flagged i)

-- ---- what the test says of the cell that the next bits choose
-- u bits were used before
unfoldable pub spent : ℕ → Codeword → Codeword
spent u (Ok c) = Ok (taken c.value (u + c.used))
spent u (Err why) = Err why

spent-none : (c : Codeword) → spent 0 c ≡ c
unfolding spent
spent-none (Ok c) = ap (λ (n : ℕ). Ok (taken c.value n)) (zero-add c.used)
spent-none (Err why) = refl

more-spent : (u : ℕ) (c : Codeword) → more (spent u c) ≡ spent (suc u) c
unfolding spent more
more-spent u (Ok c) = let p : suc (u + c.used) ≡ suc u + c.used = omega arith in ap (λ (n : ℕ). Ok (taken c.value n)) p
more-spent u (Err why) = refl

spent-spent : (a b : ℕ) (c : Codeword) → spent a (spent b c) ≡ spent (a + b) c
unfolding spent
spent-spent a b (Ok c) = let p : a + (b + c.used) ≡ a + b + c.used = omega arith in ap (λ (n : ℕ). Ok (taken c.value n)) p
spent-spent a b (Err why) = refl

Leaf : ℕ → ℕ → List Entry → Type 0
Leaf c d es = (32768 ≤ c) × (c / 256 % 8 ≡ d) × (lone (c % 256) es ≡ true)

-- no entry has a bit left: every cell is a leaf
flat_at : (P : ℕ → List Entry → Bool) (k d : ℕ) (cs : List ℕ) (es : List Entry) → block P k false d cs es ≡ true
    → (j : ℕ) → j < 2 ^ k → Leaf (get_or cs j 0) d es
unfolding block Leaf
flat_at P zero d cs es t j h =
    let z : 0 ≡ j = omega arith in
    let p = both_of (leb 32768 (get_or cs 0 0)) _ t in
    let q = both_of (eqb (get_or cs 0 0 / 256 % 8) d) _ p.1 in
    subst (λ (i : ℕ). Leaf (get_or cs i 0) d es) z (leb-true 32768 (get_or cs 0 0) p.0, eqb-true (get_or cs 0 0 / 256 % 8) d q.0, q.1)
flat_at P (suc k) d cs es t j h =
    let p = both_of (block P k false d cs es) _ t in
    let w = pow-succ' 2 k in
    elim (dec_le (2 ^ k) j) [
      | yes g ↦
          let e : 2 ^ k + (j - 2 ^ k) ≡ j = omega arith in
          let l : j - 2 ^ k < 2 ^ k = omega (arith, w) in
          subst (λ (c : ℕ). Leaf c d es) (get_or-drop (2 ^ k) cs (j - 2 ^ k) 0 ∙ ap (λ (i : ℕ). get_or cs i 0) e) (flat_at P k d (drop (2 ^ k) cs) es p.1 (j - 2 ^ k) l)
      | no g ↦ flat_at P k d cs es p.0 j (omega arith)
    ]

-- the cell c, chosen by the k bits at a place, d bits of its node being used before: a leaf is the codeword, a link is the code of what is left
record Chosen (P : ℕ → List Entry → Bool) (c d k : ℕ) (es : List Entry) (s : List ℕ) (at n : ℕ) : Type 0 where
  leaf : 32768 ≤ c → (d ≤ c / 256 % 8) × (decode es (bits s at n) ≡ Ok (taken (c % 256) (c / 256 % 8 - d)))
  link : c < 32768 → (r : List Entry) × (P c r ≡ true) × (decode es (bits s at n) ≡ spent k (decode r (bits s (at + k) (n - k))))

-- the first of the bits
module _ (P : ℕ → List Entry → Bool) (d k : ℕ) (es : List Entry) (s : List ℕ) (at n : ℕ) (e : inner es ≡ true) where
  bit_first : (x : Bool) → bit_at s at ≡ x → decode es (bits s at (suc n)) ≡ more (decode (after x es) (bits s (suc at) n))
  unfolding bits
  bit_first x b = ap (λ (y : Bool). decode es (y ∷ bits s (suc at) n)) b ∙ decode-bit es x (bits s (suc at) n) e

  grown : (x : Bool) → bit_at s at ≡ x → (c : ℕ) → Chosen P c (suc d) k (after x es) s (suc at) n → Chosen P c d (suc k) es s at (suc n)
  unfolding more
  grown x b c h =
      record {
        leaf = λ g.
            let p = h.leaf g in
            let q : suc (c / 256 % 8 - suc d) ≡ c / 256 % 8 - d = omega (arith, p.0) in
            (omega (arith, p.0), bit_first x b ∙ ap more p.1 ∙ ap (λ (n : ℕ). Ok (taken (c % 256) n)) q);
        link = λ g.
            let p = h.link g in
            let r = p.0 in
            let a : suc at + k ≡ at + suc k = omega arith in
            let m : n - k ≡ suc n - suc k = omega arith in
            (r, p.1, bit_first x b ∙ ap more p.2 ∙ more-spent k (decode r (bits s (suc at + k) (n - k))) ∙ (λ j. spent (suc k) (decode r (bits s (a j) (m j)))));
      }

first_bit : (s : List ℕ) (at k : ℕ) → field_at s at (suc k) ≡ one (bit_at s at) * 2 ^ k + field_at s (suc at) k
first_bit s at k =
    let q : suc k ≡ 1 + k = omega arith in
    let r : at + 1 ≡ suc at = omega arith in
    ap (field_at s at) q ∙ field_at_add s at 1 k ∙ (λ j. field_at_one s at j * 2 ^ k + field_at s (r j) k)

low_half : (s : List ℕ) (at k : ℕ) (cs : List ℕ) → bit_at s at ≡ false → get_or cs (field_at s (suc at) k) 0 ≡ get_or cs (field_at s at (suc k)) 0
low_half s at k cs b =
    ap (λ (i : ℕ). get_or cs i 0)
    (sym (first_bit s at k ∙ ap (λ (x : Bool). one x * 2 ^ k + field_at s (suc at) k) b ∙ ap (λ (i : ℕ). i + field_at s (suc at) k) (zero-mul (2 ^ k)) ∙ zero-add (field_at s (suc at) k)))

high_half : (s : List ℕ) (at k : ℕ) (cs : List ℕ) → bit_at s at ≡ true → get_or (drop (2 ^ k) cs) (field_at s (suc at) k) 0 ≡ get_or cs (field_at s at (suc k)) 0
high_half s at k cs b =
    get_or-drop (2 ^ k) cs (field_at s (suc at) k) 0
    ∙ ap (λ (i : ℕ). get_or cs i 0)
    (sym (first_bit s at k ∙ ap (λ (x : Bool). one x * 2 ^ k + field_at s (suc at) k) b ∙ ap (λ (i : ℕ). i + field_at s (suc at) k) (one-mul (2 ^ k))))

either : (P : ℕ → List Entry → Bool) (d k : ℕ) (es : List Entry) (s : List ℕ) (at n : ℕ) → inner es ≡ true → (cs : List ℕ)
    → Chosen P (get_or cs (field_at s (suc at) k) 0) (suc d) k (after false es) s (suc at) n
    → Chosen P (get_or (drop (2 ^ k) cs) (field_at s (suc at) k) 0) (suc d) k (after true es) s (suc at) n
    → (x : Bool) → bit_at s at ≡ x → Chosen P (get_or cs (field_at s at (suc k)) 0) d (suc k) es s at (suc n)
either P d k es s at n e cs low high false b =
    subst (λ (c : ℕ). Chosen P c d (suc k) es s at (suc n)) (low_half s at k cs b) (grown P d k es s at n e false b _ low)
either P d k es s at n e cs low high true b =
    subst (λ (c : ℕ). Chosen P c d (suc k) es s at (suc n)) (high_half s at k cs b) (grown P d k es s at n e true b _ high)

-- no bit more chooses
ended : (P : ℕ → List Entry → Bool) (d : ℕ) (cs : List ℕ) (es : List Entry) (s : List ℕ) (at n : ℕ) → block P 0 true d cs es ≡ true
    → Chosen P (get_or cs (field_at s at 0) 0) d 0 es s at n
unfolding block field_at value value_from bits
ended P d cs es s at n t =
    let p = both_of (ltb (get_or cs 0 0) 32768) _ t in
    let l = ltb-true (get_or cs 0 0) 32768 p.0 in
    let a : at ≡ at + 0 = omega arith in
    let m : n ≡ n - 0 = omega arith in
    record {
      leaf = λ g. absurd (omega (arith, l));
      link = λ g. (es, p.1, (λ j. decode es (bits s (a j) (m j))) ∙ sym (spent-none (decode es (bits s (at + 0) (n - 0)))));
    }

halves : (P : ℕ → List Entry → Bool) (k d : ℕ) (cs : List ℕ) (es : List Entry) → block P (suc k) true d cs es ≡ true
    → (block P k (inner (after false es)) (suc d) cs (after false es) ≡ true) × (block P k (inner (after true es)) (suc d) (drop (2 ^ k) cs) (after true es) ≡ true)
unfolding block
halves P k d cs es t = both_of (block P k (inner (after false es)) (suc d) cs (after false es)) _ t

leaves : (P : ℕ → List Entry → Bool) (k d : ℕ) (cs : List ℕ) (es : List Entry) (s : List ℕ) (at n : ℕ) → block P k false d cs es ≡ true
    → Chosen P (get_or cs (field_at s at k) 0) d k es s at n
unfolding Leaf
leaves P k d cs es s at n t =
    let l = flat_at P k d cs es t (field_at s at k) (field_at_lt s at k) in
    let c = get_or cs (field_at s at k) 0 in
    let z : 0 ≡ c / 256 % 8 - d = omega (arith, l.1) in
    record {
      leaf = λ g. (omega (arith, l.1), decode-leaf (c % 256) es (bits s at n) l.2 ∙ ap (λ (n : ℕ). Ok (taken (c % 256) n)) z);
      link = λ g. absurd (omega (arith, l.0));
    }

-- one bit more, where k choose already
level : (P : ℕ → List Entry → Bool) (k d : ℕ) (cs : List ℕ) (es : List Entry) (s : List ℕ) (at n : ℕ) (i : Bool) → inner es ≡ i
    → block P (suc k) i d cs es ≡ true
    → ((c : ℕ) (ds : List ℕ) (fs : List Entry) (j : Bool) → inner fs ≡ j → block P k j c ds fs ≡ true → Chosen P (get_or ds (field_at s (suc at) k) 0) c k fs s (suc at) n)
    → Chosen P (get_or cs (field_at s at (suc k)) 0) d (suc k) es s at (suc n)
level P k d cs es s at n false e t given = leaves P (suc k) d cs es s at (suc n) t
level P k d cs es s at n true e t given =
    let p = halves P k d cs es t in
    either P d k es s at n e cs (given (suc d) cs (after false es) (inner (after false es)) refl p.0)
    (given (suc d) (drop (2 ^ k) cs) (after true es) (inner (after true es)) refl p.1) (bit_at s at) refl

none : (P : ℕ → List Entry → Bool) (d : ℕ) (cs : List ℕ) (es : List Entry) (s : List ℕ) (at n : ℕ) (i : Bool) → block P 0 i d cs es ≡ true
    → Chosen P (get_or cs (field_at s at 0) 0) d 0 es s at n
none P d cs es s at n false t = leaves P 0 d cs es s at n t
none P d cs es s at n true t = ended P d cs es s at n t

choose : (P : ℕ → List Entry → Bool) (s : List ℕ) (k n at d : ℕ) (cs : List ℕ) (es : List Entry) → k ≤ n
    → (i : Bool) → inner es ≡ i → block P k i d cs es ≡ true → Chosen P (get_or cs (field_at s at k) 0) d k es s at n
choose P s zero n at d cs es h i e t = none P d cs es s at n i t
choose P s (suc k) zero at d cs es h i e t = absurd (omega arith)
choose P s (suc k) (suc n) at d cs es h i e t =
    level P k d cs es s at n i e t (λ c ds fs j q u. choose P s k n (suc at) c ds fs (omega arith) j q u)

-- ---- where a lookup stands: at a link, whose node is the code of what the bits used have left
pub record Stands (table : ℕ) (s : List ℕ) (at link used : ℕ) : Type 0 where
  levels : ℕ
  left : List Entry
  tested : node levels link left ≡ true
  deep : used + 7 * levels ≤ 56
  reads : decode (held table) (bits s at 57) ≡ spent used (decode left (bits s (at + used) (57 - used)))

pub stands_first : (table : ℕ) (s : List ℕ) (at : ℕ) → Stands table s at (get_or (take roots cells) table silent_link) 0
stands_first table s at =
    let a : at ≡ at + 0 = omega arith in
    record {
      levels = 8;
      left = held table;
      tested = table_is table;
      deep = omega arith;
      reads = (λ j. decode (held table) (bits s (a j) 57)) ∙ sym (spent-none (decode (held table) (bits s (at + 0) 57)));
    }

record Link (f c : ℕ) (es : List Entry) : Type 0 where
  below : ℕ
  level : f ≡ suc below
  some : 0 < c / 4096
  narrow : c / 4096 < 8
  room : c % 4096 + 2 ^ (c / 4096) ≤ size
  fits : block (λ (l : ℕ) (r : List Entry). node below l r) (c / 4096) (inner es) 0 (drop (c % 4096) cells) es ≡ true

link_of : (f c : ℕ) (es : List Entry) → node f c es ≡ true → Link f c es
unfolding node
link_of zero c es t = never t
link_of (suc f) c es t =
    let p = both_of (ltb 0 (c / 4096)) _ t in
    let q = both_of (ltb (c / 4096) 8) _ p.1 in
    let r = both_of (leb (c % 4096 + 2 ^ (c / 4096)) size) _ q.1 in
    record {
      below = f;
      level = refl;
      some = ltb-true 0 (c / 4096) p.0;
      narrow = ltb-true (c / 4096) 8 q.0;
      room = leb-true (c % 4096 + 2 ^ (c / 4096)) size r.0;
      fits = r.1;
    }

module _ (table : ℕ) (s : List ℕ) (at link used : ℕ) (w : Stands table s at link used) where
  here : Link w.levels link w.left
  here = link_of w.levels link w.left w.tested

  pub stands_some : 0 < link / 4096
  stands_some = here.some

  pub stands_narrow : link / 4096 < 8
  stands_narrow = here.narrow

  pub stands_near : used + link / 4096 ≤ 56
  stands_near = omega (arith, w.deep, here.level, here.narrow)

  pub stands_room : link % 4096 + field_at s (at + used) (link / 4096) < size
  stands_room = omega (arith, here.room, field_at_lt s (at + used) (link / 4096))

  abbrev cell : ℕ
  cell = get_or cells (link % 4096 + field_at s (at + used) (link / 4096)) 0

  next : Chosen (λ (l : ℕ) (r : List Entry). node here.below l r) cell 0 (link / 4096) w.left s (at + used) (57 - used)
  next =
      subst (λ (c : ℕ). Chosen (λ (l : ℕ) (r : List Entry). node here.below l r) c 0 (link / 4096) w.left s (at + used) (57 - used))
      (get_or-drop (link % 4096) cells (field_at s (at + used) (link / 4096)) 0)
      (choose (λ (l : ℕ) (r : List Entry). node here.below l r) s (link / 4096) (57 - used) (at + used) 0 (drop (link % 4096) cells) w.left
      (omega (arith, stands_near)) (inner w.left) refl here.fits)

  pub stands_turn : (e : ℕ) → e ≡ get_or cells (link % 4096 + field_at s (at + used) (link / 4096)) 0 → e < 32768 → Stands table s at e (used + link / 4096)
  stands_turn e q h =
      let g : cell < 32768 = omega (arith, q) in
      let p = next.link g in
      let r = p.0 in
      let k = link / 4096 in
      let a : at + used + k ≡ at + (used + k) = omega arith in
      let m : 57 - used - k ≡ 57 - (used + k) = omega arith in
      record {
        levels = here.below;
        left = r;
        tested = ap (λ (c : ℕ). node here.below c r) q ∙ p.1;
        deep = omega (arith, w.deep, here.level, here.narrow);
        reads = w.reads ∙ ap (spent used) p.2 ∙ spent-spent used k (decode r (bits s (at + used + k) (57 - used - k))) ∙ (λ j. spent (used + k) (decode r (bits s (a j) (m j))));
      }

  pub stands_end : (e : ℕ) → e ≡ get_or cells (link % 4096 + field_at s (at + used) (link / 4096)) 0 → 32768 ≤ e
      → decode (held table) (bits s at 57) ≡ Ok (taken (e % 256) (used + e / 256 % 8))
  unfolding spent
  stands_end e q h =
      let g : 32768 ≤ cell = omega (arith, q) in
      let p = next.leaf g in
      let z : cell / 256 % 8 - 0 ≡ cell / 256 % 8 = omega arith in
      w.reads ∙ ap (spent used) (p.1 ∙ ap (λ (n : ℕ). Ok (taken (cell % 256) n)) z) ∙ (λ j. Ok (taken (sym q j % 256) (used + sym q j / 256 % 8)))

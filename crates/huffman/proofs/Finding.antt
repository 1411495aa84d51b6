-- One step of a lookup: the cell that the bits of a word choose is the one that the bits of the bytes choose; and what the leaf at its end says.
use Rattle.std.specs.Prelude.{Ok, Err}
use mathlib.Core.Path.{◌≡◌, refl, sym, ap, subst, ◌∙◌}
use mathlib.Core.Bool.{Bool, true, false, ◌||◌}
use mathlib.Core.List.{List}
use Prim.Native.Nat.{ℕ, ◌+◌, ◌-◌, ◌*◌, ◌/◌, ◌%◌, ◌^◌, ◌≤◌, ◌<◌}
use native.Mathlib.Decide.{dec_le}
use native.Mathlib.Omega.{arith}
use borrow.Author.Tests.{eqb-false}
use lib.Dec.{eqb}
use lib.IntN.{ℤ}
use lib.ListN.{get_or}
use Rattle.standard.specs.Bits.{one, bits, field_at}
use Rattle.standard.specs.Codes.{decode, word_of, taken}
use Rattle.standard.specs.Numbers.{two_of, pair_of, Pair}
use Rattle.standard.specs.declared.Refusal.TheVariants.{PairOverrun}
use Rattle.huffman.specs.Cells.{size, cells}
use Rattle.huffman.specs.Ahead.{Ahead}
use Rattle.huffman.specs.Found.{root_of, has_fifteen, FoundIn, TableAs}
use Rattle.huffman.specs.Owns.{Owns}
use Rattle.huffman.specs.Signed.{held}
use Rattle.huffman.proofs.Cutting.{bits-ahead}
use Rattle.huffman.proofs.Reading.{known_word, word_owns}
use Rattle.huffman.proofs.Owning.{pair-owns}
use Rattle.huffman.proofs.Nodes.{Stands, stands_first, stands_some, stands_narrow, stands_near, stands_room, flag_at}

-- where the cell of a step stands in the table
abbrev pub place : ℕ → ℕ → ℕ → ℕ
place link word gone = link % 4096 + (word * 2 ^ gone) % 2 ^ 64 / 2 ^ (64 - link / 4096)

module _ (table : ℕ) (s : List ℕ) (at word link used : ℕ) (w : Stands table s at link used) (h : Ahead word s at) where
  place_is : place link word used ≡ link % 4096 + field_at s (at + used) (link / 4096)
  place_is = ap (λ (k : ℕ). link % 4096 + k) (h used (link / 4096) (omega (arith, stands_near table s at link used w)))

  pub step_fits : (used < 64) × (0 < link / 4096) × (link / 4096 < 64) × (place link word used < size)
  step_fits = (
    omega (arith, stands_near table s at link used w),
    stands_some table s at link used w,
    omega (arith, stands_narrow table s at link used w),
    omega (arith, place_is, stands_room table s at link used w),
  )

  pub step_is : (e : ℕ) → e ≡ get_or cells (place link word used) 0 → e ≡ get_or cells (link % 4096 + field_at s (at + used) (link / 4096)) 0
  step_is e h = h ∙ ap (λ (i : ℕ). get_or cells i 0) place_is

pub first-at : (table : ℕ) (s : List ℕ) (at link : ℕ) → link ≡ root_of table → Stands table s at link 0
first-at table s at link e = subst (λ (l : ℕ). Stands table s at l 0) (sym e) (stands_first table s at)

pub flagged_at : (e i : ℕ) → e ≡ get_or cells i 0 → 32768 ≤ e → e / 4096 % 2 ≡ one (has_fifteen (e % 256))
flagged_at e i q h = ap (λ (c : ℕ). c / 4096 % 2) q ∙ flag_at i (omega (arith, q)) ∙ ap (λ (c : ℕ). one (has_fifteen (c % 256))) (sym q)

-- ---- what was found in a word, of bytes that it has ahead
module _ {link word leaf used : ℕ} (f : FoundIn link word leaf used) (h : word < 2 ^ 64) (s : List ℕ) (p : ℕ) (a : Ahead word s p) where
  pub found_code : (code : ℕ) → link ≡ root_of code → decode (held code) (bits s p 57) ≡ Ok (taken (leaf % 256) used)
  found_code code is = ap (decode (held code)) (bits-ahead word s p h a) ∙ f.reads code is

  -- a pair, whose numbers stand after its codeword
  pub pair_found : {table width : ℕ} → TableAs table link width → (x y : ℤ) (u : ℕ)
      → Owns (two_of width (leaf / 16 % 16) (leaf % 16)) (Ok (taken (x, y) u)) (Err PairOverrun) s (p + used) u
      → Owns (pair_of word_of table) (Ok (taken (x, y) (used + u))) (Err PairOverrun) s p (used + u)
  pair_found {table} {width} k x y u o =
      let high : leaf / 16 % 16 ≡ leaf % 256 / 16 = omega arith in
      let low : leaf % 16 ≡ leaf % 256 % 16 = omega arith in
      pair-owns table (leaf % 256) used u x y s p
      (word_owns table s p 57 (leaf % 256) used (known_word k.code table k.same (bits s p 57) _ (found_code k.code k.is)))
      (subst (λ (f : List Bool → Pair). Owns f (Ok (taken (x, y) u)) (Err PairOverrun) s (p + used) u) (λ j. two_of (k.escape j) (high j) (low j)) o)

-- no flag: neither value is 15
none-fifteen : (a b : Bool) → 0 ≡ one (a || b) → (a ≡ false) × (b ≡ false)
none-fifteen true b e = absurd (omega arith)
none-fifteen false true e = absurd (omega arith)
none-fifteen false false e = (refl, refl)

pub plain_values : {link word leaf used : ℕ} → FoundIn link word leaf used → (leaf / 4096 % 2 ≡ 1 → ⊥) → (leaf / 16 % 16 < 15) × (leaf % 16 < 15)
plain_values {leaf = leaf} f n =
    let z : 0 ≡ leaf / 4096 % 2 = omega arith in
    let k = none-fifteen (eqb (leaf % 256 / 16) 15) (eqb (leaf % 256 % 16) 15) (z ∙ f.flagged) in
    let x = eqb-false (leaf % 256 / 16) 15 k.0 in
    let y = eqb-false (leaf % 256 % 16) 15 k.1 in
    (below (leaf / 16 % 16) (omega arith) (λ e. x (omega arith)), below (leaf % 16) (omega arith) (λ e. y (omega arith)))
  where
    below : (n : ℕ) → n < 16 → (n ≡ 15 → ⊥) → n < 15
    below n h g = elim (dec_le 15 n) [
      | yes l ↦ absurd (g (omega arith))
      | no l ↦ omega arith
    ]

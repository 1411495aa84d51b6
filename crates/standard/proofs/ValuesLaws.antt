-- Each value of a table stands in its published list exactly once, and nothing else stands in it.
use Rattle.std.specs.Prelude.{◌≡◌, refl, Bool, true, false, ◌&&◌, ◌||◌, List, [], ◌∷◌, ◌++◌, map, ℕ, zero, suc, ◌+◌, ◌<◌, leb, eqb, get_or}
use Rattle.std.proofs.Common.{sym, ap, ◌∙◌, arith, leb-true, eqb-true, ne_eqb}
use Rattle.std.proofs.Math.ListN.{get_or-map}
use Rattle.standard.specs.Bits.{one}
use Rattle.standard.specs.Rows.{member}
use Rattle.standard.specs.RowsLaws.{every, every-at}
use Rattle.standard.specs.ToldLaws.{both_of}
use Rattle.standard.specs.Codes.{Entry, entry, low_bits, pair, quad, silent, table1, table2, table3, table5, table6, table7, table8, table9, table10, table11, table12, table13, table15, table16, table24, table_a, table_b, codes, published}

-- ---- the values of a table
-- how many values x has in tables 0 to 31, and y: Table B.7 prints so many rows and columns
unfoldable pub sides : List ℕ
sides =
    1 ∷ 2 ∷ 3 ∷ 3 ∷ 1 ∷ 4 ∷ 4 ∷ 6 ∷ 6 ∷ 6 ∷ 8 ∷ 8 ∷ 8 ∷ 16 ∷ 1 ∷ 16 ∷
    16 ∷ 16 ∷ 16 ∷ 16 ∷ 16 ∷ 16 ∷ 16 ∷ 16 ∷
    16 ∷ 16 ∷ 16 ∷ 16 ∷ 16 ∷ 16 ∷ 16 ∷ 16 ∷
    []

-- n numbers from a on
unfoldable pub run : ℕ → ℕ → List ℕ
run zero a = []
run (suc n) a = a ∷ run n (suc a)

-- the values of pairs: y below n for each x of m, from a on
unfoldable pub pairs_from : ℕ → ℕ → ℕ → List ℕ
pairs_from zero n a = []
pairs_from (suc m) n a = run n a ++ pairs_from m n (16 + a)

-- by the table's number, the last two being the quads of A and B
unfoldable pub value_rows : List (List ℕ)
value_rows = map (λ (n : ℕ). pairs_from n n 0) sides ++ run 16 0 ∷ run 16 0 ∷ []

unfoldable pub values_of : ℕ → List ℕ
values_of t = get_or value_rows t (0 ∷ [])

-- ---- and those that stand in its list
unfoldable pub value_of : Entry → ℕ
value_of (entry v w) = v

unfoldable pub listed : ℕ → List ℕ
listed t = map value_of (published t)

-- how often a value stands in a list
unfoldable pub times : ℕ → List ℕ → ℕ
times v [] = 0
times v (a ∷ rest) = one (eqb v a) + times v rest

-- ---- all tables: computed
codes-listed : map (map value_of) codes ≡ value_rows
unfolding value_of value_rows sides run pairs_from codes low_bits pair quad silent table1 table2 table3 table5 table6 table7 table8 table9 table10 table11 table12 table13 table15 table16 table24 table_a table_b
codes-listed = refl

pub listed-is : (t : ℕ) → listed t ≡ values_of t
unfolding listed values_of published silent pair value_of
listed-is t = sym (get_or-map (map value_of) codes t silent) ∙ ap (λ (rows : List (List ℕ)). get_or rows t (0 ∷ [])) codes-listed

-- values that rise from b on
rises : ℕ → List ℕ → Bool
rises b [] = true
rises b (c ∷ cs) = leb b c && rises (suc c) cs

rows-rise : every (rises 0) value_rows ≡ true
unfolding every rises value_rows sides run pairs_from
rows-rise = refl

-- ---- what rises has each of its values once
none_below : (v b : ℕ) (l : List ℕ) → rises b l ≡ true → v < b → times v l ≡ 0
unfolding rises times
none_below v b [] e h = refl
none_below v b (c ∷ cs) e h =
    let p = both_of (leb b c) _ e in
    let l = leb-true b c p.0 in
    let z = none_below v (suc c) cs p.1 (omega arith) in
    let w : 0 + times v cs ≡ 0 = omega arith in
    ap (λ (same : Bool). one same + times v cs) (ne_eqb v c (λ q. omega (arith, q))) ∙ w

there : (same : Bool) (m : Bool) (n : ℕ) → (same ≡ true → n ≡ 0) → n ≡ one m → one same + n ≡ one (same || m)
there true m n none rest = omega (arith, none refl)
there false m n none rest = omega arith

each_in : (v b : ℕ) (l : List ℕ) → rises b l ≡ true → times v l ≡ one (member eqb v l)
unfolding rises times member
each_in v b [] e = refl
each_in v b (c ∷ cs) e =
    let p = both_of (leb b c) _ e in
    there (eqb v c) (member eqb v cs) (times v cs) (λ q. let z = eqb-true v c q in none_below v (suc c) cs p.1 (omega arith)) (each_in v (suc c) cs p.1)

-- in the list of table t a number stands once if it is one of the table's values, and otherwise not at all
pub each_once : (t v : ℕ) → times v (listed t) ≡ one (member eqb v (values_of t))
unfolding values_of rises
each_once t v = ap (times v) (listed-is t) ∙ each_in v 0 (values_of t) (every-at (rises 0) (0 ∷ []) value_rows refl rows-rise t)

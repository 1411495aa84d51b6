-- A slot without bits: what is read of it is 0, whatever the reader of codewords, for any other number has a sign bit.
use Rattle.std.specs.Prelude.{◌≡◌, refl, List, [], ◌∷◌, ◌++◌, map, Bool, true, false, ◌&&◌, ◌||◌, ℕ, zero, suc, ◌-◌, ◌*◌, ◌/◌, eqb, ℤ, pos, Some, Ok, Err, length, drop, replicate}
use Rattle.std.proofs.Common.{sym, ap, ◌∙◌, arith, eqb-true, le-ltb, drop_of_length-le}
use Rattle.standard.specs.Sizes.{per_slot}
use Rattle.standard.specs.Told.{pick}
use Rattle.standard.specs.ToldLaws.{never, clash, both_of, passed}
use Rattle.standard.specs.RowsLaws.{every, every-at}
use Rattle.standard.specs.Codes.{taken, Codeword, Entry, any_bits, has_codewords, low_bits, pair, quad, starts, first, begun, decode, silent, table1, table2, table3, table5, table6, table7, table8, table9, table10, table11, table12, table13, table15, table16, table24, table_a, table_b, codes, published, word_of, escape_width}
use Rattle.standard.specs.Numbers.{Pair, Reader, magnitude_of, signed, further, then_sign, number_in, two_last, two_first, two_of, pair_after, pair_word, pair_of}
use Rattle.standard.specs.Numbers.{Numbers, halted, got, prepend, then_pairs, pairs, quads, then_rest, quiet}
use Rattle.standard.specs.Numbers.{quad_table, table_of, any_coded, numbers_by, numbers_of}
use Rattle.standard.specs.Record.{shape_of}
use Rattle.standard.specs.Factors.{sources_of, plan_of, plan_bits, factors_from}
use Rattle.standard.specs.Slots.{Outcome, said_of, stopped, any_of, with_factors, slot_by, slot_of, slot_told}
use Rattle.standard.specs.declared.Setting.{Setting}
use Rattle.standard.specs.declared.Shape.{Shape}
use Rattle.standard.specs.declared.SampleRate.{SampleRate}
use Rattle.standard.specs.declared.SlotRecord.{SlotRecord}
use Rattle.standard.specs.declared.Refusal.TheVariants.{PairOverrun, LostShare}
use Rattle.standard.specs.declared.Unread.TheVariants.{Cut, Alien}

-- after pairs that are read from no bits nothing was coded
quiet-quads : (word : Reader) (t m : ℕ) (vs : List ℤ) → quiet (prepend vs (quads word t m [])) ≡ got [] []
unfolding quiet prepend quads
quiet-quads word t zero vs = refl
quiet-quads word t (suc m) vs = refl

pub quiet-rest : (word : Reader) (t n : ℕ) (vs : List ℤ) (b : List Bool) → b ≡ [] → quiet (then_rest word t n (got vs b)) ≡ got [] []
unfolding then_rest
quiet-rest word t n vs b e =
    let m = (per_slot - 2 * n) / 4 in
    ap (λ (x : List Bool). quiet (prepend vs (quads word t m x))) e ∙ quiet-quads word t m vs

-- ---- exactly when a slot without bits is read, by the published codes
-- the tables without codewords are 0, 4 and 14
pub which_coded : map any_bits codes
    ≡ false ∷ true ∷ true ∷ true ∷ false ∷ replicate 9 true ++ false ∷ replicate 19 true
unfolding any_bits codes pair quad low_bits silent table1 table2 table3 table5 table6 table7 table8 table9 table10 table11 table12 table13 table15 table16 table24 table_a table_b
which_coded = refl

same_word : Codeword → Codeword → Bool
same_word (Err Cut) (Err Cut) = true
same_word (Ok c) (Ok d) = eqb c.value d.value && eqb c.used d.used
same_word (Err Cut) (Ok d) = false
same_word (Err Cut) (Err Alien) = false
same_word (Ok c) (Err d) = false
same_word (Err Alien) d = false

same_word_lem : (c d : Codeword) → same_word c d ≡ true → c ≡ d
unfolding same_word
same_word_lem (Err Cut) (Err Cut) e = refl
same_word_lem (Ok c) (Ok d) e =
    let p = both_of (eqb c.value d.value) (eqb c.used d.used) e in λ j. Ok (taken (eqb-true c.value d.value p.0 j) (eqb-true c.used d.used p.1 j))
same_word_lem (Err Cut) (Ok d) e = never e
same_word_lem (Err Cut) (Err Alien) e = never e
same_word_lem (Ok c) (Err d) e = never e
same_word_lem (Err Alien) d e = never e

-- no bits start a codeword, and end within it, of a table that has any; else they are the one that takes none
starts_none : List Entry → Bool
starts_none es = same_word (decode es []) (pick (any_bits es) (Err Cut) (Ok (taken 0 0)))

all_none : (starts_none silent ≡ true) × (every starts_none codes ≡ true)
unfolding every starts_none any_bits same_word decode first begun starts codes low_bits pair quad silent table1 table2 table3 table5 table6 table7 table8 table9 table10 table11 table12 table13 table15 table16 table24 table_a table_b pick
all_none = (refl, refl)

word_none : (t : ℕ) → word_of t [] ≡ pick (has_codewords t) (Err Cut) (Ok (taken 0 0))
unfolding starts_none word_of has_codewords published
word_none t = same_word_lem (decode (published t) []) (pick (any_bits (published t)) (Err Cut) (Ok (taken 0 0))) (every-at starts_none silent codes all_none.0 all_none.1 t)

pair-none : (t : ℕ) → pair_of word_of t [] ≡ pick (has_codewords t) (Err PairOverrun) (Ok (taken ((pos 0), (pos 0)) 0))
unfolding pair_of pick pair_word pair_after two_of two_first number_in then_sign magnitude_of further signed two_last
pair-none t = ap (pair_word (escape_width t) []) (word_none t) ∙ go (has_codewords t)
  where
    go : (b : Bool) → pair_word (escape_width t) [] (pick b (Err Cut) (Ok (taken 0 0))) ≡ pick b (Err PairOverrun) (Ok (taken ((pos 0), (pos 0)) 0))
    go true = refl
    go false = refl

-- what n pairs come to, some of them in tables with codewords, or none
quietly : Bool → ℕ → Numbers
quietly true n = halted PairOverrun
quietly false n = got (replicate (2 * n) (pos 0)) []

then_none : (a b : Bool) (n : ℕ) (rest : ℕ → Numbers) → rest 0 ≡ quietly b n
    → then_pairs (pick a (Err PairOverrun) (Ok (taken ((pos 0), (pos 0)) 0))) rest ≡ quietly (a || b) (suc n)
unfolding pick then_pairs quietly prepend
then_none true b n rest e = refl
then_none false true n rest e = ap (prepend (pos 0 ∷ pos 0 ∷ [])) e
then_none false false n rest e =
    let p : suc (suc (2 * n)) ≡ 2 * suc n = omega arith in
    ap (prepend (pos 0 ∷ pos 0 ∷ [])) e ∙ ap (λ (k : ℕ). got (replicate k (pos 0)) []) p

pairs-none : (table : ℕ → ℕ) (k n : ℕ) → pairs word_of table k n [] ≡ quietly (any_coded table k n) n
unfolding pairs any_coded quietly
pairs-none table k zero = refl
pairs-none table k (suc n) =
    ap (λ (p : Pair). then_pairs p (λ (u : ℕ). pairs word_of table (suc k) n (drop u []))) (pair-none (table (2 * k)))
    ∙ then_none (has_codewords (table (2 * k))) (any_coded table (suc k) n) n (λ (u : ℕ). pairs word_of table (suc k) n (drop u []))
    (pairs-none table (suc k) n)

-- those that are read are zeros, and no bits are left
values_in : Numbers → List ℤ
values_in (halted r) = []
values_in (got vs b) = vs

bits_in : Numbers → List Bool
bits_in (halted r) = []
bits_in (got vs b) = b

zeros-in : (c : Bool) (n : ℕ) {vs : List ℤ} {b : List Bool} → quietly c n ≡ got vs b → (vs ≡ replicate (2 * n) (pos 0)) × (b ≡ [])
unfolding quietly values_in bits_in
zeros-in true n e = clash cc
zeros-in false n e = (sym (ap values_in e), sym (ap bits_in e))

pub zero_pairs : (table : ℕ → ℕ) (k n : ℕ) {vs : List ℤ} {b : List Bool} → pairs word_of table k n [] ≡ got vs b → (vs ≡ replicate (2 * n) (pos 0)) × (b ≡ [])
zero_pairs table k n e = zeros-in (any_coded table k n) n (sym (pairs-none table k n) ∙ e)

-- a slot without bits is refused where one of its pairs falls in a table with codewords; else it is read, and nothing was coded
pub read-quietly : (rate : SampleRate) (r : SlotRecord)
    → numbers_of word_of rate r [] ≡ pick (any_coded (table_of rate r) 0 r.big_values) (halted PairOverrun) (got [] [])
unfolding numbers_of numbers_by pick quiet then_rest quietly
read-quietly rate r =
    ap (λ (q : Numbers). quiet (then_rest word_of (quad_table r.count1table_select) r.big_values q)) (pairs-none (table_of rate r) 0 r.big_values)
    ∙ go (any_coded (table_of rate r) 0 r.big_values)
  where
    go : (b : Bool) → quiet (then_rest word_of (quad_table r.count1table_select) r.big_values (quietly b r.big_values))
        ≡ pick b (halted PairOverrun) (got [] [])
    go true = refl
    go false = quiet-rest word_of (quad_table r.count1table_select) r.big_values (replicate (2 * r.big_values) (pos 0)) [] refl

-- ---- a slot whose factors take all of its bits: 22 where it is due, then 24 where a pair has a codeword to read, and else a count of 0
told_quietly : (a c mpeg1 : Bool) (k : Shape) (fs : List ℕ)
    → said_of (slot_told (pick a (stopped LostShare) (with_factors mpeg1 k fs (pick c (halted PairOverrun) (got [] [])))))
    ≡ pick a (Some (Err LostShare)) (pick c (Some (Err PairOverrun)) (Some (Ok 0)))
unfolding said_of slot_told with_factors pick
told_quietly true c mpeg1 k fs = refl
told_quietly false true mpeg1 k fs = refl
told_quietly false false mpeg1 k fs = refl

pub quiet_told : (g : Setting) (r : SlotRecord) (lost : Bool) (old : List ℕ) (b : List Bool) → length b ≡ r.part2_3_length
    → plan_bits (sources_of (plan_of g r)) ≡ r.part2_3_length
    → said_of (slot_told (slot_of g r lost old b))
    ≡ pick (any_of g.shares && lost) (Some (Err LostShare)) (pick (any_coded (table_of g.rate r) 0 r.big_values) (Some (Err PairOverrun)) (Some (Ok 0)))
unfolding slot_of slot_by
quiet_told g r lost old b own spent =
    let plan = sources_of (plan_of g r) in
    let fs = factors_from plan old b in
    let share = any_of g.shares && lost in
    ap (λ (o : Outcome). said_of (slot_told o))
    (passed _ (le-ltb r.part2_3_length (plan_bits plan) (omega arith))
    ∙ ap (λ (q : Numbers). pick share (stopped LostShare) (with_factors g.mpeg1 (shape_of r) fs q))
    (ap (numbers_of word_of g.rate r) (drop_of_length-le b {i = plan_bits plan} (omega arith)) ∙ read-quietly g.rate r))
    ∙ told_quietly share (any_coded (table_of g.rate r) 0 r.big_values) g.mpeg1 (shape_of r) fs

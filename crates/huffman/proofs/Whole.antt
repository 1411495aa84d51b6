-- Why a slot's pairs and quads together leave what the definition says: what was read stands first, behind it stand the zeros that stood
-- there before, and that is the padded whole.
use Rattle.std.specs.Prelude.{Result, Ok, Err}
use mathlib.Core.Path.{◌≡◌, refl, sym, ap, ◌∙◌, subst}
use mathlib.Core.Bool.{Bool}
use mathlib.Core.List.{List, [], ◌∷◌, ◌++◌}
use Prim.Native.Nat.{ℕ, zero, suc, ◌+◌, ◌-◌, ◌*◌, ◌/◌, ◌≤◌, ◌<◌, min}
use native.Mathlib.Nat.{sub-zero, zero-sub}
use native.Mathlib.Decide.{dec_le}
use native.Mathlib.Omega.{arith}
use lib.IntN.{ℤ, pos}
use lib.ListN.{length, take, drop, replicate, take-append-drop}
use lib.Seq.{paste, length-take-le}
use Rattle.standard.specs.Bits.{bits, between}
use Rattle.standard.specs.Codes.{word_of}
use Rattle.standard.specs.Numbers.{Numbers, halted, got, prepend, quad_table, regions_of, table_at, pairs, quads, then_rest, numbers_by, quiet, numbers_of, padded}
use Rattle.standard.specs.BitsLaws.{between-nil}
use Rattle.standard.proofs.QuietLaws.{zero_pairs, quiet-rest}
use Rattle.standard.proofs.NumbersLaws.{numbers-none, numbers-some}
use Rattle.standard.specs.declared.SampleRate.{SampleRate}
use Rattle.standard.specs.declared.SlotRecord.{SlotRecord}
use Rattle.standard.specs.declared.Refusal.{Refusal}
use Rattle.standard.specs.declared.Refusal.TheVariants.{PairOverrun}
use Rattle.standard.specs.declared.Regions.{Regions}
use Rattle.huffman.specs.Slot.{count_of, numbers_after}
use Rattle.huffman.specs.Runs.{Filled, Says, NumbersRead}
use Rattle.huffman.specs.Run.{PairsRun}
use Rattle.huffman.proofs.Running.{drop-on, run-whole, run_short}

-- ---- pairs, then quads
says_on : (q q' : Numbers) (from : ℕ) (out₀ out₁ out : List ℤ) → q ≡ q' → drop from out₁ ≡ drop from out₀
    → (a : Result ℕ Refusal) → Says q' from out₁ out a → Says q 0 out₀ out a
unfolding Says
says_on q q' from out₀ out₁ out e k (Err why) f = e ∙ f
says_on q q' from out₀ out₁ out e k (Ok n) f = record {
  low = omega arith;
  high = f.high;
  gave = record { rest = f.gave.rest; same = e ∙ f.gave.same };
  kept = f.kept ∙ drop-on from n out₁ out₀ f.low k;
}

take-replicate : (k n : ℕ) (z : ℤ) → k ≤ n → take k (replicate n z) ≡ replicate k z
take-replicate zero n z h = refl
take-replicate (suc k) zero z h = absurd (omega arith)
take-replicate (suc k) (suc n) z h = ap (λ (l : List ℤ). z ∷ l) (take-replicate k n z (omega arith))

-- n pairs of a slot were read, up to a place, with no look at where the bits end
module _ (rate : SampleRate) (r : SlotRecord) (s : List ℕ) (at e : ℕ) (within : at ≤ e) (out₀ : List ℤ) (g : Regions) (n : ℕ) (out₁ : List ℤ) (place : ℕ)
    (own : g ≡ regions_of rate r) (hn : n ≡ r.big_values) (p : PairsRun (table_at g.first g.second r.table_select) s at n out₀ out₁ place) where
  abbrev tables : ℕ → ℕ
  tables = table_at g.first g.second r.table_select

  abbrev quads_by : Numbers → Numbers
  quads_by q = then_rest word_of (quad_table r.count1table_select) n q

  -- what the whole is after its pairs
  after-pairs : numbers_by word_of r (regions_of rate r) (between s at e) ≡ quads_by (pairs word_of tables 0 n (between s at e))
  unfolding numbers_by
  after-pairs =
      ap (λ (y : Regions). numbers_by word_of r y (between s at e)) (sym own)
      ∙ ap (λ (m : ℕ). then_rest word_of (quad_table r.count1table_select) m (pairs word_of tables 0 m (between s at e))) (sym hn)

  -- one of them does not end within the bits, and with it the slot is refused, with bits and without
  pub pairs-over : e < place → NumbersRead (numbers_of word_of rate r (between s at e)) 0 out₀ out₁ (Err PairOverrun)
  unfolding Says then_rest quiet between
  pairs-over h =
      let same = after-pairs ∙ ap quads_by (run_short tables s p.run (e - at) (omega arith)) in
      record {
        long = p.long;
        says = elim (dec_le e at) [
          | yes l ↦ numbers-none word_of rate r s at e l ∙ ap quiet same
          | no l ↦ numbers-some word_of rate r s at e (omega arith) ∙ same
        ];
      }

  module _ (fit : place ≤ e) where
    read_whole : pairs word_of tables 0 n (between s at e) ≡ got (take (2 * n) out₁) (between s place e)
    unfolding between
    read_whole =
        let k : at + (e - at) - place ≡ e - place = omega arith in
        run-whole tables s p.run (e - at) (omega arith) ∙ ap (λ (m : ℕ). got (take (2 * n) out₁) (bits s place m)) k

    -- all are read of no bits: they are zeros, and nothing was coded
    module _ (none : e ≤ at) (few : n ≤ 288) (zeros : out₀ ≡ replicate 576 (pos 0)) where
      read_none : (take (2 * n) out₁ ≡ replicate (2 * n) (pos 0)) × (between s place e ≡ [])
      read_none = zero_pairs tables 0 n (ap (pairs word_of tables 0 n) (sym (between-nil s at e none)) ∙ read_whole)

      same_zeros : out₁ ≡ out₀
      same_zeros =
          sym (take-append-drop (2 * n) out₁)
          ∙ (λ j. (read_none.0 ∙ sym (take-replicate (2 * n) 576 (pos 0) (omega arith)) ∙ ap (take (2 * n)) (sym zeros)) j ++ p.kept j)
          ∙ take-append-drop (2 * n) out₀

      pub none_read : NumbersRead (numbers_of word_of rate r (between s at e)) 0 out₀ out₁ (Ok 0)
      unfolding Says
      none_read = record {
        long = p.long;
        says = record {
          low = omega arith;
          high = omega arith;
          gave = record {
            rest = [];
            same =
                numbers-none word_of rate r s at e none ∙ ap quiet (after-pairs ∙ ap quads_by read_whole)
                ∙ quiet-rest word_of (quad_table r.count1table_select) n (take (2 * n) out₁) (between s place e) read_none.1;
          };
          kept = same_zeros;
        };
      }

    -- then the quads
    pub quads-read : at < e → (c : Bool) (out : List ℤ) (a : Result ℕ Refusal) → c ≡ r.count1table_select
        → NumbersRead (prepend (take (2 * n) out₁) (quads word_of (quad_table c) ((576 - 2 * n) / 4) (between s place e))) (2 * n) out₁ out a
        → NumbersRead (numbers_of word_of rate r (between s at e)) 0 out₀ out a
    unfolding then_rest
    quads-read h c out a ec f = record {
      long = f.long;
      says =
          says_on (numbers_of word_of rate r (between s at e))
          (prepend (take (2 * n) out₁) (quads word_of (quad_table c) ((576 - 2 * n) / 4) (between s place e))) (2 * n) out₀ out₁ out
          (numbers-some word_of rate r s at e h ∙ after-pairs
          ∙ (λ j. then_rest word_of (quad_table (sym ec j)) n (read_whole j)))
          p.kept a f.says;
    }

-- ---- the whole, over zeros
drop-replicate : (k n : ℕ) (z : ℤ) → drop k (replicate n z) ≡ replicate (n - k) z
drop-replicate zero n z = rw sub-zero
drop-replicate (suc k) zero z = rw zero-sub
drop-replicate (suc k) (suc n) z = let p : n - k ≡ suc n - suc k = omega arith in drop-replicate k n z ∙ ap (λ (m : ℕ). replicate m z) p

pub whole-halted : (q : Numbers) (out₀ out : List ℤ) (a : Result ℕ Refusal) (why : Refusal) → NumbersRead q 0 out₀ out a → a ≡ Err why → q ≡ halted why
unfolding Says
whole-halted q out₀ out a why f e = subst (Says q 0 out₀ out) e f.says

module _ (q : Numbers) (out : List ℤ) (a : Result ℕ Refusal) (n : ℕ) (f : NumbersRead q 0 (replicate 576 (pos 0)) out a) (e : a ≡ Ok n) where
  filled : Filled q 0 (replicate 576 (pos 0)) out n
  unfolding Says
  filled = subst (Says q 0 (replicate 576 (pos 0)) out) e f.says

  count_is : length (take n out) ≡ n
  count_is = length-take-le n out (omega (arith, f.long, filled.high))

  padded-is : padded (take n out) ≡ out
  unfolding padded
  padded-is =
      ap (λ (m : ℕ). take n out ++ replicate (576 - m) (pos 0)) count_is
      ∙ ap (λ (l : List ℤ). take n out ++ l) (sym (filled.kept ∙ drop-replicate n 576 (pos 0)))
      ∙ take-append-drop n out

  -- so what is told of q, and of the lent numbers d that became d', is what was read and copied
  pub whole-read : (d d' : List ℤ) → d' ≡ paste d 0 out 576 → (Ok n ≡ count_of q) × (d' ≡ numbers_after q d)
  unfolding count_of numbers_after
  whole-read d d' g = (
    sym (ap count_of filled.gave.same ∙ ap Ok count_is),
    g ∙ sym (ap (λ (x : Numbers). numbers_after x d) filled.gave.same ∙ ap (λ (l : List ℤ). paste d 0 l 576) padded-is),
  )

-- ---- bits from one place up to another that stands before it are none
from_least : (s : List ℕ) (at e : ℕ) → between s (min at e) e ≡ between s at e
from_least s at e =
    elim (dec_le e at) [
      | yes h ↦ between-nil s (min at e) e (omega arith) ∙ sym (between-nil s at e h)
      | no h ↦ let p : min at e ≡ at = omega arith in ap (λ (k : ℕ). between s k e) p
    ]

pub least-read : (rate : SampleRate) (r : SlotRecord) (s : List ℕ) (at e k : ℕ) (out₀ out : List ℤ) (a : Result ℕ Refusal) → k ≡ min at e
    → NumbersRead (numbers_of word_of rate r (between s k e)) 0 out₀ out a → NumbersRead (numbers_of word_of rate r (between s at e)) 0 out₀ out a
least-read rate r s at e k out₀ out a h f =
    subst (λ (b : List Bool). NumbersRead (numbers_of word_of rate r b) 0 out₀ out a) (ap (λ (n : ℕ). between s n e) h ∙ from_least s at e) f

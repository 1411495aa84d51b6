-- One slot by its parts: the factors, and the numbers from the bits after them.
use Rattle.std.specs.Prelude.{Ok, Err}
use mathlib.Core.Path.{◌≡◌, sym, ap, ◌∙◌}
use mathlib.Core.Bool.{Bool, true, false, ◌&&◌}
use mathlib.Core.List.{List}
use Prim.Native.Nat.{ℕ, ◌+◌, ◌-◌, ◌≤◌, ◌<◌}
use native.Mathlib.Omega.{arith}
use lib.IntN.{ℤ}
use lib.ListN.{length}
use borrow.Author.Tests.{lt-ltb, le-ltb}
use Rattle.standard.specs.ToldLaws.{picked, passed}
use Rattle.standard.specs.Bits.{bits, between}
use Rattle.standard.specs.BitsLaws.{drop_bits}
use Rattle.standard.specs.Codes.{word_of}
use Rattle.standard.specs.Record.{shape_of}
use Rattle.standard.specs.Factors.{Source, plan_of, sources_of, plan_bits, long_factors, short_factors}
use Rattle.standard.proofs.FactorsLaws.{factors_bits}
use Rattle.standard.specs.Numbers.{Numbers, halted, got, numbers_of}
use Rattle.standard.proofs.RefusalsLaws.{apart, one-reason}
use Rattle.standard.specs.Slots.{Outcome, stopped, any_of, with_factors, slot_by, slot_of, slot_told, numbers_after}
use Rattle.huffman.specs.Slot.{slot_numbers, count_of, numbers_after as slotLeft}
use Rattle.huffman.specs.SlotLaws.{slot_fits}
use Rattle.standard.specs.declared.Setting.{Setting}
use Rattle.standard.specs.declared.SlotRecord.{SlotRecord}
use Rattle.standard.specs.declared.Shape.{Shape}
use Rattle.standard.specs.declared.SlotAnswer.{SlotAnswer}
use Rattle.standard.specs.declared.SampleRate.{SampleRate}
use Rattle.standard.specs.declared.Refusal.{Refusal}
use Rattle.standard.specs.declared.Refusal.TheVariants.{FactorOverrun, LostShare}
use Rattle.frame.specs.Slot.{SlotRead}
use Rattle.scale_factors.specs.Groups.{factors_at}
use Rattle.standard.specs.declared.SlotAnswer.TheVariants.{Read, NotRead}

module _ (g : Setting) (r : SlotRecord) where
  abbrev plan : List Source
  plan = sources_of (plan_of g r)

  -- ---- the slot
  module _ (lost : Bool) (old s : List ℕ) (at : ℕ) where
    pub slot_factors : r.part2_3_length < plan_bits plan → slot_of g r lost old (bits s at r.part2_3_length) ≡ stopped FactorOverrun
    unfolding slot_of slot_by
    slot_factors h = picked _ (lt-ltb _ _ h)

    module _ (h : plan_bits plan ≤ r.part2_3_length) where
      pub slot_lost : any_of g.shares && lost ≡ true → slot_of g r lost old (bits s at r.part2_3_length) ≡ stopped LostShare
      unfolding slot_of slot_by
      slot_lost e = passed _ (le-ltb _ _ h) ∙ picked _ e

      pub slot_numbers_lem : any_of g.shares && lost ≡ false
          → slot_of g r lost old (bits s at r.part2_3_length)
          ≡ with_factors g.mpeg1 (shape_of r) (factors_at g r old s at)
          (numbers_of word_of g.rate r (between s (at + plan_bits plan) (at + r.part2_3_length)))
      unfolding slot_of slot_by between
      slot_numbers_lem e =
          let k : r.part2_3_length - plan_bits plan ≡ at + r.part2_3_length - (at + plan_bits plan) = omega arith in
          passed _ (le-ltb _ _ h)
          ∙ passed _ e
          ∙ (λ j. with_factors g.mpeg1 (shape_of r) (factors_bits plan old s at r.part2_3_length h j)
          (numbers_of word_of g.rate r ((drop_bits (plan_bits plan) s at r.part2_3_length ∙ ap (bits s (at + plan_bits plan)) k) j)))

-- ---- the answers
pub stopped_read : {o : Outcome} {d left : List ℤ} {a : SlotAnswer} {why : Refusal} → o ≡ stopped why → a ≡ NotRead why → left ≡ d
    → SlotRead o d a left
unfolding slot_told numbers_after
stopped_read {d = d} e t l = record { answer = t ∙ sym (ap slot_told e); numbers = l ∙ sym (ap (λ (o : Outcome). numbers_after o 0 d) e) }

-- what the numbers came to is what their reader answered
module _ (mpeg1 : Bool) (k : Shape) (fs : List ℕ) (d left : List ℤ) (a : SlotAnswer) where
  pub numbers-refused : (q : Numbers) (why : Refusal) → Err why ≡ count_of q → left ≡ slotLeft q d → a ≡ NotRead why
      → SlotRead (with_factors mpeg1 k fs q) d a left
  unfolding count_of slotLeft with_factors
  numbers-refused (halted r) why e l t = stopped_read (ap stopped (sym (one-reason e))) t l
  numbers-refused (got vs b) why e l t = apart e

  pub numbers-counted : (q : Numbers) (n : ℕ) → Ok n ≡ count_of q → left ≡ slotLeft q d
      → a ≡ Read n (long_factors mpeg1 k fs) (short_factors mpeg1 k fs) → SlotRead (with_factors mpeg1 k fs q) d a left
  unfolding count_of slotLeft with_factors slot_told numbers_after
  numbers-counted (halted r) n e l t = apart (sym e)
  numbers-counted (got vs b) n e l t =
      let m : n ≡ length vs = cc in
      record {
        answer = t ∙ (λ j. Read (m j) (long_factors mpeg1 k fs) (short_factors mpeg1 k fs));
        numbers = l;
      }

-- the reader's outcome, where the slot fits
pub huffman_numbers_lem : (rate : SampleRate) (r : SlotRecord) (b : List Bool) (d : List ℤ) → length d ≡ 576 → r.big_values ≤ 288
    → slot_numbers word_of rate r b d ≡ numbers_of word_of rate r b
huffman_numbers_lem rate r b d l p = slot_fits word_of rate r b d (omega arith) p

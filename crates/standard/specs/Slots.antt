-- The slots of a frame, cut from its main data one after the other (11172-3, 2.4.1.7 and 2.4.2.7, main_data, part2_3_length). A slot's
-- outcome is told from exactly its own bits, its record, the header, and, where it shares, the outcome of its channel's granule 0 slot.
use Rattle.std.specs.Prelude.{◌≡◌, Bool, true, false, not, ◌&&◌, ◌||◌, List, [], ◌∷◌, ◌++◌, map, ℕ, zero, suc, ◌+◌, ◌-◌, ◌*◌, ltb, leb, eqb, ℤ, length, get_or, take, drop, replicate, Option, Some, None, Result, Ok, Err}
use Rattle.std.proofs.Math.Seq.{paste}
use Rattle.standard.specs.Sizes.{per_slot, per_frame}
use Rattle.standard.specs.Told.{pick, told_or, verdict_of}
use Rattle.standard.specs.Bits.{bits}
use Rattle.standard.specs.Codes.{word_of}
use Rattle.standard.specs.Header.{is_mpeg1, is_intensity, is_header, granules, channel_count}
use Rattle.standard.specs.Record.{shape_of}
use Rattle.standard.specs.SideInfo.{is_side}
use Rattle.standard.specs.Factors.{Source, may_share, sources_of, plan_of, plan_bits, factors_from, long_factors, short_factors}
use Rattle.standard.specs.Numbers.{Numbers, halted, got, numbers_of, padded}
use Rattle.standard.specs.declared.Setting.{Setting}
use Rattle.standard.specs.declared.Shape.{Shape}
use Rattle.standard.specs.declared.FrameHeader.{FrameHeader}
use Rattle.standard.specs.declared.SlotRecord.{SlotRecord}
use Rattle.standard.specs.declared.SideInfo.{SideInfo}
use Rattle.standard.specs.declared.Refusal.{Refusal}
use Rattle.standard.specs.declared.Refusal.TheVariants.{UnfitMemory, MadeUpRecord, MissingBits, FactorOverrun, LostShare}
use Rattle.standard.specs.declared.SlotAnswer.{SlotAnswer}
use Rattle.standard.specs.declared.SlotAnswer.TheVariants.{Read, NotRead, Lacking}

-- a slot's outcome: refused for a reason; or its long and short factors, and its numbers up to the count
pub data Outcome : Type 0 where
  stopped : Refusal → Outcome
  holds : List ℕ → List ℕ → List ℤ → Outcome

unfoldable pub is_stopped : Outcome → Bool
is_stopped (stopped r) = true
is_stopped (holds long short vs) = false

-- the long factors that granule 1 may share; those of a short block are 0
unfoldable pub long_of : Outcome → List ℕ
long_of (stopped r) = replicate 22 0
long_of (holds long short vs) = long

unfoldable pub any_of : List Bool → Bool
any_of [] = false
any_of (x ∷ xs) = x || any_of xs

unfoldable pub with_factors : Bool → Shape → List ℕ → Numbers → Outcome
with_factors mpeg1 k fs (halted r) = stopped r
with_factors mpeg1 k fs (got vs b) = holds (long_factors mpeg1 k fs) (short_factors mpeg1 k fs) vs

-- by a plan of factors. `lost` says whether the channel's granule 0 slot was refused, and `old` has its long factors
unfoldable pub slot_by : List Source → Setting → SlotRecord → Bool → List ℕ → List Bool → Outcome
slot_by plan g r lost old b =
    pick (ltb r.part2_3_length (plan_bits plan)) (stopped FactorOverrun)
    (pick (any_of g.shares && lost) (stopped LostShare)
    (with_factors g.mpeg1 (shape_of r) (factors_from plan old b) (numbers_of word_of g.rate r (drop (plan_bits plan) b))))

-- from exactly its own bits
unfoldable pub slot_of : Setting → SlotRecord → Bool → List ℕ → List Bool → Outcome
slot_of g r lost old b = slot_by (sources_of (plan_of g r)) g r lost old b

-- ---- the slots one after the other
-- the sharing bits in force for the n-th slot: its channel's in granule 1, and none in granule 0 or of short bands
unfoldable pub shares_of : FrameHeader → SideInfo → ℕ → SlotRecord → List Bool
shares_of h i n r =
    pick (ltb n (channel_count h) || not (may_share (shape_of r))) (replicate 4 false)
    (take 4 (drop (4 * (n - channel_count h)) i.scfsi))

unfoldable pub setting_of : FrameHeader → SideInfo → ℕ → SlotRecord → Setting
setting_of h i n r =
    record {
      mpeg1 = is_mpeg1 h.version;
      intensity = eqb n 1 && is_intensity h.channels;
      rate = h.rate;
      shares = shares_of h i n r;
    }

-- in granule 0: no slot before it that could be lost, and nothing to share
unfoldable pub alone : Outcome
alone = holds (replicate 22 0) (replicate 39 0) []

-- the slot of the same channel in the granule before
unfoldable pub mate_of : FrameHeader → List Outcome → Outcome
mate_of h done = pick (ltb (length done) (channel_count h)) alone (get_or done (length done - channel_count h) alone)

-- a slot that starts at a bit place of the main data s
unfoldable pub slot_in : List ℕ → ℕ → Setting → SlotRecord → Bool → List ℕ → Outcome
slot_in s at g r lost old =
    pick (leb (at + r.part2_3_length) (8 * length s)) (slot_of g r lost old (bits s at r.part2_3_length)) (stopped MissingBits)

unfoldable pub then_slots : Outcome → (Outcome → List Outcome) → List Outcome
then_slots o rest = o ∷ rest o

-- each slot starts where the one before it ends; `done` has the outcomes before, first to last
unfoldable pub slots_from : FrameHeader → SideInfo → List ℕ → ℕ → List Outcome → List SlotRecord → List Outcome
slots_from h i s at done [] = []
slots_from h i s at done (r ∷ rs) =
    then_slots (slot_in s at (setting_of h i (length done) r) r (is_stopped (mate_of h done)) (long_of (mate_of h done)))
    (λ (o : Outcome). slots_from h i s (at + r.part2_3_length) (done ++ (o ∷ [])) rs)

-- the records of the frame's slots
abbrev pub records : FrameHeader → SideInfo → List SlotRecord
records h i = take (granules h * channel_count h) i.slots

unfoldable pub slots_of : FrameHeader → SideInfo → List ℕ → List Outcome
slots_of h i s = slots_from h i s 0 [] (records h i)

-- the outcome of the n-th slot
unfoldable pub outcome_of : FrameHeader → SideInfo → List ℕ → ℕ → Outcome
outcome_of h i s n = get_or (slots_of h i s) n (stopped MissingBits)

-- where the n-th slot starts: the lengths before it
unfoldable pub start_of : ℕ → List SlotRecord → ℕ
start_of zero rs = 0
start_of (suc n) [] = 0
start_of (suc n) (r ∷ rs) = r.part2_3_length + start_of n rs

-- ---- what is answered
unfoldable pub slot_told : Outcome → SlotAnswer
slot_told (stopped r) = NotRead r
slot_told (holds long short vs) = Read (length vs) long short

-- what an answer says of a slot besides its factors: its count, or the reason; nothing of one that the frame lacks
unfoldable pub said_of : SlotAnswer → Option (Result ℕ Refusal)
said_of (Read n long short) = Some (Ok n)
said_of (NotRead r) = Some (Err r)
said_of Lacking = None

-- four answers: the slots', and then lacking ones
unfoldable pub slots_told : List Outcome → List SlotAnswer
slots_told os = map slot_told os ++ replicate (4 - length os) Lacking

-- the lent numbers: the n-th slot's are the 576 from 576 n on
unfoldable pub part_of : ℕ → List ℤ → List ℤ
part_of at d = take per_slot (drop at d)

-- a slot's own 576 numbers after it
unfoldable pub own_of : Outcome → List ℤ → List ℤ
own_of (stopped r) d = d
own_of (holds long short vs) d = take per_slot (padded vs)

-- the lent numbers after a slot, its own being the 576 from a place on: a refused slot changes none
unfoldable pub numbers_after : Outcome → ℕ → List ℤ → List ℤ
numbers_after (stopped r) at d = d
numbers_after (holds long short vs) at d = paste d at (padded vs) per_slot

-- and after slots in turn
unfoldable pub numbers_from : ℕ → List Outcome → List ℤ → List ℤ
numbers_from at [] d = d
numbers_from at (o ∷ os) d = numbers_from (at + per_slot) os (numbers_after o at d)

unfoldable pub slots_answer : Result (List Outcome) Refusal → Result (List SlotAnswer) Refusal
slots_answer (Err r) = Err r
slots_answer (Ok os) = Ok (slots_told os)

-- what is answered of the slots, and the lent numbers after them
pub record SlotsRead (d : List ℤ) (t : Result (List Outcome) Refusal) (r : Result (List SlotAnswer) Refusal) (left : List ℤ) : Type 0 where
  pub answer : r ≡ slots_answer t
  pub numbers : left ≡ numbers_from 0 (told_or [] t) d

-- ---- the call on main data of any length, with d numbers lent
unfoldable pub read_slots : FrameHeader → SideInfo → List ℕ → ℕ → Result (List Outcome) Refusal
read_slots h i s d =
    pick (ltb d per_frame) (Err UnfitMemory)
    (pick (is_header h && is_side h i) (Ok (slots_of h i s)) (Err MadeUpRecord))

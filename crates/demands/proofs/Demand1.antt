-- Demand 1: what is refused leaves what it must. A refused call leaves all that was lent. A refused frame leaves the numbers and the reservoir,
-- except that after 13 the reservoir holds its old bytes and then the frame's main data. A refused slot leaves its 576 numbers, and so does
-- one that the frame lacks, of any number: numbers past the frame's last slot stay. That every call ends,
-- with an answer, is the checker's own verdict on every function.
-- Proved over the promises of process_frame, read_slots, reorder, read_huffman and turn, from StepLaws and SlotsLaws of `standard`.
-- read_frame_header, read_side_info and the functions below them are lent nothing that they could change: no `&mut` stands in their
-- signatures. Those of `lent_bytes`, `lines` and `input`, which put and move bytes, refuse nothing.
use Rattle.std.specs.Prelude.{Result, Ok, Err}
use mathlib.Core.Path.{◌≡◌, sym, ap, ◌∙◌}
use mathlib.Core.List.{List, [], ◌++◌}
use Prim.Native.Nat.{ℕ, ◌*◌}
use lib.IntN.{ℤ}
use lib.ListN.{length, take, drop}
use Rattle.standard.specs.Sizes.{per_slot}
use Rattle.standard.specs.Told.{told_or, verdict_of, Verdict}
use Rattle.standard.specs.Refusals.{Answers}
use Rattle.standard.specs.ToldLaws.{clash}
use Rattle.standard.proofs.RefusalsLaws.{unlike, why_is}
use Rattle.standard.specs.Numbers.{Numbers, halted, got}
use Rattle.standard.specs.Slots.{Outcome, numbers_from, slots_answer, SlotsRead, part_of}
use Rattle.standard.specs.Reservoir.{bytes_after as bytesKept, reservoir_after, Turn, short, reached, turn_verdict, turn_kept, Turned}
use Rattle.standard.specs.Frame.{Step, step_verdict, step_header, step_slots, step_kept, FrameRead, main_of}
use Rattle.standard.proofs.StepLaws.{Way, refused_way, short_way, full_way}
use Rattle.standard.specs.declared.Reservoir.{Reservoir}
use Rattle.standard.specs.declared.Frame.{Frame}
use Rattle.standard.specs.declared.FrameRefusal.{FrameRefusal}
use Rattle.standard.specs.declared.SlotAnswer.{SlotAnswer}
use Rattle.standard.specs.declared.SlotAnswer.TheVariants.{NotRead, Lacking}
use Rattle.huffman.specs.Slot.{count_of, numbers_after as numbersLeft}
use Rattle.demands.proofs.Calls.{HuffmanCall, huffman_numbers, huffman_numbers_after, slot_said, verdict_in, header_in, slots_in, slots_of_call, FrameStep, frame, bytes, reservoir, reservoir_left, numbers, bytes_after, numbers_after, SlotsCall, slots_numbers, slots_numbers_after, ReorderCall, reorder_numbers, reorder_numbers_after, TurnCall, turn_bytes, turn_reservoir, turn_reservoir_left, turn_bytes_after}
use Rattle.demands.proofs.Stored.{refused_stays, said_lacking, outcomes_of, slots-answered, step_of, way_of, verdict_by, header_by, frame-answered}
use Rattle.standard.specs.declared.Refusal.TheVariants.{ShortReservoir}
use Rattle.standard.specs.declared.Refusal.{Refusal}

-- ---- a frame
module _ {s old lent left : List ℕ} {before new : Reservoir} {d nums : List ℤ} {p : Step} {r : Result Frame FrameRefusal}
    (f : FrameRead lent before d p r new left nums) where
  way_refused : Way s old p → (k : Refusal) → verdict_in r ≡ Err k → (k ≡ ShortReservoir → ⊥) → (left ≡ lent) × (new ≡ before) × (nums ≡ d)
  unfolding bytesKept reservoir_after numbers_from
  way_refused (refused_way j n e) k v m = (
    f.bytes ∙ ap (λ (x : Step). bytesKept lent (step_kept x)) e,
    f.reservoir ∙ ap (λ (x : Step). reservoir_after before (step_kept x)) e,
    f.numbers-are
        ∙ ap (λ (x : Step). numbers_from 0 (step_slots x) d) e,
  )
  way_refused (short_way h i w l e) k v m = absurd (m (why_is (sym v ∙ verdict_by f ∙ ap step_verdict e)))
  way_refused (full_way h i w l e) k v m = unlike (sym v ∙ verdict_by f ∙ ap step_verdict e)

  way_short : Way s old p → verdict_in r ≡ Err ShortReservoir
      → (left ≡ (old ++ main_of (header_in r) s) ++ drop (length (old ++ main_of (header_in r) s)) lent)
      × (new.length ≡ length (old ++ main_of (header_in r) s)) × (nums ≡ d)
  unfolding bytesKept reservoir_after numbers_from
  way_short (refused_way j n e) v = absurd (n (why_is (sym (verdict_by f ∙ ap step_verdict e) ∙ v)))
  way_short (short_way h i w l e) v =
      let g = header_by f ∙ ap step_header e in
      let b = ap (λ (y : _). old ++ main_of y s) (sym g) in (
        f.bytes ∙ ap (λ (x : Step). bytesKept lent (step_kept x)) e ∙ ap (λ (y : List ℕ). y ++ drop (length y) lent) b,
        ap (λ (y : Reservoir). y.length) (f.reservoir ∙ ap (λ (x : Step). reservoir_after before (step_kept x)) e) ∙ ap length b,
        f.numbers-are ∙ ap (λ (x : Step). numbers_from 0 (step_slots x) d) e,
      )
  way_short (full_way h i w l e) v = unlike (sym v ∙ verdict_by f ∙ ap step_verdict e)

module _ (c : FrameStep) where
  -- a refused frame, of whatever number but 13, changes nothing
  pub refused_frame : (k : Refusal) → verdict_in c.answer ≡ Err k → (k ≡ ShortReservoir → ⊥)
      → (bytes_after c ≡ bytes c) × (reservoir_left c ≡ reservoir c) × (numbers_after c ≡ numbers c)
  refused_frame k v n = way_refused c.promised (way_of c) k v n

  -- after 13: the old bytes, then the frame's main data, then the lent bytes as they were; no number changes
  pub short_frame : verdict_in c.answer ≡ Err ShortReservoir
      → let kept = take (reservoir c).length (bytes c) ++ main_of (header_in c.answer) (frame c) in
      (bytes_after c ≡ kept ++ drop (length kept) (bytes c)) × ((reservoir_left c).length ≡ length kept) × (numbers_after c ≡ numbers c)
  short_frame v = way_short c.promised (way_of c) v

  -- a refused slot of a frame leaves its 576 numbers, and so does one that the frame lacks
  pub refused_slot : (n : ℕ) (k : Refusal) → slot_said (slots_in c.answer) n ≡ NotRead k
      → part_of (per_slot * n) (numbers_after c) ≡ part_of (per_slot * n) (numbers c)
  refused_slot = refused_stays (step_slots (step_of c)) (frame-answered c)

  pub lacking_slot_lem : (n : ℕ) → slot_said (slots_in c.answer) n ≡ Lacking → part_of (per_slot * n) (numbers_after c) ≡ part_of (per_slot * n) (numbers c)
  lacking_slot_lem = said_lacking (step_slots (step_of c)) (frame-answered c)

-- ---- slots from given main data
slots-unread : {d left : List ℤ} {t : Result (List Outcome) Refusal} {r : Result (List SlotAnswer) Refusal} → SlotsRead d t r left → (k : Refusal) → r ≡ Err k
    → left ≡ d
unfolding slots_answer told_or numbers_from
slots-unread {d} {left} {t} f k v = go t (sym v ∙ f.answer) f.numbers
  where
    go : (t : Result (List Outcome) Refusal) → Err k ≡ slots_answer t → left ≡ numbers_from 0 (told_or [] t) d → left ≡ d
    go (Err j) e n = n
    go (Ok os) e n = clash cc

module _ (c : SlotsCall) where
  pub refused_slots : (k : Refusal) → c.answer ≡ Err k → slots_numbers_after c ≡ slots_numbers c
  refused_slots k v = slots-unread c.promised k v

  pub refused_one : (n : ℕ) (k : Refusal) → slot_said (slots_of_call c.answer) n ≡ NotRead k
      → part_of (per_slot * n) (slots_numbers_after c) ≡ part_of (per_slot * n) (slots_numbers c)
  refused_one = refused_stays (outcomes_of c) (slots-answered c)

  pub lacking_one : (n : ℕ) → slot_said (slots_of_call c.answer) n ≡ Lacking
      → part_of (per_slot * n) (slots_numbers_after c) ≡ part_of (per_slot * n) (slots_numbers c)
  lacking_one = said_lacking (outcomes_of c) (slots-answered c)

-- ---- the reorder, a slot's numbers, and the reservoir's own call
answers_stay : {A : Type 0} {blank a : A} {v : Verdict} {t : Result A Refusal} → Answers blank v a t → (k : Refusal) → v ≡ Err k → a ≡ blank
unfolding verdict_of told_or
answers_stay {A} {blank} {a} {v} {t} f k e = go t (sym e ∙ f.verdict) f.value
  where
    go : (t : Result A Refusal) → Err k ≡ verdict_of t → a ≡ told_or blank t → a ≡ blank
    go (Err j) e n = n
    go (Ok x) e n = unlike e

-- one slot's numbers
unread : (q : Numbers) (k : Refusal) (d left : List ℤ) → count_of q ≡ Err k → left ≡ numbersLeft q d → left ≡ d
unfolding count_of numbersLeft
unread (halted r) k d left e n = n
unread (got vs b) k d left e n = clash cc

pub refused_huffman : (c : HuffmanCall) (k : Refusal) → c.answer ≡ Err k → huffman_numbers_after c ≡ huffman_numbers c
refused_huffman c k v = unread _ k (huffman_numbers c) (huffman_numbers_after c) (sym c.promised.0 ∙ v) c.promised.1

pub refused_reorder : (c : ReorderCall) (k : Refusal) → c.answer ≡ Err k → reorder_numbers_after c ≡ reorder_numbers c
refused_reorder c k v = answers_stay c.promised k v

turned_stays : {lent left : List ℕ} {old new : Reservoir} {t : Result Turn Refusal} {r : Verdict} → Turned lent old t r new left → (k : Refusal)
    → r ≡ Err k → (k ≡ ShortReservoir → ⊥) → (left ≡ lent) × (new ≡ old)
unfolding turn_verdict turn_kept bytesKept reservoir_after
turned_stays {lent} {left} {old} {new} {t} f k v n = go t (sym v ∙ f.verdict) f.bytes f.reservoir
  where
    go : (t : Result Turn Refusal) → Err k ≡ turn_verdict t → left ≡ bytesKept lent (turn_kept t) → new ≡ reservoir_after old (turn_kept t)
        → (left ≡ lent) × (new ≡ old)
    go (Err j) e b a = (b, a)
    go (Ok (short bs)) e b a = absurd (n (why_is e))
    go (Ok (reached bs)) e b a = unlike e

pub refused_turn : (c : TurnCall) (k : Refusal) → c.answer ≡ Err k → (k ≡ ShortReservoir → ⊥)
    → (turn_bytes_after c ≡ turn_bytes c) × (turn_reservoir_left c ≡ turn_reservoir c)
refused_turn c k v n = turned_stays c.promised k v n

-- What the exported calls answer, in numbers: 0 where a call is accepted, else the number of the refusal (docs/REFUSALS.md); and what they leave in
-- lent memory. What is right is `standard`'s: here it is only laid out.
use Rattle.std.specs.Prelude.{◌≡◌, ◌||◌, List, [], ◌∷◌, ◌++◌, ℕ, ◌+◌, ◌*◌, ltb, ℤ, length, get_or, replicate, Result, Ok, Err}
use Rattle.std.proofs.Math.Seq.{paste}
use Rattle.standard.specs.Sizes.{per_frame, per_slot}
use Rattle.standard.specs.Told.{pick, verdict_of, told_or, Verdict}
use Rattle.standard.specs.Refusals.{number_of, offset_of}
use Rattle.standard.specs.Header.{hz, bps, header_of, header_size, side_size, main_size, frame_length, granules, channel_count}
use Rattle.standard.specs.SideInfo.{side_of, no_side}
use Rattle.standard.specs.Slots.{Outcome, slots_told, numbers_from, read_slots}
use Rattle.standard.specs.Reservoir.{reservoir_after, bytes_after}
use Rattle.standard.specs.Frame.{Step, no_step, short_step, full_step, step_verdict, step_info, step_slots, step_kept, frame_call}
use Rattle.standard.specs.Reorder.{reorder_of}
use Rattle.standard.specs.Record.{past_record}
use Rattle.standard.specs.declared.FrameHeader.{FrameHeader}
use Rattle.standard.specs.declared.SideInfo.{SideInfo}
use Rattle.standard.specs.declared.Refusal.TheVariants.{UnfitMemory, MadeUpRecord}
use Rattle.fields.specs.Values.{scale_values}
use Rattle.front_end.specs.declared.Sizes.{Sizes}
use Rattle.front_end.specs.declared.FrameTold.{FrameTold}
use Rattle.front_end.specs.declared.CallTold.{CallTold}
use Rattle.standard.specs.declared.SlotRecord.{SlotRecord}
use Rattle.standard.specs.declared.SlotAnswer.{SlotAnswer}
use Rattle.standard.specs.declared.SlotAnswer.TheVariants.{Read, NotRead, Lacking}
use Rattle.standard.specs.declared.Reservoir.{Reservoir}
use Rattle.standard.specs.declared.FrameHead.{FrameHead}
use Rattle.standard.specs.declared.Refusal.{Refusal}

-- no refusal has the number 0
abbrev pub call_told : Verdict → CallTold
call_told (Err r) = record { refusal = number_of r; offset = offset_of r }
call_told (Ok tt) = record { refusal = 0; offset = 0 }

-- ---- a slot's row: what became of it, its count, its 22 long factors and its 39 short ones, and 8 that its numbers are scaled by
abbrev pub per_row : ℕ
per_row = 71

-- and the rows of a frame's four slots
abbrev pub per_rows : ℕ
per_rows = 284

-- 255 for a slot that the frame lacks, which no refusal has either
abbrev pub said_number : SlotAnswer → ℕ
said_number Lacking = 255
said_number (NotRead r) = number_of r
said_number (Read n long short) = 0

-- zeros for the count and the factors of one that was not read
abbrev pub said_count : SlotAnswer → ℕ
said_count Lacking = 0
said_count (NotRead r) = 0
said_count (Read n long short) = n

abbrev pub said_long : SlotAnswer → List ℕ
said_long Lacking = replicate 22 0
said_long (NotRead r) = replicate 22 0
said_long (Read n long short) = long

abbrev pub said_short : SlotAnswer → List ℕ
said_short Lacking = replicate 39 0
said_short (NotRead r) = replicate 39 0
said_short (Read n long short) = short

unfoldable pub slot_row : SlotRecord → SlotAnswer → List ℕ
slot_row r t = said_number t ∷ said_count t ∷ (said_long t ++ (said_short t ++ scale_values r))

-- the lent rows after slots in turn, from a place on
unfoldable pub rows_from : ℕ → List SlotRecord → List SlotAnswer → List ℕ → List ℕ
rows_from at [] ts d = d
rows_from at (r ∷ rs) [] d = d
rows_from at (r ∷ rs) (t ∷ ts) d = rows_from (at + per_row) rs ts (paste d at (slot_row r t) per_row)

-- only where the call is accepted
unfoldable pub rows_after : Verdict → List SlotRecord → List SlotAnswer → List ℕ → List ℕ
rows_after (Err k) rs ts d = d
rows_after (Ok tt) rs ts d = rows_from 0 rs ts d

-- ---- a frame
-- with `room` numbers lent for the rows: too few are refused as any other memory
unfoldable pub frame_step : List ℕ → List ℕ → ℕ → ℕ → ℕ → Step
frame_step s lent stated d room = pick (ltb room per_rows) (no_step UnfitMemory) (frame_call s lent stated d)

-- a frame's length; 0 where nothing is told of it
abbrev pub step_length : Step → ℕ
step_length (no_step r) = 0
step_length (short_step h i bytes) = frame_length h
step_length (full_step h i bytes) = frame_length h

unfoldable pub frame_told : ℕ → Step → FrameTold
frame_told stated p =
    record {
      refusal = (call_told (step_verdict p)).refusal;
      offset = (call_told (step_verdict p)).offset;
      length = step_length p;
      main_data_begin = (step_info p).main_data_begin;
      reservoir = (reservoir_after (record { length = stated }) (step_kept p)).length;
    }

-- the same by what a frame answers: of one that is refused, and nothing is told of it; and of any other
abbrev pub unread_in_numbers : Refusal → ℕ → FrameTold
unread_in_numbers r kept = record { refusal = number_of r; offset = offset_of r; length = 0; main_data_begin = 0; reservoir = kept }

abbrev pub head_in_numbers : Verdict → FrameHead → Reservoir → FrameTold
head_in_numbers v h kept =
    record {
      refusal = (call_told v).refusal;
      offset = (call_told v).offset;
      length = h.length;
      main_data_begin = h.info.main_data_begin;
      reservoir = kept.length;
    }

-- what is answered of a frame, and what was lent after it: the reservoir's bytes, the numbers, the rows
pub record FrameDone (lent : List ℕ) (stated : ℕ) (d : List ℤ) (rows : List ℕ) (p : Step) (r : FrameTold) (left : List ℕ) (numbers : List ℤ)
    (told_rows : List ℕ) : Type 0 where
  pub answer : r ≡ frame_told stated p
  pub bytes : left ≡ bytes_after lent (step_kept p)
  pub numbers-are : numbers ≡ numbers_from 0 (step_slots p) d
  pub rows_are : told_rows ≡ rows_after (step_verdict p) (step_info p).slots (slots_told (step_slots p)) rows

-- ---- calls on a frame's header and side information, which come first in its bytes
-- what follows a reading, and nothing after a refusal
unfoldable pub following : {A B : Type 0} → Result A Refusal → (A → Result B Refusal) → Result B Refusal
following (Err k) f = Err k
following (Ok a) f = f a

unfoldable pub under : {B : Type 0} → List ℕ → (FrameHeader → SideInfo → Result B Refusal) → Result B Refusal
under s f = following (header_of s) (λ (h : FrameHeader). following (side_of h s) (f h))

-- the records of a frame's slots
unfoldable pub records_in : List ℕ → List SlotRecord
records_in s = (told_or no_side (under s (λ (h : FrameHeader) (i : SideInfo). Ok i))).slots

-- the slots of a frame from given main data
unfoldable pub slots_step : List ℕ → List ℕ → ℕ → ℕ → Result (List Outcome) Refusal
slots_step s main d room =
    pick (ltb room per_rows || ltb d per_frame) (Err UnfitMemory)
    (under s (λ (h : FrameHeader) (i : SideInfo). read_slots h i main d))

pub record SlotsDone (d : List ℤ) (rows : List ℕ) (rs : List SlotRecord) (t : Result (List Outcome) Refusal) (r : CallTold) (numbers : List ℤ)
    (told_rows : List ℕ) : Type 0 where
  pub answer : r ≡ call_told (verdict_of t)
  pub numbers-are : numbers ≡ numbers_from 0 (told_or [] t) d
  pub rows_are : told_rows ≡ rows_after (verdict_of t) rs (slots_told (told_or [] t)) rows

-- the reorder of a slot's numbers by the frame's own record of the n-th slot: the frame must have such a slot
unfoldable pub reorder_by : FrameHeader → SideInfo → ℕ → List ℤ → Result (List ℤ) Refusal
reorder_by h i n d =
    pick (ltb n (granules h * channel_count h)) (reorder_of h (get_or i.slots n past_record) d) (Err MadeUpRecord)

unfoldable pub reorder_step : List ℕ → ℕ → List ℤ → Result (List ℤ) Refusal
reorder_step s n d =
    pick (ltb (length d) per_slot) (Err UnfitMemory)
    (under s (λ (h : FrameHeader) (i : SideInfo). reorder_by h i n d))

pub record ReorderDone (d : List ℤ) (t : Result (List ℤ) Refusal) (r : CallTold) (numbers : List ℤ) : Type 0 where
  pub answer : r ≡ call_told (verdict_of t)
  pub numbers-are : numbers ≡ told_or d t

-- ---- what a header says of its frame; nothing is told of a refused one
unfoldable pub sizes_told : Result FrameHeader Refusal → Sizes
sizes_told (Err r) =
    record { refusal = number_of r; offset = offset_of r; length = 0; header = 0; side = 0; main = 0; granules = 0; channels = 0; rate = 0; bitrate = 0 }
sizes_told (Ok h) =
    record {
      refusal = 0;
      offset = 0;
      length = frame_length h;
      header = header_size h;
      side = side_size h;
      main = main_size h;
      granules = granules h;
      channels = channel_count h;
      rate = hz h.rate;
      bitrate = bps h.bitrate;
    }

-- One frame, from its bytes and what the frames before it left (11172-3, 2.4.1.1 to 2.4.1.7): header, side information, main data, slots.
-- The first fault decides, in the order of docs/REFUSALS.md.
use Rattle.std.specs.Prelude.{◌≡◌, ◌||◌, List, [], ℕ, ◌+◌, ltb, ℤ, length, take, drop, Result, Ok, Err}
use Rattle.standard.specs.Sizes.{per_frame}
use Rattle.standard.specs.Told.{pick, Verdict}
use Rattle.standard.specs.Header.{header_of, header_size, side_size, main_size, frame_length, no_header}
use Rattle.standard.specs.SideInfo.{side_of, no_side}
use Rattle.standard.specs.Slots.{Outcome, slots_of, slots_told, numbers_from}
use Rattle.standard.specs.Reservoir.{Turn, short, reached, turn_of, Kept, untouched, keeping, unfit, reservoir_after, bytes_after}
use Rattle.standard.specs.declared.FrameHeader.{FrameHeader}
use Rattle.standard.specs.declared.SideInfo.{SideInfo}
use Rattle.standard.specs.declared.Reservoir.{Reservoir}
use Rattle.standard.specs.declared.FrameHead.{FrameHead}
use Rattle.standard.specs.declared.Frame.{Frame}
use Rattle.standard.specs.declared.FrameRefusal.{FrameRefusal}
use Rattle.standard.specs.declared.FrameRefusal.TheVariants.{Unread, OutOfReach}
use Rattle.standard.specs.declared.Refusal.TheVariants.{UnfitMemory, AbsentBytes, ShortReservoir}
use Rattle.standard.specs.declared.Refusal.{Refusal}

-- what a frame comes to: refused, and nothing is told of it; or main_data_begin reaches further back than the reservoir, so that there are no slots;
-- or read. With the bytes that the reservoir then has
pub data Step : Type 0 where
  no_step : Refusal → Step
  short_step : FrameHeader → SideInfo → List ℕ → Step
  full_step : FrameHeader → SideInfo → List ℕ → Step

-- the main data of a frame's bytes
abbrev pub main_of : FrameHeader → List ℕ → List ℕ
main_of h s = take (main_size h) (drop (header_size h + side_size h) s)

-- by the frame's turn with the reservoir
unfoldable pub with_turn : FrameHeader → SideInfo → Turn → Step
with_turn h i (short bytes) = short_step h i bytes
with_turn h i (reached bytes) = full_step h i bytes

unfoldable pub with_side : FrameHeader → List ℕ → List ℕ → Result SideInfo Refusal → Step
with_side h s old (Err r) = no_step r
with_side h s old (Ok i) =
    pick (ltb (length s) (frame_length h)) (no_step (AbsentBytes (length s)))
    (with_turn h i (turn_of i.main_data_begin old (main_of h s)))

unfoldable pub with_header : List ℕ → List ℕ → Result FrameHeader Refusal → Step
with_header s old (Err r) = no_step r
with_header s old (Ok h) = with_side h s old (side_of h s)

-- the frame that starts at the first of the bytes s; bytes beyond it are ignored
unfoldable pub frame_of : List ℕ → List ℕ → Step
frame_of s old = with_header s old (header_of s)

-- the call: `lent` bytes with a stated length of them, and d numbers
unfoldable pub frame_call : List ℕ → List ℕ → ℕ → ℕ → Step
frame_call s lent stated d =
    pick (unfit lent stated || ltb d per_frame) (no_step UnfitMemory)
    (frame_of s (take stated lent))

-- ---- what a step tells and leaves
abbrev pub step_verdict : Step → Verdict
step_verdict (no_step r) = Err r
step_verdict (short_step h i bytes) = Err ShortReservoir
step_verdict (full_step h i bytes) = Ok tt

-- a frame that is refused has no slots
abbrev pub step_slots : Step → List Outcome
step_slots (no_step r) = []
step_slots (short_step h i bytes) = []
step_slots (full_step h i bytes) = slots_of h i bytes

-- after a refusal the reservoir stays; where it is too short, the frame's main data is kept after the old bytes
abbrev pub step_kept : Step → Kept
step_kept (no_step r) = untouched
step_kept (short_step h i bytes) = keeping bytes
step_kept (full_step h i bytes) = keeping bytes

-- the header and the side information that it goes by, blank ones where nothing is told
abbrev pub step_header : Step → FrameHeader
step_header (no_step r) = no_header
step_header (short_step h i bytes) = h
step_header (full_step h i bytes) = h

abbrev pub step_info : Step → SideInfo
step_info (no_step r) = no_side
step_info (short_step h i bytes) = i
step_info (full_step h i bytes) = i

abbrev pub head_of : FrameHeader → SideInfo → FrameHead
head_of h i = record { header = h; info = i; length = frame_length h }

unfoldable pub frame_answer : Step → Result Frame FrameRefusal
frame_answer (no_step r) = Err (Unread r)
frame_answer (short_step h i bytes) = Err (OutOfReach (head_of h i))
frame_answer (full_step h i bytes) = Ok (record { head = head_of h i; slots = slots_told (slots_of h i bytes) })

-- what is answered of a frame, and the reservoir, the lent bytes and the numbers after it
pub record FrameRead (lent : List ℕ) (old : Reservoir) (d : List ℤ) (p : Step) (r : Result Frame FrameRefusal) (new : Reservoir) (left : List ℕ)
    (numbers : List ℤ) : Type 0 where
  pub answer : r ≡ frame_answer p
  pub reservoir : new ≡ reservoir_after old (step_kept p)
  pub bytes : left ≡ bytes_after lent (step_kept p)
  pub numbers-are : numbers ≡ numbers_from 0 (step_slots p) d

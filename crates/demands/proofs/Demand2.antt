-- Demand 2: what the answers are. The calls that the mission names, each beside its definition and the clause that this comes from: what a call
-- answers, and leaves of what was lent, is the definition's for what went in, for every input. The definitions are those of `standard`; the
-- published codes enter by Codes.antt. Every other public function is in the catalogue, docs/PROMISES.md, and has its theorem of one answer in
-- Unique.
-- The readers that were to be shut out break these lines. One that decodes the first slot and fakes the others, and one with an invented frame length, are tried by name
-- as must-fail edits (frame/first_slot_only, frame/invented_length); one that refuses all, one that gives 576 zeros or writes nothing, and one with an invented
-- count are shut out by frames given by their bytes (Worked).
use mathlib.Core.Path.{◌≡◌}
use lib.ListN.{length}
use Rattle.standard.specs.Refusals.{Answers}
use Rattle.standard.specs.Header.{header_of}
use Rattle.standard.specs.SideInfo.{side_of}
use Rattle.standard.specs.Slots.{SlotsRead, read_slots}
use Rattle.standard.specs.Reservoir.{emptied}
use Rattle.standard.specs.Frame.{FrameRead, frame_call}
use Rattle.standard.specs.Reorder.{reorder_of}
use Rattle.front_end.specs.Calls.{FrameDone, frame_step, SlotsDone, slots_step, records_in, ReorderDone, reorder_step, sizes_told}
use Rattle.front_end.proofs.front_end_frame.Reads as front-end-frame
use Rattle.front_end.proofs.front_end_frame.Kinds as front-end-frame-kinds
use Rattle.front_end.proofs.front_end_slots.Reads as front-end-slots
use Rattle.front_end.proofs.front_end_slots.Kinds as front-end-slots-kinds
use Rattle.front_end.proofs.front_end_reorder.Reads as front-end-reorder
use Rattle.front_end.proofs.front_end_reorder.Kinds as front-end-reorder-kinds
use Rattle.front_end.proofs.front_end_emptied.Reads as front-end-emptied
use Rattle.front_end.proofs.front_end_emptied.Kinds as front-end-emptied-kinds
use Rattle.front_end.proofs.front_end_sizes.Reads as front-end-sizes
use Rattle.front_end.proofs.front_end_sizes.Kinds as front-end-sizes-kinds
use Rattle.demands.proofs.Call.{Call}
use Rattle.demands.proofs.Calls.{HeaderCall, header_frame, SideInfoCall, side_header, side_frame, SlotsCall, slots_header, slots_info, main_data, slots_numbers, slots_numbers_after, FrameStep, frame, bytes, reservoir, reservoir_left, numbers, bytes_after, numbers_after, EmptiedCall, ReorderCall, reorder_header, reorder_record, reorder_numbers, reorder_numbers_after}

-- 11172-3, 2.4.1.3 and 2.4.2.3; 13818-3, 2.4.2.3: the header of a frame's bytes; refusals 2 to 9 and 15
pub header_is : (c : HeaderCall) → c.answer ≡ header_of (header_frame c)
header_is c = c.promised

-- 11172-3, 2.4.1.7 and 2.4.2.7; 13818-3, 2.4.1.7: the side information after a header; refusals 14, 2, 10 to 12
pub side_info_is : (c : SideInfoCall) → c.answer ≡ side_of (side_header c) (side_frame c)
side_info_is c = c.promised

-- 11172-3, 2.4.1.7, 2.4.2.7 and 2.4.3.4; 13818-3, 2.4.3.2: the slots in given main data, and their numbers; refusals 1, 14, 20 to 24
pub slots-are : (c : SlotsCall)
    → SlotsRead (slots_numbers c) (read_slots (slots_header c) (slots_info c) (main_data c) (length (slots_numbers c))) c.answer (slots_numbers_after c)
slots-are c = c.promised

-- 11172-3, 2.4.1.1 to 2.4.1.7, and 2.4.2.7 (main_data_begin): a frame from bytes and reservoir; refusals 1 to 13 and 15
pub frame_is : (c : FrameStep)
    → FrameRead (bytes c) (reservoir c) (numbers c) (frame_call (frame c) (bytes c) (reservoir c).length (length (numbers c))) c.answer (reservoir_left c)
    (bytes_after c) (numbers_after c)
frame_is c = c.promised

-- docs/RULES.md, Reservoir: the call for a gap on the card
pub emptied-is : (c : EmptiedCall) → c.answer ≡ emptied
emptied-is c = c.promised

-- 11172-3, 2.4.3.4: the short-block reorder; refusals 1 and 14
pub reorder_is : (c : ReorderCall)
    → Answers (reorder_numbers c) c.answer (reorder_numbers_after c) (reorder_of (reorder_header c) (reorder_record c) (reorder_numbers c))
reorder_is c = c.promised

-- ---- the same for C and Rust, in numbers
pub exported-frame_is : (c : Call front-end-frame-kinds.ps front-end-frame-kinds.r front-end-frame.Post)
    → let lent = c.args.1.0.now in
    let nums = c.args.1.1.1.0.now in
    let rows = c.args.1.1.1.1.0.now in
    FrameDone lent c.args.1.1.0 nums rows (frame_step c.args.0.now lent c.args.1.1.0 (length nums) (length rows)) c.answer
    c.exit.1.0.now c.exit.1.1.1.0.now c.exit.1.1.1.1.0.now
exported-frame_is c = c.promised

pub exported-slots_are : (c : Call front-end-slots-kinds.ps front-end-slots-kinds.r front-end-slots.Post)
    → let nums = c.args.1.1.0.now in
    let rows = c.args.1.1.1.0.now in
    SlotsDone nums rows (records_in c.args.0.now) (slots_step c.args.0.now c.args.1.0.now (length nums) (length rows)) c.answer
    c.exit.1.1.0.now c.exit.1.1.1.0.now
exported-slots_are c = c.promised

pub exported-emptied_is : (c : Call front-end-emptied-kinds.ps front-end-emptied-kinds.r front-end-emptied.Post) → c.answer ≡ emptied.length
exported-emptied_is c = c.promised

pub exported-reorder_is : (c : Call front-end-reorder-kinds.ps front-end-reorder-kinds.r front-end-reorder.Post)
    → let nums = c.args.1.1.0.now in
    ReorderDone nums (reorder_step c.args.0.now c.args.1.0 nums) c.answer c.exit.1.1.0.now
exported-reorder_is c = c.promised

pub exported-sizes_are : (c : Call front-end-sizes-kinds.ps front-end-sizes-kinds.r front-end-sizes.Post) → c.answer ≡ sizes_told (header_of c.args.0.now)
exported-sizes_are c = c.promised

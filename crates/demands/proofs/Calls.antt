-- The calls that the demands speak of, with names for what goes in and what comes out.
use Rattle.std.specs.Prelude.{Result, Ok, Err}
use mathlib.Core.Bool.{Bool}
use mathlib.Core.List.{List}
use Prim.Native.Nat.{ℕ}
use lib.IntN.{ℤ}
use lib.ListN.{get_or, replicate}
use Rattle.frame.proofs.process_frame.Reads as process-frame
use Rattle.frame.proofs.process_frame.Kinds as process-frame-kinds
use Rattle.frame.proofs.read_slots.Reads as read-slots
use Rattle.frame.proofs.read_slots.Kinds as read-slots-kinds
use Rattle.reorder.proofs.reorder.Reads as reorder
use Rattle.reorder.proofs.reorder.Kinds as reorder-kinds
use Rattle.reservoir.proofs.turn.Reads as turn
use Rattle.reservoir.proofs.turn.Kinds as turn-kinds
use Rattle.huffman.proofs.read_huffman.Reads as read-huffman
use Rattle.huffman.proofs.read_huffman.Kinds as read-huffman-kinds
use Rattle.header.proofs.read_frame_header.Reads as read-frame-header
use Rattle.header.proofs.read_frame_header.Kinds as read-frame-header-kinds
use Rattle.side_info.proofs.read_side_info.Reads as read-side-info
use Rattle.side_info.proofs.read_side_info.Kinds as read-side-info-kinds
use Rattle.header.proofs.is_header.Reads as is-header
use Rattle.header.proofs.is_header.Kinds as is-header-kinds
use Rattle.record_check.proofs.is_side_info.Reads as is-side-info
use Rattle.record_check.proofs.is_side_info.Kinds as is-side-info-kinds
use Rattle.record_check.proofs.is_record.Reads as is-record
use Rattle.record_check.proofs.is_record.Kinds as is-record-kinds
use Rattle.derived.proofs.main_size.Reads as main-size
use Rattle.derived.proofs.main_size.Kinds as main-size-kinds
use Rattle.reservoir.proofs.emptied.Reads as emptied
use Rattle.reservoir.proofs.emptied.Kinds as emptied-kinds
use Rattle.huffman.proofs.lookup.Reads as lookup
use Rattle.huffman.proofs.lookup.Kinds as lookup-kinds
use Rattle.standard.specs.Bits.{between}
use Rattle.standard.specs.Told.{Verdict}
use Rattle.standard.specs.Refusals.{why_of}
use Rattle.standard.specs.Header.{no_header}
use Rattle.standard.specs.SideInfo.{no_side}
use Rattle.standard.specs.declared.FrameHeader.{FrameHeader}
use Rattle.standard.specs.declared.SideInfo.{SideInfo}
use Rattle.standard.specs.declared.SlotRecord.{SlotRecord}
use Rattle.standard.specs.declared.SlotAnswer.{SlotAnswer}
use Rattle.standard.specs.declared.SlotAnswer.TheVariants.{Lacking}
use Rattle.standard.specs.declared.Reservoir.{Reservoir}
use Rattle.standard.specs.declared.Frame.{Frame}
use Rattle.standard.specs.declared.FrameRefusal.{FrameRefusal}
use Rattle.standard.specs.declared.FrameRefusal.TheVariants.{Unread, OutOfReach}
use Rattle.standard.specs.declared.Refusal.{Refusal}
use Rattle.demands.proofs.Call.{Call}

-- what the n-th of the slots' answers says; a frame has its slots first, and any other is said to be lacking
abbrev pub slot_said : List SlotAnswer → ℕ → SlotAnswer
slot_said slots n = get_or slots n Lacking

-- ---- what a frame's answer says: whether it was read, and if not, why
abbrev pub verdict_in : Result Frame FrameRefusal → Verdict
verdict_in (Ok f) = Ok tt
verdict_in (Err e) = Err (why_of e)

-- its header and its side information, blank ones where nothing is told
abbrev pub header_in : Result Frame FrameRefusal → FrameHeader
header_in (Ok f) = f.head.header
header_in (Err (OutOfReach h)) = h.header
header_in (Err (Unread r)) = no_header

abbrev pub info_in : Result Frame FrameRefusal → SideInfo
info_in (Ok f) = f.head.info
info_in (Err (OutOfReach h)) = h.info
info_in (Err (Unread r)) = no_side

-- and its slots: a frame that is refused lacks all four; and so with the slots from given main data
abbrev pub slots_in : Result Frame FrameRefusal → List SlotAnswer
slots_in (Ok f) = f.slots
slots_in (Err e) = replicate 4 Lacking

abbrev pub slots_of_call : Result (List SlotAnswer) Refusal → List SlotAnswer
slots_of_call (Ok l) = l
slots_of_call (Err r) = replicate 4 Lacking

-- ---- process_frame(frame, bytes, reservoir, numbers)
abbrev pub FrameStep : Type 0
FrameStep = Call process-frame-kinds.ps process-frame-kinds.r process-frame.Post

module _ (c : FrameStep) where
  abbrev pub frame : List ℕ
  frame = c.args.0.now

  abbrev pub bytes : List ℕ
  bytes = c.args.1.0.now

  abbrev pub reservoir : Reservoir
  reservoir = c.args.1.1.0.now

  abbrev pub numbers : List ℤ
  numbers = c.args.1.1.1.0.now

  abbrev pub bytes_after : List ℕ
  bytes_after = c.exit.1.0.now

  abbrev pub reservoir_left : Reservoir
  reservoir_left = c.exit.1.1.0.now

  abbrev pub numbers_after : List ℤ
  numbers_after = c.exit.1.1.1.0.now

-- ---- read_slots(header, side information, main data, numbers)
abbrev pub SlotsCall : Type 0
SlotsCall = Call read-slots-kinds.ps read-slots-kinds.r read-slots.Post

module _ (c : SlotsCall) where
  abbrev pub slots_header : FrameHeader
  slots_header = c.args.0

  abbrev pub slots_info : SideInfo
  slots_info = c.args.1.0

  abbrev pub main_data : List ℕ
  main_data = c.args.1.1.0.now

  abbrev pub slots_numbers : List ℤ
  slots_numbers = c.args.1.1.1.0.now

  abbrev pub slots_numbers_after : List ℤ
  slots_numbers_after = c.exit.1.1.1.0.now

-- ---- reorder(header, record, numbers)
abbrev pub ReorderCall : Type 0
ReorderCall = Call reorder-kinds.ps reorder-kinds.r reorder.Post

module _ (c : ReorderCall) where
  abbrev pub reorder_header : FrameHeader
  reorder_header = c.args.0

  abbrev pub reorder_record : SlotRecord
  reorder_record = c.args.1.0

  abbrev pub reorder_numbers : List ℤ
  reorder_numbers = c.args.1.1.0.now

  abbrev pub reorder_numbers_after : List ℤ
  reorder_numbers_after = c.exit.1.1.0.now

-- ---- turn(bytes, reservoir, main_data_begin, main data)
abbrev pub TurnCall : Type 0
TurnCall = Call turn-kinds.ps turn-kinds.r turn.Post

module _ (c : TurnCall) where
  abbrev pub turn_bytes : List ℕ
  turn_bytes = c.args.0.now

  abbrev pub turn_reservoir : Reservoir
  turn_reservoir = c.args.1.0.now

  abbrev pub turn_reservoir_left : Reservoir
  turn_reservoir_left = c.exit.1.0.now

  abbrev pub turn_bytes_after : List ℕ
  turn_bytes_after = c.exit.0.now

-- ---- read_huffman(rate, record, bytes, place, end, numbers)
abbrev pub HuffmanCall : Type 0
HuffmanCall = Call read-huffman-kinds.ps read-huffman-kinds.r read-huffman.Post

module _ (c : HuffmanCall) where
  abbrev pub huffman_numbers : List ℤ
  huffman_numbers = c.args.1.1.1.1.1.0.now

  abbrev pub huffman_numbers_after : List ℤ
  huffman_numbers_after = c.exit.1.1.1.1.1.0.now

-- ---- read_frame_header(frame) and read_side_info(header, frame)
abbrev pub HeaderCall : Type 0
HeaderCall = Call read-frame-header-kinds.ps read-frame-header-kinds.r read-frame-header.Post

abbrev pub header_frame : HeaderCall → List ℕ
header_frame c = c.args.0.now

abbrev pub SideInfoCall : Type 0
SideInfoCall = Call read-side-info-kinds.ps read-side-info-kinds.r read-side-info.Post

abbrev pub side_header : SideInfoCall → FrameHeader
side_header c = c.args.0

abbrev pub side_frame : SideInfoCall → List ℕ
side_frame c = c.args.1.0.now

-- ---- the checks for 14: is_header(header), is_side_info(header, side information), is_record(header, record)
abbrev pub IsHeaderCall : Type 0
IsHeaderCall = Call is-header-kinds.ps is-header-kinds.r is-header.Post

abbrev pub IsSideInfoCall : Type 0
IsSideInfoCall = Call is-side-info-kinds.ps is-side-info-kinds.r is-side-info.Post

abbrev pub IsRecordCall : Type 0
IsRecordCall = Call is-record-kinds.ps is-record-kinds.r is-record.Post

-- ---- main_size(header), emptied()
abbrev pub MainSizeCall : Type 0
MainSizeCall = Call main-size-kinds.ps main-size-kinds.r main-size.Post

abbrev pub EmptiedCall : Type 0
EmptiedCall = Call emptied-kinds.ps emptied-kinds.r emptied.Post

-- ---- lookup(table, bytes, place, end)
abbrev pub LookupCall : Type 0
LookupCall = Call lookup-kinds.ps lookup-kinds.r lookup.Post

module _ (c : LookupCall) where
  abbrev pub lookup_table : ℕ
  lookup_table = c.args.0

  -- the bits that are there
  abbrev pub lookup_bits : List Bool
  lookup_bits = between c.args.1.0.now c.args.1.1.0 c.args.1.1.1.0

-- No theorem of the demands has a premise that cannot be met: for each, calls that meet it. They are frame F of docs/RULES.md and its neighbours, with
-- 4,096 bytes and 2,304 numbers lent, and calls that are lent nothing. (Where a theorem says that something cannot be, as answer 25, its premise is
-- that very thing.)
use Rattle.std.specs.Prelude.{Result, Some, Ok, Err}
use mathlib.Core.Path.{◌≡◌, refl, sym, ap, ◌∙◌}
use mathlib.Core.Bool.{Bool, true, false}
use mathlib.Core.List.{List, [], ◌∷◌, ◌++◌}
use Prim.Native.Nat.{ℕ, ◌≤◌, ◌<◌}
use native.Mathlib.Omega.{arith}
use borrow.Author.Tests.{ltb-true}
use lib.Dec.{ltb}
use lib.IntN.{ℤ, pos}
use lib.ListN.{length, get_or, take, replicate, set, length-replicate}
use Rattle.standard.specs.Sizes.{per_slot, per_frame, reservoir_bytes}
use Rattle.standard.specs.Told.{pick, told_or, verdict_of}
use Rattle.standard.specs.ToldLaws.{passed}
use Rattle.standard.specs.RowsLaws.{every, every-at}
use Rattle.standard.specs.Written.{Bytes}
use Rattle.standard.specs.Codes.{word_of, entry, starts, published, codes, table1, pair, low_bits}
use Rattle.standard.proofs.CodesLaws.{In, here}
use Rattle.standard.specs.Bits.{between}
use Rattle.standard.specs.Header.{header_of, is_header, main_size, no_header}
use Rattle.standard.proofs.HeaderBytes.{header-known}
use Rattle.standard.specs.Record.{shape_by, shape_of, absent, record_of, is_record}
use Rattle.standard.proofs.RecordBits.{record_known}
use Rattle.standard.specs.SideInfo.{is_record_under, is_side}
use Rattle.standard.proofs.SideLaws.{slot_record}
use Rattle.standard.specs.Slots.{Outcome, slots_of, slot_told, said_of, read_slots, slots_answer, slots_told, numbers_from, records}
use Rattle.standard.proofs.SlotsLaws.{read-call}
use Rattle.standard.proofs.SlotsLaws as slots_laws
use Rattle.standard.proofs.ReservoirLaws.{few_lent}
use Rattle.standard.proofs.ReorderLaws as reorder-laws
use Rattle.standard.specs.Reservoir.{turn_verdict, emptied as nothing, bytes_after}
use Rattle.standard.specs.Frame.{Step, no_step, step_verdict, step_header, step_info, step_slots, step_kept, frame_answer, frame_call, frame_of}
use Rattle.standard.proofs.FrameLaws.{call_fits}
use Rattle.standard.proofs.StepLaws.{way}
use Rattle.standard.proofs.Worked.{frame_f, long, reaching_back, up_from, step, slots_by}
use Rattle.standard.specs.declared.FrameHeader.{FrameHeader}
use Rattle.standard.specs.declared.SideInfo.{SideInfo}
use Rattle.standard.specs.declared.SlotRecord.{SlotRecord}
use Rattle.standard.specs.declared.BlockType.TheVariants.{Short}
use Rattle.standard.specs.declared.SampleRate.TheVariants.{Hz44100}
use Rattle.standard.specs.declared.Reservoir.{Reservoir}
use Rattle.standard.specs.declared.Refusal.TheVariants.{UnfitMemory, FreeBitrate, ShortReservoir, MissingBits, PairOverrun}
use Rattle.huffman.specs.Slot.{slot_numbers, count_of, numbers_after}
use Rattle.demands.proofs.Calls.{HuffmanCall, slot_said, verdict_in, header_in, info_in, slots_in, slots_of_call, FrameStep, frame, bytes, reservoir, numbers, SlotsCall, slots_header, slots_info, main_data, slots_numbers, TurnCall, ReorderCall, reorder_header, reorder_record, reorder_numbers, SideInfoCall, IsHeaderCall, IsSideInfoCall, IsRecordCall, MainSizeCall, EmptiedCall, LookupCall, lookup_table, lookup_bits}
use Rattle.demands.proofs.Made.{lend, lend_mut, frame_step, slots_call, side_info_call, reorder_call, turn_call}
use Rattle.front_end.specs.Calls.{per_rows, call_told, rows_after, frame_step as stepIn, frame_told, slots_step, reorder_step}
use Rattle.demands.proofs.Exported.{ExportedFrame, ExportedSlots, ExportedReorder}
use Rattle.demands.proofs.Stored.{verdict_by}
use Rattle.demands.proofs.Bounds.{InTurn}
use Rattle.demands.proofs.Worked.{Lent, way_known}
use Rattle.standard.specs.declared.SlotAnswer.{SlotAnswer}
use Rattle.standard.specs.declared.SlotAnswer.TheVariants.{NotRead, Lacking}
use Rattle.standard.specs.declared.Refusal.{Refusal}

-- ---- memory that is lent
abbrev pub memory : ℕ → List ℕ
memory x = replicate reservoir_bytes x

abbrev pub zeros : List ℤ
zeros = replicate per_frame (pos 0)

abbrev pub none : Reservoir
none = record { length = 0 }

bytes-enough : (x : ℕ) → reservoir_bytes ≤ length (memory x)
bytes-enough x = rw length-replicate (omega arith)

numbers-enough : per_frame ≤ length zeros
numbers-enough = rw length-replicate (omega arith)

-- a frame's call from an empty reservoir comes to the frame's step
pub comes_to : (s : List ℕ) (x : ℕ) → frame_call s (memory x) 0 (length zeros) ≡ frame_of s []
comes_to s x = call_fits s (memory x) 0 (length zeros) (bytes-enough x) (omega arith) numbers-enough

-- that call: what it answers is the frame's step
unfoldable pub a_frame : (s : List ℕ) (x : ℕ) → FrameStep
a_frame s x = frame_step s (memory x) none zeros

module _ (s : List ℕ) (x : ℕ) where
  answers : (a_frame s x).answer ≡ frame_answer (frame_of s [])
  unfolding a_frame frame_step
  answers = ap frame_answer (comes_to s x)

  pub judged : verdict_in (a_frame s x).answer ≡ step_verdict (frame_of s [])
  unfolding a_frame frame_step
  judged = verdict_by (a_frame s x).promised ∙ ap step_verdict (comes_to s x)

  told_of : slots_in (a_frame s x).answer ≡ slots_in (frame_answer (frame_of s []))
  told_of = ap slots_in answers

-- F itself, with either filling of the memory past the reservoir's bytes
unfoldable pub f : ℕ → FrameStep
f x = a_frame frame_f x

bytes_of : (s : List ℕ) → every (λ (x : ℕ). ltb x 256) s ≡ true → Bytes s
bytes_of s e i = ltb-true _ _ (every-at (λ (x : ℕ). ltb x 256) 0 s refl e i)

f-bytes : Bytes frame_f
unfolding every
f-bytes = bytes_of frame_f refl

-- ---- Demand 1
pub frame_refused : (c : FrameStep) × (verdict_in c.answer ≡ Err FreeBitrate)
unfolding step
frame_refused = (a_frame (set frame_f 2 0x04) 0, judged (set frame_f 2 0x04) 0)

pub frame-short : (c : FrameStep) × (verdict_in c.answer ≡ Err ShortReservoir)
unfolding step
frame-short = (a_frame (reaching_back 1) 0, judged (reaching_back 1) 0)

-- a frame with a refused slot, which also lacks the slots of a second channel and granule
pub slot_refused : (c : FrameStep) × (slot_said (slots_in c.answer) 0 ≡ NotRead PairOverrun) × (slot_said (slots_in c.answer) 1 ≡ Lacking)
unfolding step frame_answer slots_told slot_told
slot_refused = (
  a_frame (long 2) 0,
  ap (λ (l : List SlotAnswer). slot_said l 0) (told_of (long 2) 0),
  ap (λ (l : List SlotAnswer). slot_said l 1) (told_of (long 2) 0),
)

-- ---- slots of F from given main data
abbrev pub header : FrameHeader
header = step_header (frame_of frame_f [])

abbrev pub info : SideInfo
info = step_info (frame_of frame_f [])

known : (is_header header ≡ true) × (is_side header info ≡ true)
unfolding step
known = way_known f-bytes (way frame_f []) refl

pub read_is : (main : List ℕ) → read_slots header info main (length zeros) ≡ Ok (slots_of header info main)
read_is main = read-call header info main (length zeros) numbers-enough known.0 known.1

unfoldable pub from_main : List ℕ → SlotsCall
from_main main = slots_call header info main zeros

from_said : (main : List ℕ) (n : ℕ) → slot_said (slots_of_call (from_main main).answer) n ≡ slot_said (slots_told (slots_of header info main)) n
unfolding from_main slots_call slots_answer
from_said main n = ap (λ (t : Result (List Outcome) Refusal). slot_said (slots_of_call (slots_answer t)) n) (read_is main)

-- with the premises of Demand 3 on header, side information and numbers: from nothing the slot is missing, from a byte it is not
pub slot_missing : (c : SlotsCall) × (per_frame ≤ length (slots_numbers c)) × (is_header (slots_header c) ≡ true) × (is_side (slots_header c) (slots_info c) ≡ true)
    × (0 < length (records (slots_header c) (slots_info c))) × (slot_said (slots_of_call c.answer) 0 ≡ NotRead MissingBits)
    × (slot_said (slots_of_call c.answer) 1 ≡ Lacking)
unfolding from_main slots_call step slots_by slots_told slot_told
slot_missing =
    let one : length (records header info) ≡ 1 = refl in (
      from_main [],
      numbers-enough,
      known.0,
      known.1,
      omega (arith, one),
      from_said [] 0,
      from_said [] 1,
    )

pub early_and_late : (early late : SlotsCall) × (slots_header late ≡ slots_header early) × (slots_info late ≡ slots_info early)
    × (main_data late ≡ main_data early ++ 0x00 ∷ [])
    × (slots_numbers late ≡ slots_numbers early) × (per_frame ≤ length (slots_numbers early)) × (is_header (slots_header early) ≡ true)
    × (is_side (slots_header early) (slots_info early) ≡ true) × (said_of (slot_said (slots_of_call early.answer) 0) ≡ Some (Ok 6))
unfolding from_main slots_call step slots_by slots_told slot_told said_of
early_and_late = (
  from_main (0x7A ∷ []),
  from_main (0x7A ∷ 0x00 ∷ []),
  refl,
  refl,
  refl,
  refl,
  numbers-enough,
  known.0,
  known.1,
  ap said_of (from_said (0x7A ∷ []) 0),
)

-- ---- calls that are lent nothing
pub slots-refused : (c : SlotsCall) × (c.answer ≡ Err UnfitMemory)
unfolding slots_call slots_answer
slots-refused = (slots_call header info [] [], ap slots_answer (slots_laws.few_numbers header info [] 0 (omega arith)))

pub reorder_refused : (c : ReorderCall) × (c.answer ≡ Err UnfitMemory)
unfolding reorder_call verdict_of
reorder_refused = (reorder_call header absent [], ap verdict_of (reorder-laws.few_numbers header absent [] (omega arith)))

pub huffman_refused : (c : HuffmanCall) × (c.answer ≡ Err UnfitMemory)
unfolding slot_numbers pick count_of numbers_after
huffman_refused = (
  record {
    lifetimes = ([], ([], tt));
    args = (header.rate, (absent, (lend [], (0, (0, (lend_mut [], tt))))));
    answer = Err UnfitMemory;
    exit = (header.rate, (absent, (lend [], (0, (0, (lend_mut [], tt))))));
    promised = (refl, refl);
  },
  refl,
)

pub turn_refused : (c : TurnCall) × (c.answer ≡ Err UnfitMemory)
unfolding turn_call turn_verdict
turn_refused = (turn_call [] none 0 [], ap turn_verdict (few_lent [] 0 0 [] (omega arith)))

-- ---- OnlyValid: F's call twice, over memory that differs past the reservoir's bytes
pub two_memories : (frame (f 1) ≡ frame (f 0)) × (reservoir (f 1) ≡ reservoir (f 0)) × (numbers (f 1) ≡ numbers (f 0))
    × (take (reservoir (f 0)).length (bytes (f 1)) ≡ take (reservoir (f 0)).length (bytes (f 0)))
    × (ltb (length (bytes (f 1))) reservoir_bytes ≡ ltb (length (bytes (f 0))) reservoir_bytes)
unfolding f a_frame frame_step
two_memories = (refl, refl, refl, refl, ap (λ (n : ℕ). ltb n reservoir_bytes) (length-replicate {A = ℕ} reservoir_bytes 1 ∙ sym (length-replicate {A = ℕ} reservoir_bytes 0)))

-- ---- Records: a header, side information and a record that the checks accept
pub header-checked : (c : IsHeaderCall) × (c.answer ≡ true)
header-checked = (record { lifetimes = tt; args = (header, tt); answer = true; exit = (header, tt); promised = sym known.0 }, refl)

pub side_checked : (c : IsSideInfoCall) × (is_header c.args.0 ≡ true) × (c.answer ≡ true)
side_checked = (record { lifetimes = tt; args = (header, (info, tt)); answer = true; exit = (header, (info, tt)); promised = sym known.1 }, known.0, refl)

pub record_checked : (c : IsRecordCall) × (is_header c.args.0 ≡ true) × (c.answer ≡ true)
unfolding step
record_checked =
    let r = get_or info.slots 0 absent in (
      record {
        lifetimes = tt;
        args = (header, (r, tt));
        answer = true;
        exit = (header, (r, tt));
        promised = sym
            (slot_record header info known.1 0 (omega arith));
      },
      known.0,
      refl,
    )

-- ---- Worked and Bounds: memory is lent to any frame as the table asks; F's bytes are bytes, it is accepted, its header and side information are
-- handed on, and its slot is counted
pub lent : (s : List ℕ) (x : ℕ) → Lent (a_frame s x) s []
unfolding a_frame frame_step
lent s x = record { frame_is = refl; old_is = refl; bytes-enough = bytes-enough x; stated-fits = omega arith; numbers-enough = numbers-enough }

pub handed_on : (main : List ℕ) → (slots_header (from_main main) ≡ header_in (f 0).answer) × (slots_info (from_main main) ≡ info_in (f 0).answer)
    × (main_data (from_main main) ≡ main)
unfolding from_main slots_call f frame_answer step
handed_on main = (sym (ap header_in (answers frame_f 0)), sym (ap info_in (answers frame_f 0)), refl)

-- a header at 44.1 kHz, under it the records of a short block and of a mixed one, and numbers that count up from 1
abbrev bytes44 : List ℕ
bytes44 = 0xFF ∷ 0xFB ∷ 0x90 ∷ 0x00 ∷ []

unfoldable header44 : FrameHeader
unfolding step told_or
header44 = told_or no_header (header_of bytes44)

abbrev bits_short : Bool → List Bool
bits_short mixed = replicate 33 false ++ true ∷ true ∷ false ∷ mixed ∷ replicate 22 false

unfoldable short_record : Bool → SlotRecord
unfolding step told_or
short_record mixed = told_or absent (record_of true false (bits_short mixed))

header44-known : is_header header44 ≡ true
unfolding header44 every
header44-known = header-known bytes44 header44 (bytes_of bytes44 refl) refl

short_known : (mixed : Bool) → is_record true false (short_record mixed) ≡ true
unfolding short_record
short_known true = record_known true false (bits_short true) (short_record true) refl
short_known false = record_known true false (bits_short false) (short_record false) refl

abbrev counting : List ℤ
counting = up_from 1 48 ++ replicate 528 (pos 0)

pub short_reordered : (mixed : Bool)
    → (c : ReorderCall) × (is_header (reorder_header c) ≡ true) × ((reorder_header c).rate ≡ Hz44100)
    × (is_record_under (reorder_header c) (reorder_record c) ≡ true)
    × (shape_of (reorder_record c) ≡ shape_by Short mixed) × (per_slot ≤ length (reorder_numbers c))
    × (reorder_numbers c ≡ up_from 1 48 ++ replicate 528 (pos 0))
unfolding reorder_call header44 short_record verdict_of up_from
short_reordered mixed = (
  reorder_call header44 (short_record mixed) counting,
  header44-known,
  refl,
  short_known mixed,
  shape mixed,
  enough,
  refl,
)
  where
    enough : per_slot ≤ length counting
    enough = omega arith

    shape : (mixed : Bool) → shape_of (short_record mixed) ≡ shape_by Short mixed
    shape true = refl
    shape false = refl

pub f-counted : Bytes (frame (f 0)) × (verdict_in (f 0).answer ≡ Ok tt) × (said_of (slot_said (slots_in (f 0).answer) 0) ≡ Some (Ok 6))
unfolding f a_frame frame_step step frame_answer slots_told slot_told said_of
f-counted = (f-bytes, judged frame_f 0, ap (λ (l : List SlotAnswer). said_of (slot_said l 0)) (told_of frame_f 0))

pub side_accepted : (c : SideInfoCall) × (c.answer ≡ Ok info)
unfolding step
side_accepted = (side_info_call header frame_f (Ok info) refl, refl)

pub main_sized : (c : MainSizeCall) × (is_header c.args.0 ≡ true)
main_sized = (record { lifetimes = tt; args = (header, tt); answer = main_size header; exit = (header, tt); promised = refl }, known.0)

pub in_turn : (start : EmptiedCall) × InTurn start.answer (f 0 ∷ [])
unfolding f a_frame frame_step nothing
in_turn = (record { lifetimes = tt; args = tt; answer = nothing; exit = tt; promised = refl }, (refl, f-bytes, tt))

-- ---- Codes: a lookup in table 1, where the bits are the codeword 1 of the pair 0, 0
abbrev looking : LookupCall
looking =
    record {
      lifetimes = ([], tt);
      args = (1, (lend (0x80 ∷ []), (0, (1, tt))));
      answer = word_of 1 (between (0x80 ∷ []) 0 1);
      exit = (1, (lend (0x80 ∷ []), (0, (1, tt))));
      promised = refl;
    }

pub looked : In (entry 0 (true ∷ [])) (published (lookup_table looking)) × (starts (true ∷ []) (lookup_bits looking) ≡ true)
unfolding published codes table1 pair low_bits starts step
looked = (here, refl)

-- ---- Exported: calls made from values; refused for the memory, and, as the frame step, by 13
unfoldable pub exported : (s lent : List ℕ) (stated : ℕ) (d : List ℤ) (rows : List ℕ) → ExportedFrame
exported s lent stated d rows =
    let p = stepIn s lent stated (length d) (length rows) in
    record {
      lifetimes = ([], ([], ([], ([], tt))));
      args = (lend s, (lend_mut lent, (stated, (lend_mut d, (lend_mut rows, tt)))));
      answer = frame_told stated p;
      exit = (
        lend s,
        (
          lend_mut (bytes_after lent (step_kept p)),
          (stated, (lend_mut (numbers_from 0 (step_slots p) d), (lend_mut (rows_after (step_verdict p) (step_info p).slots (slots_told (step_slots p)) rows), tt))),
        ),
      );
      promised = record { answer = refl; bytes = refl; numbers-are = refl; rows_are = refl };
    }

pub exported-refused : (exported [] [] 0 [] []).answer.refusal ≡ 1
unfolding exported stepIn pick frame_told
exported-refused = refl

pub exported-short : (exported (reaching_back 1) (memory 0) 0 zeros (replicate per_rows 0)).answer.refusal ≡ 13
unfolding exported stepIn frame_told step
exported-short = ap (λ (p : Step). (frame_told 0 p).refusal) (passed (no_step UnfitMemory) refl ∙ comes_to (reaching_back 1) 0)

pub exported-slots : (c : ExportedSlots) × (c.answer.refusal ≡ 1)
unfolding slots_step pick verdict_of told_or numbers_from rows_after
exported-slots = (
  record {
    lifetimes = ([], ([], ([], ([], tt))));
    args = (lend [], (lend [], (lend_mut [], (lend_mut [], tt))));
    answer = call_told (Err UnfitMemory);
    exit = (lend [], (lend [], (lend_mut [], (lend_mut [], tt))));
    promised = record { answer = refl; numbers-are = refl; rows_are = refl };
  },
  refl,
)

pub exported-reorder : (c : ExportedReorder) × (c.answer.refusal ≡ 1)
unfolding reorder_step pick verdict_of told_or
exported-reorder = (
  record {
    lifetimes = ([], ([], tt));
    args = (lend [], (0, (lend_mut [], tt)));
    answer = call_told (Err UnfitMemory);
    exit = (lend [], (0, (lend_mut [], tt)));
    promised = record { answer = refl; numbers-are = refl };
  },
  refl,
)

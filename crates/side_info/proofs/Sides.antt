-- A frame's side information by its layout: where its parts stand among the frame's bits, and what the slots' records decide.
use Rattle.std.specs.Prelude.{Result, Ok, Err}
use mathlib.Core.Path.{◌≡◌, refl, sym, ap, ◌∙◌}
use mathlib.Core.Bool.{Bool, true, false}
use mathlib.Core.List.{List, ◌++◌}
use Prim.Native.Nat.{ℕ, ◌+◌, ◌-◌, ◌*◌, ◌≤◌}
use native.Mathlib.Omega.{arith}
use lib.ListN.{take, drop, replicate}
use Rattle.standard.specs.ToldLaws.{told_is}
use Rattle.standard.proofs.RefusalsLaws.{apart, one-reason}
use Rattle.standard.specs.Bits.{bits, field, field_at}
use Rattle.standard.specs.BitsLaws.{one-le, drop_bits, take-bits, field-bits}
use Rattle.standard.specs.Header.{is_mpeg1, is_two, header_size, side_bytes, side_size}
use Rattle.standard.specs.Record.{record_width}
use Rattle.standard.specs.SideInfo.{begin_width, shares_at, share_count, slot_count, records_of, then_side, side_in}
use Rattle.standard.specs.declared.FrameHeader.{FrameHeader}
use Rattle.standard.specs.declared.SlotRecord.{SlotRecord}
use Rattle.standard.specs.declared.Refusal.{Refusal}
use Rattle.record_check.specs.declared.layout.Layout.{Layout}
use Rattle.record_check.specs.Layouts.{layout_of}
use Rattle.side_info.specs.Parts.{filled}

-- ---- the layout
-- main_data_begin, what is skipped, the sharing bits and the records are all
full : (mpeg1 two : Bool) → shares_at mpeg1 two + share_count mpeg1 two + slot_count mpeg1 two * record_width mpeg1 ≡ 8 * side_bytes mpeg1 two
full true true = refl
full true false = refl
full false true = refl
full false false = refl

few : (mpeg1 two : Bool) → side_bytes mpeg1 two ≤ 32
few true true = omega arith
few true false = omega arith
few false true = omega arith
few false false = omega arith

-- ---- what the records decide
module _ (mpeg1 two : Bool) (b : List Bool) where
  side_none : {k : Refusal} (t : Result (List SlotRecord) Refusal) → filled (slot_count mpeg1 two) t ≡ Err k → then_side mpeg1 two b t ≡ Err k
  unfolding then_side
  side_none (Err k) e = ap Err (one-reason e)
  side_none (Ok rs) e = apart (sym e)

  side_all : {slots : List SlotRecord} (t : Result (List SlotRecord) Refusal) → filled (slot_count mpeg1 two) t ≡ Ok slots
      → then_side mpeg1 two b t
      ≡ Ok (record {
        main_data_begin = field b 0 (begin_width mpeg1);
        scfsi = take (share_count mpeg1 two) (drop (shares_at mpeg1 two) b)
            ++ replicate (8 - share_count mpeg1 two) false;
        slots = slots;
      })
  unfolding then_side
  side_all {slots} (Err k) e = apart e
  side_all {slots} (Ok rs) e =
      λ j. Ok
      (record {
        main_data_begin = field b 0 (begin_width mpeg1);
        scfsi = take (share_count mpeg1 two) (drop (shares_at mpeg1 two) b)
            ++ replicate (8 - share_count mpeg1 two) false;
        slots = told_is e j;
      })

-- ---- where the parts stand
module _ (mpeg1 two slow : Bool) (s : List ℕ) (at : ℕ) where
  abbrev b : List Bool
  b = bits s at (8 * side_bytes mpeg1 two)

  abbrev n : ℕ
  n = slot_count mpeg1 two

  abbrev p : ℕ
  p = shares_at mpeg1 two

  abbrev m : ℕ
  m = share_count mpeg1 two

  records-there : records_of mpeg1 slow n (drop (p + m) b) ≡ records_of mpeg1 slow n (bits s (at + p + m) (n * record_width mpeg1))
  records-there =
      let q : at + (p + m) ≡ at + p + m = omega arith in
      let r : 8 * side_bytes mpeg1 two - (p + m) ≡ n * record_width mpeg1 = omega (arith, full mpeg1 two) in
      ap (records_of mpeg1 slow n) (drop_bits (p + m) s at (8 * side_bytes mpeg1 two) ∙ (λ j. bits s (q j) (r j)))

  shares_there : take m (drop p b) ≡ bits s (at + p) m
  shares_there = ap (take m) (drop_bits p s at (8 * side_bytes mpeg1 two)) ∙ take-bits m s (at + p) (8 * side_bytes mpeg1 two - p) (omega (arith, full mpeg1 two))

  begin_there : field b 0 (begin_width mpeg1) ≡ field_at s at (begin_width mpeg1)
  begin_there =
      let q : at + 0 ≡ at = omega arith in
      field-bits s at (8 * side_bytes mpeg1 two) 0 (begin_width mpeg1) (omega (arith, full mpeg1 two)) ∙ ap (λ (a : ℕ). field_at s a (begin_width mpeg1)) q

  there : {l : Layout} {r : Result (List SlotRecord) Refusal} → l ≡ layout_of mpeg1 two
      → r ≡ filled l.slots (records_of mpeg1 slow l.slots (bits s (at + l.prefix + l.shares) (l.slots * record_width mpeg1)))
      → filled n (records_of mpeg1 slow n (drop (p + m) b)) ≡ r
  there e h = sym (rw records-there (rw e at h))

  pub side_refused : {l : Layout} {r : Refusal} → l ≡ layout_of mpeg1 two
      → Err r ≡ filled l.slots (records_of mpeg1 slow l.slots (bits s (at + l.prefix + l.shares) (l.slots * record_width mpeg1)))
      → Err r ≡ side_in mpeg1 two slow (bits s at (8 * side_bytes mpeg1 two))
  unfolding side_in
  side_refused e h = sym (side_none mpeg1 two b (records_of mpeg1 slow n (drop (p + m) b)) (there e h))

  pub side_told : {l : Layout} {slots : List SlotRecord} → l ≡ layout_of mpeg1 two
      → Ok slots ≡ filled l.slots (records_of mpeg1 slow l.slots (bits s (at + l.prefix + l.shares) (l.slots * record_width mpeg1)))
      → Ok (record {
        main_data_begin = field_at s at l.main_data_begin;
        scfsi = bits s (at + l.prefix) l.shares
            ++ replicate (8 - l.shares) false;
        slots = slots;
      })
      ≡ side_in mpeg1 two slow (bits s at (8 * side_bytes mpeg1 two))
  unfolding side_in
  side_told {l} {slots} e h =
      sym
      (side_all mpeg1 two b (records_of mpeg1 slow n (drop (p + m) b)) (there e h)
      ∙ (λ j. Ok (record { main_data_begin = begin_there j; scfsi = shares_there j ++ replicate (8 - m) false; slots = slots }))
      ∙ ap (λ (k : Layout). Ok
      (record {
        main_data_begin = field_at s at k.main_data_begin;
        scfsi = bits s (at + k.prefix) k.shares
            ++ replicate (8 - k.shares) false;
        slots = slots;
      })) (sym e))

-- ---- how far the side information reaches
pub header_small : (h : FrameHeader) → header_size h ≤ 6
unfolding header_size
header_small h = omega (arith, one-le h.crc)

pub side_small : (h : FrameHeader) → side_size h ≤ 32
unfolding side_size
side_small h = few (is_mpeg1 h.version) (is_two h.channels)

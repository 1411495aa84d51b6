-- A header, side information or a record handed in is refused by 14 exactly when no bytes read to it: the check answers yes exactly when there
-- are bytes from which the reading call answers that very header, that side information under that header, or side information that has
-- that record for one of the frame's slots.
-- Proved over the promises of is_header, is_side_info, is_record, read_frame_header and read_side_info, from HeaderBytes and SideBytes of
-- `standard`, where the bytes are written down. Bytes are numbers below 256.
use Rattle.std.specs.Prelude.{Ok}
use mathlib.Core.Path.{◌≡◌, refl, sym, ap, ◌∙◌}
use mathlib.Core.Bool.{true, false}
use mathlib.Core.Logic.{◌↔◌}
use mathlib.Core.List.{List}
use Prim.Native.Nat.{ℕ, ◌*◌, ◌<◌}
use lib.ListN.{get_or}
use Rattle.standard.specs.Written.{Bytes}
use Rattle.standard.specs.Header.{header_of, is_header, is_mpeg1, is_slow, granules, channel_count}
use Rattle.standard.proofs.HeaderBytes.{header_read, header-known}
use Rattle.standard.specs.Record.{absent, shape_of, is_mixed}
use Rattle.standard.specs.SideInfo.{side_of}
use Rattle.standard.proofs.SideBytes.{side_read, slot_read}
use Rattle.standard.proofs.RecordBits as record-laws
use Rattle.standard.specs.declared.FrameHeader.{FrameHeader}
use Rattle.standard.specs.declared.SampleRate.TheVariants.{Hz8000}
use Rattle.standard.specs.declared.BlockType.TheVariants.{Long}
use Rattle.standard.specs.declared.SideInfo.{SideInfo}
use Rattle.demands.proofs.Calls.{IsHeaderCall, IsSideInfoCall, IsRecordCall, HeaderCall, SideInfoCall}
use Rattle.demands.proofs.Made.{header_call, side_info_call}

-- ---- a call of read_frame_header on bytes that answers this header
pub record ReadsHeader (s : List ℕ) (h : FrameHeader) : Type 0 where
  pub call : HeaderCall
  pub on : call.args.0.now ≡ s
  pub answers : call.answer ≡ Ok h

reads_header : {s : List ℕ} {h : FrameHeader} → header_of s ≡ Ok h → ReadsHeader s h
reads_header {s} {h} e = record { call = header_call s (Ok h) (sym e); on = refl; answers = refl }

header-told : {s : List ℕ} {h : FrameHeader} → ReadsHeader s h → header_of s ≡ Ok h
header-told r = ap header_of (sym r.on) ∙ sym r.call.promised ∙ r.answers

-- ---- and of read_side_info, under a header
pub record ReadsSide (s : List ℕ) (h : FrameHeader) (i : SideInfo) : Type 0 where
  pub call : SideInfoCall
  pub under : call.args.0 ≡ h
  pub on : call.args.1.0.now ≡ s
  pub answers : call.answer ≡ Ok i

reads_side : {s : List ℕ} {h : FrameHeader} {i : SideInfo} → side_of h s ≡ Ok i → ReadsSide s h i
reads_side {s} {h} {i} e = record { call = side_info_call h s (Ok i) (sym e); under = refl; on = refl; answers = refl }

pub side_told : {s : List ℕ} {h : FrameHeader} {i : SideInfo} → ReadsSide s h i → side_of h s ≡ Ok i
side_told r = sym (λ j. side_of (r.under j) (r.on j)) ∙ sym r.call.promised ∙ r.answers

-- ---- the three statements
pub header-accepted : (c : IsHeaderCall) → (c.answer ≡ true) ↔ ((s : List ℕ) × Bytes s × ReadsHeader s c.args.0)
header-accepted c = (
  λ e. let w = (header_read c.args.0).0 (sym c.promised ∙ e) in (w.0, w.1, reads_header w.2),
  λ w. c.promised ∙ header-known w.0 c.args.0 w.1 (header-told w.2),
)

pub side_accepted : (c : IsSideInfoCall) → is_header c.args.0 ≡ true
    → (c.answer ≡ true) ↔ ((s : List ℕ) × Bytes s × ReadsHeader s c.args.0 × ReadsSide s c.args.0 c.args.1.0)
side_accepted c known =
    let both = side_read c.args.0 c.args.1.0 known in (
      λ e. let w = both.0 (sym c.promised ∙ e) in (w.0, w.1, reads_header w.2, reads_side w.3),
      λ w. c.promised ∙ both.1 (w.0, w.1, header-told w.2, side_told w.3),
    )

pub record_accepted : (c : IsRecordCall) → is_header c.args.0 ≡ true
    → (c.answer ≡ true)
    ↔ ((s : List ℕ) × (i : SideInfo) × (n : ℕ) × Bytes s × (n < granules c.args.0 * channel_count c.args.0) × ReadsHeader s c.args.0
    × ReadsSide s c.args.0 i
    × (get_or i.slots n absent ≡ c.args.1.0))
record_accepted c known =
    let both = slot_read c.args.0 c.args.1.0 known in (
      λ e. let w = both.0 (sym c.promised ∙ e) in (w.0, w.1, w.2, w.3, w.4, reads_header w.5, reads_side w.6, w.7),
      λ w. c.promised ∙ both.1 (w.0, w.1, w.2, w.3, w.4, header-told w.5, side_told w.6, w.7),
    )

-- ---- and of mixed_block_flag: a record of a window that is not switched has it not, nor has at 8 kHz that of a short block
pub long-unflagged : (c : IsRecordCall) → c.answer ≡ true → c.args.1.0.block_type ≡ Long → c.args.1.0.mixed_block_flag ≡ false
long-unflagged c e = record-laws.long-unflagged (is_mpeg1 c.args.0.version) (is_slow c.args.0.rate) c.args.1.0 (sym c.promised ∙ e)

pub slow_unmixed : (c : IsRecordCall) → c.answer ≡ true → c.args.0.rate ≡ Hz8000 → is_mixed (shape_of c.args.1.0) ≡ false
slow_unmixed c e f =
    record-laws.slow_unmixed (is_mpeg1 c.args.0.version) (is_slow c.args.0.rate) c.args.1.0 (sym c.promised ∙ e) (ap is_slow f)

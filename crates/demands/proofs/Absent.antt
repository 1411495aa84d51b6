-- Refusal 2: it is given exactly when a byte is needed and absent before any other fault shows, and tells the first such byte; where there is a header
-- this place is within the frame. Which bytes are needed is counted in Needs of `standard`, apart from the reading.
-- Proved over the promises of read_frame_header, read_side_info and process_frame, from NeedsLaws of `standard`.
use Rattle.std.specs.Prelude.{Result, Ok, Err}
use mathlib.Core.Path.{◌≡◌, sym, ap, ◌∙◌}
use mathlib.Core.Logic.{◌↔◌}
use mathlib.Core.Bool.{true}
use Prim.Native.Nat.{ℕ, ◌+◌, ◌≤◌, ◌<◌}
use lib.ListN.{length, take}
use Rattle.standard.specs.Sizes.{per_frame, reservoir_bytes}
use Rattle.standard.specs.Told.{verdict_of, Verdict}
use Rattle.standard.proofs.RefusalsLaws.{refused_for_lem}
use Rattle.standard.specs.Written.{Bytes}
use Rattle.standard.specs.Header.{header_of, is_header, header_size, side_size, frame_length}
use Rattle.standard.specs.SideInfo.{needed_from}
use Rattle.standard.specs.Frame.{step_verdict, frame_of}
use Rattle.standard.proofs.FrameLaws.{call_fits}
use Rattle.standard.specs.Needs.{header_needs, frame_needs, FirstAbsent}
use Rattle.standard.proofs.NeedsLaws.{header-absent, side_absent, absent-exactly, absent-within}
use Rattle.standard.specs.declared.FrameHeader.{FrameHeader}
use Rattle.standard.specs.declared.Refusal.{Refusal}
use Rattle.standard.specs.declared.Refusal.TheVariants.{AbsentBytes}
use Rattle.demands.proofs.Calls.{HeaderCall, header_frame, SideInfoCall, side_header, side_frame, verdict_in, FrameStep, frame, bytes, reservoir, numbers}
use Rattle.demands.proofs.Stored.{verdict_by}

-- what holds of one answer holds of its equal
same_verdict : {v w r : Verdict} {A : Type 0} → v ≡ w → (w ≡ r) ↔ A → (v ≡ r) ↔ A
same_verdict e f = (λ p. f.0 (sym e ∙ p), λ a. e ∙ f.1 a)

-- and of a reading that is refused, by its verdict
same_reading : {A P : Type 0} {t u : Result A Refusal} {r : Refusal} → t ≡ u → (verdict_of u ≡ Err r) ↔ P → (t ≡ Err r) ↔ P
unfolding verdict_of
same_reading {u = u} e f = (λ p. f.0 (ap verdict_of (sym e ∙ p)), λ a. e ∙ refused_for_lem u (f.1 a))

-- ---- a header
pub header-absent_bytes : (c : HeaderCall) (n : ℕ) → (c.answer ≡ Err (AbsentBytes n)) ↔ FirstAbsent 0 (header_needs (header_frame c)) (header_frame c) n
header-absent_bytes c n = same_reading c.promised (header-absent (header_frame c) n)

-- ---- side information under a header that bytes read to: of the header's own bytes those are needed that a CRC covers, and this
pub side_absent_bytes : (c : SideInfoCall) (n : ℕ) → is_header (side_header c) ≡ true
    → (c.answer ≡ Err (AbsentBytes n))
    ↔ FirstAbsent (needed_from (side_header c).crc (header_size (side_header c))) (header_size (side_header c) + side_size (side_header c)) (side_frame c) n
side_absent_bytes c n known = same_reading c.promised (side_absent (side_header c) known (side_frame c) n)

-- ---- a frame, with enough memory lent
module _ (c : FrameStep) (enough : reservoir_bytes ≤ length (bytes c)) (stated : (reservoir c).length ≤ reservoir_bytes) (room : per_frame ≤ length (numbers c))
    (b : Bytes (frame c)) where
  is_frame : verdict_in c.answer ≡ step_verdict (frame_of (frame c) (take (reservoir c).length (bytes c)))
  is_frame =
      verdict_by c.promised
      ∙ ap step_verdict (call_fits (frame c) (bytes c) (reservoir c).length (length (numbers c)) enough stated room)

  pub frame-absent_bytes : (n : ℕ) → (verdict_in c.answer ≡ Err (AbsentBytes n)) ↔ FirstAbsent 0 (frame_needs (frame c)) (frame c) n
  frame-absent_bytes n = same_verdict is_frame (absent-exactly (frame c) (take (reservoir c).length (bytes c)) b n)

  pub within_frame : {h : FrameHeader} (n : ℕ) → header_of (frame c) ≡ Ok h → verdict_in c.answer ≡ Err (AbsentBytes n) → n < frame_length h
  within_frame n e q = absent-within (frame c) (take (reservoir c).length (bytes c)) b n e (sym is_frame ∙ q)

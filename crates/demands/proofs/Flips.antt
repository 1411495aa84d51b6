-- One flipped bit under a CRC: where some bytes read to a header with a CRC and to side information, the frame of the same bytes but for one bit is
-- refused by 16, if that bit is of the side information or of the CRC, or of the header's third and fourth byte and these still read to a header whose
-- sizes are as they were. The first two bytes are not covered, nor is main data; of more flipped bits nothing is said, and some pairs of them pass.
-- Proved over the promise of process_frame, from FlipLaws of `standard`.
use Rattle.std.specs.Prelude.{Ok, Err}
use mathlib.Core.Path.{◌≡◌, refl, ap, ◌∙◌}
use mathlib.Core.Bool.{true}
use mathlib.Core.List.{List}
use Prim.Native.Nat.{ℕ, ◌+◌, ◌*◌, ◌≤◌, ◌<◌}
use native.Mathlib.Omega.{arith}
use lib.ListN.{length, take}
use Rattle.standard.specs.Sizes.{per_frame, reservoir_bytes}
use Rattle.standard.specs.Written.{Bytes}
use Rattle.standard.specs.Header.{header_of, header_size, side_size}
use Rattle.standard.proofs.HeaderBytes.{header-known}
use Rattle.standard.specs.SideInfo.{side_of}
use Rattle.standard.specs.Frame.{step_verdict}
use Rattle.standard.proofs.FrameLaws.{call_fits}
use Rattle.standard.proofs.FlipLaws.{Flipped, flip_step, header-same}
use Rattle.standard.specs.declared.FrameHeader.{FrameHeader}
use Rattle.standard.specs.declared.SideInfo.{SideInfo}
use Rattle.standard.specs.declared.Refusal.TheVariants.{WrongCrc}
use Rattle.demands.proofs.Calls.{verdict_in, FrameStep, frame, bytes, reservoir, numbers}
use Rattle.demands.proofs.Stored.{verdict_by}

module _ {s : List ℕ} {h : FrameHeader} {x : SideInfo} (are : Bytes s) (header : header_of s ≡ Ok h) (has : h.crc ≡ true) (info : side_of h s ≡ Ok x)
    (c : FrameStep) (enough : reservoir_bytes ≤ length (bytes c)) (stated : (reservoir c).length ≤ reservoir_bytes) (room : per_frame ≤ length (numbers c))
    (b : Bytes (frame c)) {i : ℕ} (f : Flipped s (frame c) i) (within : i < 8 * (header_size h + side_size h)) where
  -- of the header, as far as it leaves the sizes
  pub of_header : 16 ≤ i → {g : FrameHeader} → header_of (frame c) ≡ Ok g → header_size g ≡ header_size h → side_size g ≡ side_size h
      → verdict_in c.answer ≡ Err WrongCrc
  of_header covers {g} e front side =
      verdict_by c.promised
      ∙ ap step_verdict
      (call_fits (frame c) (bytes c) (reservoir c).length (length (numbers c)) enough stated room
      ∙ flip_step h (header-known s h are header) has info f within covers e (header-known (frame c) g b e) front side (take (reservoir c).length (bytes c)))

  -- of the CRC or the side information
  pub after-header : 32 ≤ i → verdict_in c.answer ≡ Err WrongCrc
  after-header after = of_header (omega arith) (header-same f are b after ∙ header) refl refl

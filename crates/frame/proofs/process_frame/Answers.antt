-- `frame::process_frame` meets its contract: its tests are the definition's, and the first that fails decides.
-- Assumes nothing.
use Rattle.std.proofs.Common.{refl, sym, ◌∙◌, ℕ, ◌*◌, ◌≤◌, length, arith, subst}
use Rattle.std.specs.Result.{IsErr}
use Rattle.standard.specs.Frame.{step_slots}
use Rattle.standard.proofs.StepLaws.{call_room}
use Rattle.standard.proofs.FrameLaws.{call_few_bytes, call_much_stated, call_few_numbers, call_fits, step-refused, frame-no_header}
use Rattle.frame.proofs.Rest.{put_back, all_read}
use Rattle.frame.proofs.process_frame.Goals as goal

pub returns-then-bytes-lt-RESERVOIR_BYTES : goal.returns-then-bytes-lt-RESERVOIR_BYTES
returns-then-bytes-lt-RESERVOIR_BYTES c = step-refused (call_few_bytes _ _ _ _ c.if-bytes-lt-RESERVOIR_BYTES.true) refl refl refl refl

pub returns-then-reservoir-gt-RESERVOIR_BYTES : goal.returns-then-reservoir-gt-RESERVOIR_BYTES
returns-then-reservoir-gt-RESERVOIR_BYTES c = step-refused (call_much_stated _ _ _ _ c.if-reservoir-gt-RESERVOIR_BYTES.true) refl refl refl refl

pub returns-in_default : goal.returns-in_default
returns-in_default c = step-refused (call_few_numbers _ _ _ _ c.in_default.ensures.cases) refl refl refl refl

pub unwrap_err-requires : goal.unwrap_err-requires
unwrap_err-requires c = subst IsErr (sym c.in_default-read.is) refl

pub returns-in_default-read : goal.returns-in_default-read
returns-in_default-read c =
    step-refused
    (call_fits _ _ _ _ c.if-bytes-lt-RESERVOIR_BYTES.false c.if-reservoir-gt-RESERVOIR_BYTES.false c.in-Some.ensures.cases.enough
    ∙ frame-no_header _ _ (sym c.read_frame_header-read.ensures ∙ c.unwrap_err.ensures))
    refl refl refl (put_back _ _ c.in-Some.ensures.cases)

pub with_header-requires : goal.with_header-requires
with_header-requires c = (
  c.if-bytes-lt-RESERVOIR_BYTES.false,
  c.if-reservoir-gt-RESERVOIR_BYTES.false,
  sym c.read_frame_header-read.ensures ∙ c.in-Ok.is,
)

pub returns : goal.returns
returns c =
    let a = c.args in
    let chunk = c.in-Some.ensures.cases in
    let call = λ (d : ℕ). call_fits a.frame.now a.bytes.now a.reservoir.now.length d c.if-bytes-lt-RESERVOIR_BYTES.false
    c.if-reservoir-gt-RESERVOIR_BYTES.false in
    let room = subst (λ p. 576 * length (step_slots p) ≤ 2304) (call 2304 (omega arith)) (call_room a.frame.now a.bytes.now a.reservoir.now.length 2304) in
    rw (call _ chunk.enough) (all_read _ chunk room c.with_header.ensures)

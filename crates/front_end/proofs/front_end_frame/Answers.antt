-- `front_end_frame` meets its contract: the frame is the frame step's, and its answer is laid out. Assumes nothing.
use mathlib.Core.Path.{refl, sym, ap, ◌∙◌}
use Rattle.std.specs.Prelude.{Err}
use Rattle.standard.specs.declared.FrameRefusal.{FrameRefusal}
use Rattle.standard.specs.declared.FrameRefusal.TheVariants.{Unread, OutOfReach}
use Rattle.standard.specs.declared.FrameHead.{FrameHead}
use Rattle.standard.specs.declared.Refusal.{Refusal}
use Rattle.front_end.specs.Calls.{rows_from}
use Rattle.front_end.proofs.Laws.{rows_back, frame-few, frame-done, room_few, room_fits}
use Rattle.front_end.proofs.front_end_frame.Goals as goal

pub returns-in_default : goal.returns-in_default
returns-in_default c = frame-few (room_few _ _ _ _ _ c.in_default.ensures.cases) c.frame_unread.ensures refl refl refl

pub returns-in-Ok : goal.returns-in-Ok
returns-in-Ok c =
    let f = c.in-Ok.f in
    frame-done (room_fits _ _ _ _ _ c.in-Some.ensures.cases.enough) c.process_frame.ensures c.in-Ok.is c.frame_told.ensures
    (c.put_rows.ensures _ ∙ ap (rows_from 0 f.head.info.slots f.slots) (rows_back c.args.rows.now c.in-Some.ensures.cases))

pub returns-in-Err-OutOfReach : goal.returns-in-Err-OutOfReach
returns-in-Err-OutOfReach c =
    frame-done (room_fits _ _ _ _ _ c.in-Some.ensures.cases.enough) c.process_frame.ensures
    (c.in-Err-OutOfReach.is ∙ ap (λ (x : FrameRefusal). Err x) (c.in-Err-OutOfReach.field-0-is ∙ ap (λ (x : FrameHead). OutOfReach x) (sym c.in-Err-OutOfReach.head-is))) c.frame_told-in-Err-OutOfReach.ensures
    (rows_back c.args.rows.now c.in-Some.ensures.cases)

pub returns-in-Err-Unread : goal.returns-in-Err-Unread
returns-in-Err-Unread c =
    frame-done (room_fits _ _ _ _ _ c.in-Some.ensures.cases.enough) c.process_frame.ensures
    (c.in-Err-Unread.is ∙ ap (λ (x : FrameRefusal). Err x) (c.in-Err-Unread.field-0-is ∙ ap (λ (x : Refusal). Unread x) (sym c.in-Err-Unread.why-is))) c.frame_unread-in-Err-Unread.ensures
    (rows_back c.args.rows.now c.in-Some.ensures.cases)

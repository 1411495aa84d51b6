-- `frame::with_main` meets its contract: what is left of the reservoir is what the slots are read from.
-- Assumes nothing.
use Rattle.std.proofs.Common.{refl, sym, ap, ℕ, Ok, Err, length-take-le}
use Rattle.standard.specs.declared.FrameRefusal.TheVariants.{OutOfReach}
use Rattle.standard.proofs.FrameLaws.{kept_within, step-short, step-full}
use Rattle.frame.proofs.Stages.{fits_turn}
use Rattle.frame.proofs.with_main.Goals as goal

pub returns-in_default : goal.returns-in_default
returns-in_default c =
    step-short c.args.h c.args.i _ refl
    (fits_turn c.args.h c.args.i c.args.main.now c.requires.0 c.requires.1 c.requires.2 c.requires.3 c.requires.4 c.turn.ensures) c.in_default.is
    (ap (λ (n : ℕ). Err (OutOfReach (record { header = c.args.h; info = c.args.i; length = n }))) c.frame_length.ensures) refl

pub slice_bounds-slots_from-end : goal.slice_bounds-slots_from-end
slice_bounds-slots_from-end c =
    kept_within _
    (fits_turn c.args.h c.args.i c.args.main.now c.requires.0 c.requires.1 c.requires.2 c.requires.3 c.requires.4 c.turn.ensures)

pub slice_bounds-slots_from-end-2 : goal.slice_bounds-slots_from-end-2
slice_bounds-slots_from-end-2 c =
    sym
    (length-take-le _ _
    (kept_within _
    (fits_turn c.args.h c.args.i c.args.main.now c.requires.0 c.requires.1 c.requires.2 c.requires.3 c.requires.4 c.turn.ensures)))

pub returns : goal.returns
returns c =
    step-full c.args.h c.args.i _ refl
    (fits_turn c.args.h c.args.i c.args.main.now c.requires.0 c.requires.1 c.requires.2 c.requires.3 c.requires.4 c.turn.ensures) c.in-Ok.is
    c.slots_from-slots.ensures
    (ap (λ (n : ℕ). Ok (record { head = record { header = c.args.h; info = c.args.i; length = n }; slots = c.slots_from-slots.result }))
    c.frame_length.ensures)

-- `frame::read_slots` meets its contract: its tests are the definition's.
-- Assumes nothing.
use Rattle.std.proofs.Common.{refl, sym, ◌∙◌, ◌&&◌, arith}
use Rattle.standard.specs.ToldLaws.{both_of}
use Rattle.standard.proofs.SlotsLaws.{length-slots, few_numbers, made-up_call, read-call, slots-refused, slots-told}
use Rattle.standard.proofs.SlotBounds.{slots-le}
use Rattle.frame.proofs.Rest.{put_back, all_slots}
use Rattle.frame.proofs.read_slots.Goals as goal

pub returns-in_default : goal.returns-in_default
returns-in_default c = slots-refused (few_numbers _ _ _ _ c.in_default.ensures.cases) refl refl

pub slots_from-slots-requires : goal.slots_from-slots-requires
slots_from-slots-requires c =
    let both = both_of c.is_header.result _ c.if-is_header-is_side_info.true in
    sym c.is_side_info.ensures ∙ both.1

pub returns-then-is_header-is_side_info : goal.returns-then-is_header-is_side_info
returns-then-is_header-is_side_info c =
    let both = both_of c.is_header.result _ c.if-is_header-is_side_info.true in
    slots-told
    (read-call _ _ _ _ c.in-Some.ensures.cases.enough (sym c.is_header.ensures ∙ both.0) (sym c.is_side_info.ensures ∙ both.1))
    refl (c.slots_from-slots.ensures.0, all_slots _ _ c.in-Some.ensures.cases (omega (arith, length-slots c.args.h c.args.i c.args.main.now, slots-le c.args.h c.args.i)) c.slots_from-slots.ensures.1)

pub returns : goal.returns
returns c =
    slots-refused
    (made-up_call _ _ _ _ c.in-Some.ensures.cases.enough
    ((λ j. sym c.is_header.ensures j && sym c.is_side_info.ensures j) ∙ c.if-is_header-is_side_info.false)) refl (put_back _ _ c.in-Some.ensures.cases)

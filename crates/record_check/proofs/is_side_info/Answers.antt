-- `record_check::is_side_info` meets its contract: the definition's three tests, at the widths and counts of the layout.
-- Assumes nothing.
use mathlib.Core.Path.{◌∙◌}
use native.Mathlib.Omega.{arith}
use Rattle.record_check.specs.Layouts.{layout_of}
use Rattle.record_check.proofs.Tests.{side_is}
use Rattle.record_check.proofs.is_side_info.Goals as goal

pub returns : goal.returns
returns c =
    let e = c.layout_of-l.ensures.same ∙ (λ j. layout_of (c.is_mpeg1.ensures j) (c.is_two.ensures j)) in
    side_is c.args.h c.args.i e (omega (arith, c.layout_of-l.ensures.begin_few)) c.no_shares-shares.ensures c.slots_fit-slots.ensures

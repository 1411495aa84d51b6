-- `side_info::side::read_bits` meets its contract: the parts stand where the layout says, and the slots' records decide.
-- Assumes nothing.
use Rattle.std.proofs.Common.{sym, ◌∙◌}
use Rattle.std.proofs.lemmas.Result.{err_from_is_err_and}
use Rattle.record_check.specs.Layouts.{layout_of}
use Rattle.side_info.proofs.Cuts.{whole}
use Rattle.side_info.proofs.Sides.{side_refused, side_told}
use Rattle.side_info.proofs.side.read_bits.Goals as goal

pub returns-in_err-slots : goal.returns-in_err-slots
returns-in_err-slots c =
    let e = c.layout_of-l.ensures.same ∙ (λ j. layout_of (c.is_mpeg1.ensures j) (c.is_two.ensures j)) in
    let p = err_from_is_err_and c.from_residual.result c.from_residual.ensures.1 in
    rw (p.1, p.2, sym c.header_size-at.ensures) (side_refused _ _ _ _ _ e (sym c.in_err-slots.was ∙ c.read_records.ensures))

pub returns : goal.returns
returns c =
    let e = c.layout_of-l.ensures.same ∙ (λ j. layout_of (c.is_mpeg1.ensures j) (c.is_two.ensures j)) in
    rw (whole _ _ c.layout_of-l.ensures.begin_few c.field-begin.ensures, c.read_shares-shares.ensures, sym c.header_size-at.ensures)
    (side_told _ _ _ _ _ e (sym c.in_ok-slots.was ∙ c.read_records.ensures))

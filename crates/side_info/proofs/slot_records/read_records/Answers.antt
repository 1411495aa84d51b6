-- `side_info::slot_records::read_records` meets its contract. The loop's invariant, `RecordsLoop`: what was read stands in the first slots, and
-- with what remains it is the whole.
-- Assumes nothing.
use Rattle.std.proofs.Common.{sym, ap, ◌∙◌, arith}
use Rattle.std.proofs.lemmas.Result.{err_from_is_err_and}
use Rattle.standard.specs.Record.{record_width}
use Rattle.side_info.proofs.Loops.{records-begin, records-stop, records-turn, records-end}
use Rattle.side_info.proofs.slot_records.read_records.Goals as goal

pub loop-i-init : goal.loop-i-init
loop-i-init c = rw c.absent_record-slots.ensures (records-begin _ _ _ _ _)

pub returns-in_err-slots : goal.returns-in_err-slots
returns-in_err-slots c =
    let p = err_from_is_err_and c.from_residual.result c.from_residual.ensures.1 in
    rw (p.1, p.2) (records-stop c.loop-i.invariant (sym c.read_record.ensures ∙ c.in_err-slots.was) c.loop-i-test.true)

pub loop-i-preserved : goal.loop-i-preserved
loop-i-preserved c =
    records-turn c.loop-i.invariant (sym c.read_record.ensures ∙ c.in_ok-slots.was) (c.record_width-w.ensures ∙ ap record_width c.is_mpeg1.ensures)
    c.loop-i-test.true c.requires

pub returns : goal.returns
returns c = records-end c.loop-i.invariant (omega arith)

-- `side_info::slot_records::read_records` meets its contract. The loop's invariant, `RecordsLoop`: what was read stands in the first slots, and
-- with what remains it is the whole.
-- Assumes nothing.
use Rattle.standard.specs.Header.{is_mpeg1, is_slow}
use Rattle.side_info.proofs.Loops.{RecordsLoop}
use Rattle.side_info.proofs.slot_records.read_records.Given as goal

abbrev pub invariant-loop-i : goal.invariant-loop-i
invariant-loop-i l = RecordsLoop (is_mpeg1 l.h.version) (is_slow l.h.rate) l.n l.s l.start l.slots l.at l.i

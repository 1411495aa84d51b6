-- `put_bytes` meets its contract. The loop's invariant: i bytes are copied. Assumes nothing.
use Rattle.standard.specs.CopyLaws.{Copying}
use Rattle.front_end.proofs.rows.put_bytes.Given as goal

abbrev pub invariant-loop-i : goal.invariant-loop-i
invariant-loop-i l = Copying l.bytes l.initial.row l.row l.at l.i

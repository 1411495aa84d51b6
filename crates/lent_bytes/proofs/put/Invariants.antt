-- `lent_bytes::put` meets its contract. The loop's invariant: i bytes of the list stand where they belong, and what lies beyond is as it was.
-- Assumes nothing.
use Rattle.standard.specs.CopyLaws.{Copying}
use Rattle.lent_bytes.proofs.put.Given as goal

abbrev pub invariant-loop-i : goal.invariant-loop-i
invariant-loop-i l = Copying l.bytes l.initial.lent l.lent l.start l.i

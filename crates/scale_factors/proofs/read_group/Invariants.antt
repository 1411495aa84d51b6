-- `scale_factors::read_group` meets its contract. The loop's invariant: what is written, with what is left of the group, is the whole.
-- Assumes nothing.
use Rattle.scale_factors.proofs.Reading.{InGroup}
use Rattle.scale_factors.proofs.read_group.Given as goal

abbrev pub invariant-loop-i : goal.invariant-loop-i
invariant-loop-i l = InGroup l.g l.old l.s l.at l.initial.fs l.first l.fs l.place l.i

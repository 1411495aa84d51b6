-- `scale_factors::read_plan` meets its contract. The loop's invariant: what is written, with the groups that are left, is the whole.
-- Assumes nothing.
use lib.ListN.{drop, replicate}
use Rattle.scale_factors.proofs.Reading.{InPlan}
use Rattle.scale_factors.proofs.read_plan.Given as goal

abbrev pub invariant-loop-group : goal.invariant-loop-group
invariant-loop-group l = InPlan l.fn.p l.old l.s l.at (replicate 36 0) l.fs l.place l.done (drop l.group-index l.fn.p.groups)

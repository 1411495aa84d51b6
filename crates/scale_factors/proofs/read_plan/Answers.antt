-- `scale_factors::read_plan` meets its contract. The loop's invariant: what is written, with the groups that are left, is the whole.
-- Assumes nothing.
use mathlib.Core.Path.{◌≡◌}
use native.Mathlib.Omega.{arith}
use lib.ListN.{length}
use borrow.Author.Rules.{rules}
use Rattle.scale_factors.proofs.Reading.{plan-begin, plan-group, plan-turn, plan-end}
use Rattle.scale_factors.proofs.read_plan.Goals as goal

pub loop-group-init : goal.loop-group-init
loop-group-init c = plan-begin _ _ _ _ _

pub read_group-place-requires : goal.read_group-place-requires
read_group-place-requires c =
    let l : length c.args.p.groups ≡ 4 = search rules in
    plan-group _ _ _ _ _ _ _ _ _ c.loop-group.invariant _ (omega arith) c.requires

pub loop-group-preserved : goal.loop-group-preserved
loop-group-preserved c =
    let l : length c.args.p.groups ≡ 4 = search rules in
    plan-turn _ _ _ _ _ _ _ _ _ c.loop-group.invariant _ (omega arith) _ _ c.read_group-place.ensures

pub returns : goal.returns
returns c =
    let l : length c.args.p.groups ≡ 4 = search rules in
    plan-end _ _ _ _ _ _ _ _ _ c.loop-group.invariant (omega arith)

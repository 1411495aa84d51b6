-- `scale_factors::read_group` meets its contract. The loop's invariant: what is written, with what is left of the group, is the whole.
-- Assumes nothing.
use native.Mathlib.Omega.{arith}
use Rattle.standard.proofs.FactorsLaws.{source_small}
use Rattle.scale_factors.proofs.Reading.{group-begin, group-turn, group-end, group-near}
use Rattle.scale_factors.proofs.read_group.Goals as goal

pub loop-i-init : goal.loop-i-init
loop-i-init c = group-begin _ _ _ _ _ _

pub overflow_add-place : goal.overflow_add-place
overflow_add-place c =
    let near = group-near _ _ _ _ _ _ _ _ _ c.loop-i.invariant c.requires.narrow in
    omega (arith, c.requires.few, c.requires.near, c.width_of-width.ensures, source_small c.args.g c.requires.narrow)

pub loop-i-preserved : goal.loop-i-preserved
loop-i-preserved c = group-turn _ _ _ _ _ _ _ _ _ c.loop-i.invariant _ _ (omega arith) c.width_of-width.ensures c.read_factor.ensures

pub returns : goal.returns
returns c = group-end _ _ _ _ _ _ _ _ _ c.loop-i.invariant (omega arith)

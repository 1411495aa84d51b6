-- `scale_factors::read_scale_factors` meets its contract: the plan's factors are read over zeros, so that their first ones are the long
-- factors and the ones after these the short. Assumes nothing.
use mathlib.Core.Path.{◌≡◌, sym, ap, ◌∙◌}
use mathlib.Core.Bool.{Bool}
use native.Mathlib.Omega.{arith}
use mathlib.Core.List.{◌++◌}
use Prim.Native.Nat.{◌+◌, ◌-◌}
use lib.ListN.{replicate, take, drop}
use Rattle.standard.specs.Factors.{sources_of, plan_bits}
use Rattle.standard.proofs.FactorsLaws.{plan-small}
use Rattle.standard.specs.declared.Plan.{Plan}
use Rattle.scale_factors.specs.Groups.{filled, old_for}
use Rattle.scale_factors.proofs.Plans.{plan-fit, long-read, short_read}
use Rattle.scale_factors.proofs.read_scale_factors.Goals.{then-share, else-share}
use Rattle.scale_factors.proofs.read_scale_factors.Goals as goal

pub read_plan-fs-requires : goal.read_plan-fs-requires
read_plan-fs-requires c =
    plan-fit c.args.g c.args.r c.plan_of-plan.ensures c.args.at (omega (arith, c.ranges.at))

pub read_plan-fs-requires-else-share : goal.read_plan-fs-requires-else-share
read_plan-fs-requires-else-share c =
    plan-fit c.args.g c.args.r c.plan_of-plan.ensures c.args.at (omega (arith, c.ranges.at))

pub plan_bits-requires : goal.plan_bits-requires
plan_bits-requires c =
    let a = c.args in
    omega (arith, ap (λ (p : Plan). plan_bits (sources_of p)) c.plan_of-plan.ensures, plan-small a.g a.r)

pub returns : goal.returns
returns c =
    let own = c.plan_of-plan.ensures in
    let shape = c.shape_of-shape.ensures in
    let may = c.may_share-share.ensures in
    let at = c.places_of-places.ensures in
    let k = c.places_of-places.result in
    let a = c.args in
    let p = c.plan_of-plan.result in
    -- whichever way the plan was read: what may not share goes by no factors of granule 0
    let fs : c.if-share.fs ≡ filled (replicate 36 0) 0 (sources_of p) (old_for c.may_share-share.result a.old) a.s.now a.at =
    elim c.if-share.branch [
      | then-share w ↦ w.fs-is ∙ w.read_plan-fs.ensures ∙ ap (λ (b : Bool). filled (replicate 36 0) 0 (sources_of p) (old_for b a.old) a.s.now a.at) (sym w.if-share.true)
      | else-share w ↦ w.fs-is ∙ w.read_plan-fs-else-share.ensures ∙ ap (λ (b : Bool). filled (replicate 36 0) 0 (sources_of p) (old_for b a.old) a.s.now a.at) (sym w.if-share.false)
    ] in (
      c.plan_bits.ensures ∙ ap (λ (q : Plan). plan_bits (sources_of q)) own,
      long-read a.g a.r _ _ _ _ _ _ _ shape may own fs k.long at.long c.long_of.ensures,
      short_read a.g a.r _ _ _ _ _ _ _ shape may own fs k.long at.long
          (c.short_of.ensures ∙ (λ j. replicate (at.from j) 0 ++ take (at.short j) (drop k.long c.if-share.fs) ++ replicate (39 - (at.from j + at.short j)) 0)),
    )

-- `reorder::reorder_from` meets its contract. The loop's invariant: the bands before the k-th stand in their new order. Assumes nothing.
use mathlib.Core.Path.{◌∙◌}
use native.Mathlib.Omega.{arith}
use borrow.Author.Rules.{rules}
use Rattle.reorder.proofs.Bands.{ordered-begin, ordered-turn, ordered_end, within}
use Rattle.reorder.proofs.reorder_from.Goals as goal

pub loop-k-init : goal.loop-k-init
loop-k-init c = ordered-begin _ _ _ c.requires (search rules)

pub overflow_sub-c : goal.overflow_sub-c
overflow_sub-c c = omega (arith, within c.args.rate c.loop-k.k (c.from-b.ensures ∙ c.short_start.ensures) (c.from-c.ensures ∙ c.short_start-in-loop-k.ensures))

pub reorder_band-requires : goal.reorder_band-requires
reorder_band-requires c =
    omega (arith, within c.args.rate c.loop-k.k (c.from-b.ensures ∙ c.short_start.ensures) (c.from-c.ensures ∙ c.short_start-in-loop-k.ensures))

pub loop-k-preserved : goal.loop-k-preserved
loop-k-preserved c =
    ordered-turn _ _ _ _ _ c.loop-k.invariant _ _ _ (c.from-b.ensures ∙ c.short_start.ensures) (c.from-c.ensures ∙ c.short_start-in-loop-k.ensures) (omega arith)
    c.reorder_band.ensures

pub returns : goal.returns
returns c = ordered_end _ _ _ _ _ c.loop-k.invariant (omega arith)

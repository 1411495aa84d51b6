-- `scale_factors::places::flat` meets its contract. The loop's invariant: k factors stand. Assumes nothing.
use mathlib.Core.Path.{◌≡◌, sym, ap, ◌∙◌}
use Prim.Native.Nat.{◌+◌}
use native.Mathlib.Omega.{arith}
use Rattle.standard.specs.CopyLaws.{copying_begin, copying_turn}
use Rattle.scale_factors.specs.Flat.{flat_of, cells-length, cell}
use Rattle.scale_factors.proofs.Filling.{cell_stored, copied_whole}
use Rattle.scale_factors.proofs.places.flat.Goals as goal

pub loop-k-init : goal.loop-k-init
loop-k-init c = copying_begin _ _ _

pub loop-k-preserved : goal.loop-k-preserved
unfolding flat_of
loop-k-preserved c =
    let place : c.loop-k.k ≡ 0 + c.loop-k.k = omega arith in
    copying_turn _ _ _ _ _ c.loop-k.invariant 0 _ _ place (ap (cell c.args.a) place ∙ cell_stored 39 c.args.a 0 c.loop-k.k (omega arith)) (omega arith)
    (omega (arith, cells-length 39 c.args.a 0))

pub returns : goal.returns
unfolding flat_of
returns c =
    let all : c.loop-k.k ≡ 39 = omega arith in
    copied_whole _ _ _ c.loop-k.invariant (cells-length 39 c.args.a 0 ∙ sym all) (sym all)

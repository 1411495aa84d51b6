-- `scale_factors::places::bands` meets its contract. The loop's invariant: b bands stand. Assumes nothing.
use borrow.Author.Rules.{rules}
use mathlib.Core.Path.{◌≡◌, sym, ◌∙◌}
use mathlib.Core.List.{[]}
use Prim.Native.Nat.{◌+◌}
use lib.ListN.{length}
use native.Mathlib.Omega.{arith}
use Rattle.standard.specs.CopyLaws.{copying_begin, copying_turn}
use Rattle.standard.proofs.FactorsLaws.{bands_length}
use Rattle.scale_factors.proofs.Filling.{band_stored, copied_whole}
use Rattle.scale_factors.proofs.places.bands.Goals as goal

pub loop-b-init : goal.loop-b-init
loop-b-init c = copying_begin _ _ _

pub loop-b-preserved : goal.loop-b-preserved
loop-b-preserved c =
    let many : length c.args.fs ≡ 39 = search rules in
    let place : c.loop-b.b ≡ 0 + c.loop-b.b = omega arith in
    copying_turn _ _ _ _ _ c.loop-b.invariant [] _ _ place (band_stored c.args.fs c.loop-b.b many (omega arith)) (omega arith) (omega (arith, bands_length 13 c.args.fs))

pub returns : goal.returns
returns c =
    let all : c.loop-b.b ≡ 13 = omega arith in
    copied_whole _ _ _ c.loop-b.invariant (bands_length 13 c.args.fs ∙ sym all) (sym all)

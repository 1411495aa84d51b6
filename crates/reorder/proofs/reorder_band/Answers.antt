-- `reorder::reorder_band` meets its contract. The loop's invariant: three numbers for each frequency passed are copied, in the band's new
-- order. Assumes nothing.
use mathlib.Core.Path.{refl}
use Prim.Native.Nat.{◌+◌, ◌*◌}
use native.Mathlib.Omega.{arith}
use borrow.Author.Rules.{rules}
use lib.IntN.{pos}
use lib.ListN.{get_or, set}
use mir.Syntax.{w32}
use mir.Val.{SFits}
use mir.ValLaws.{to_z-of_z}
use Rattle.standard.specs.CopyLaws.{copying_end}
use Rattle.reorder.proofs.Bands.{band_turn}
use Rattle.reorder.proofs.reorder_band.Goals as goal

pub loop-j-preserved : goal.loop-j-preserved
loop-j-preserved c =
    let o = c.loop-j in
    let a = c.args in
    let old = a.old.now in
    let at = a.from + 3 * o.j in
    let first : SFits w32 (get_or old (a.from + o.j) (pos 0)) = search rules in
    let second : SFits w32 (get_or old (a.from + a.w + o.j) (pos 0)) = search rules in
    let third : SFits w32 (get_or old (a.from + 2 * a.w + o.j) (pos 0)) = search rules in
    band_turn old _ _ _ _ _ _ _ o.invariant refl (omega arith) (omega arith)
    (λ t. set (set (set o.numbers at (to_z-of_z w32 _ first t)) (at + 1) (to_z-of_z w32 _ second t)) (at + 2) (to_z-of_z w32 _ third t))

pub returns : goal.returns
returns c = copying_end _ _ _ _ _ c.loop-j.invariant (3 * c.args.w) (omega arith)

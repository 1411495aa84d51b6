-- `shares_of` meets its contract: the four bits of the slot's channel, of which there are eight. Assumes nothing.
use mathlib.Core.Path.{◌≡◌, ap, ◌∙◌}
use mathlib.Core.Bool.{Bool, not, ◌||◌}
use Prim.Native.Nat.{ℕ}
use lib.Dec.{ltb}
use lib.ListN.{length}
use Rattle.standard.specs.Record.{shape_of}
use Rattle.standard.specs.Factors.{may_share}
use Rattle.standard.specs.declared.Shape.{Shape}
use Rattle.standard.specs.declared.SlotRecord.{SlotRecord}
use Rattle.frame.proofs.Sharing.{in_granule_1, shares_none, shares_some}
use borrow.Author.Rules.{rules}
use Rattle.frame.proofs.setting.shares_of.Goals as goal

-- the test goes by the record's shape
shared : (n channels : ℕ) (r : SlotRecord) {t : Bool} {k : Shape} → t ≡ ltb n channels || not (may_share k) → k ≡ shape_of r
    → t ≡ ltb n channels || not (may_share (shape_of r))
shared n channels r e f = e ∙ ap (λ (k : Shape). ltb n channels || not (may_share k)) f

pub returns-then-shares_nothing : goal.returns-then-shares_nothing
returns-then-shares_nothing c = shares_none _ _ _ _ _ c.channel_count-channels.ensures _ (shared c.args.n _ c.args.r c.shares_nothing.ensures c.shape_of-shape.ensures) c.if-shares_nothing.true

pub overflow_sub-at : goal.overflow_sub-at
overflow_sub-at c = in_granule_1 _ _ _ (shared c.args.n _ c.args.r c.shares_nothing.ensures c.shape_of-shape.ensures) c.if-shares_nothing.false

pub returns : goal.returns
returns c =
    let l : length c.args.i.scfsi ≡ 8 = search rules in
    shares_some _ _ _ _ _ c.channel_count-channels.ensures _ (shared c.args.n _ c.args.r c.shares_nothing.ensures c.shape_of-shape.ensures) c.if-shares_nothing.false c.requires l

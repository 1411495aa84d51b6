-- `shares_nothing` meets its contract: its tests are the definition's. Assumes nothing.
use Rattle.std.proofs.Common.{sym, ap, ◌∙◌, Bool, not, ◌||◌, lt-ltb, le-ltb}
use Rattle.standard.specs.Factors.{may_share}
use Rattle.frame.proofs.setting.shares_nothing.Goals as goal

pub returns-then-n-channels : goal.returns-then-n-channels
returns-then-n-channels c =
    let e = lt-ltb _ _ c.if-n-channels.true in e ∙ sym (ap (λ (x : Bool). x || not (may_share c.args.shape)) e)

pub returns-else-n-channels : goal.returns-else-n-channels
returns-else-n-channels c =
    let a = c.args in
    ap not c.may_share.ensures ∙ sym (ap (λ (x : Bool). x || not (may_share a.shape)) (le-ltb _ _ c.if-n-channels.false))

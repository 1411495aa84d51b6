-- `second_under_intensity` meets its contract: its tests are the definition's. Assumes nothing.
use Rattle.std.proofs.Common.{sym, ap, ◌∙◌, Bool, ◌&&◌, eq-eqb, ne_eqb}
use Rattle.standard.specs.Header.{is_intensity}
use Rattle.frame.proofs.setting.second_under_intensity.Goals as goal

pub returns-then-n-eq1 : goal.returns-then-n-eq1
returns-then-n-eq1 c = c.is_intensity.ensures ∙ sym (ap (λ (x : Bool). x && is_intensity c.args.h.channels) (eq-eqb _ _ c.if-n-eq1.true))

pub returns-else-n-eq1 : goal.returns-else-n-eq1
returns-else-n-eq1 c =
    let e = ne_eqb _ _ c.if-n-eq1.false in e ∙ sym (ap (λ (x : Bool). x && is_intensity c.args.h.channels) e)

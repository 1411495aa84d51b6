-- `scale_factors::plan::group_bits` meets its contract: so many factors of one width each.
-- Assumes nothing.
use mathlib.Core.Path.{sym, ap, ◌∙◌}
use Prim.Native.Nat.{ℕ, ◌*◌}
use Rattle.standard.proofs.FactorsLaws.{group-bits}
use Rattle.scale_factors.proofs.plan.group_bits.Goals as goal

pub returns : goal.returns
returns c = let g = c.args.g in ap (λ (w : ℕ). g.count * w) c.width_of.ensures ∙ sym (group-bits g)

-- What no two readers may disagree on, for every public function of `scale_factors`. Printed by scripts/catalogue.
use Rattle.demands.proofs.Call.{OneAnswer, alike}
use Rattle.scale_factors.proofs.read_scale_factors.Reads as read-scale-factors
use Rattle.scale_factors.proofs.read_scale_factors.Kinds as read-scale-factors-kinds
use Rattle.scale_factors.proofs.plan.plan_of.Reads as plan-of
use Rattle.scale_factors.proofs.plan.plan_of.Kinds as plan-of-kinds

pub read-scale_factors_unique : OneAnswer read-scale-factors-kinds.ps read-scale-factors-kinds.r read-scale-factors.Post
read-scale_factors_unique κs a x y s t p q = λ j. record { bits = alike p.0 q.0 j; long = alike p.1 q.1 j; short = alike p.2 q.2 j }

pub plan-of_unique : OneAnswer plan-of-kinds.ps plan-of-kinds.r plan-of.Post
plan-of_unique κs a x y s t p q = alike p q

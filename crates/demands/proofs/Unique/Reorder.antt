-- What no two readers may disagree on, for every public function of `reorder`. Printed by scripts/catalogue.
use Rattle.demands.proofs.Call.{OneState}
use Rattle.standard.proofs.RefusalsLaws.{one_answer}
use Rattle.reorder.proofs.reorder.Reads as reorder
use Rattle.reorder.proofs.reorder.Kinds as reorder-kinds

pub reorder_unique : OneState reorder-kinds.ps reorder-kinds.r reorder.Post (λ κs s. s.1.1.0.now)
reorder_unique κs a x y s t p q = one_answer p q

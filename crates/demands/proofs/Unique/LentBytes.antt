-- What no two readers may disagree on, for every public function of `lent_bytes`. Printed by scripts/catalogue.
use Rattle.demands.proofs.Call.{OneAnswer, OneShown, OneState, alike}
use Rattle.lent_bytes.proofs.least.Reads as least
use Rattle.lent_bytes.proofs.least.Kinds as least-kinds
use Rattle.lent_bytes.proofs.put.Reads as put
use Rattle.lent_bytes.proofs.put.Kinds as put-kinds
use Rattle.lent_bytes.proofs.slide.Reads as slide
use Rattle.lent_bytes.proofs.slide.Kinds as slide-kinds

pub least-unique : OneAnswer least-kinds.ps least-kinds.r least.Post
least-unique κs a x y s t p q = alike p q

pub put_unique : OneState put-kinds.ps put-kinds.r put.Post (λ κs s. s.0.now)
put_unique κs a x y s t p q = (alike p.next q.next, alike p.bytes q.bytes)

pub slide_unique : OneShown slide-kinds.ps slide-kinds.r slide.Post (λ κs x s. s.0.now)
slide_unique κs a x y s t p q = alike p q

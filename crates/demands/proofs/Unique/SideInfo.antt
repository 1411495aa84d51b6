-- What no two readers may disagree on, for every public function of `side_info`. Printed by scripts/catalogue.
use Rattle.demands.proofs.Call.{OneAnswer, alike}
use Rattle.side_info.proofs.side_under.Reads as side-under
use Rattle.side_info.proofs.side_under.Kinds as side-under-kinds
use Rattle.side_info.proofs.read_side_info.Reads as read-side-info
use Rattle.side_info.proofs.read_side_info.Kinds as read-side-info-kinds
use Rattle.side_info.proofs.side.no_side.Reads as no-side
use Rattle.side_info.proofs.side.no_side.Kinds as no-side-kinds

pub side_under_unique : OneAnswer side-under-kinds.ps side-under-kinds.r side-under.Post
side_under_unique κs a x y s t p q = alike p q

pub read-side_info_unique : OneAnswer read-side-info-kinds.ps read-side-info-kinds.r read-side-info.Post
read-side_info_unique κs a x y s t p q = alike p q

pub no_side_unique : OneAnswer no-side-kinds.ps no-side-kinds.r no-side.Post
no_side_unique κs a x y s t p q = alike p q

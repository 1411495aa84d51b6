-- What no two readers may disagree on, for every public function of `header`. Printed by scripts/catalogue.
use Rattle.demands.proofs.Call.{OneAnswer, alike}
use Rattle.header.proofs.read_frame_header.Reads as read-frame-header
use Rattle.header.proofs.read_frame_header.Kinds as read-frame-header-kinds
use Rattle.header.proofs.is_header.Reads as is-header
use Rattle.header.proofs.is_header.Kinds as is-header-kinds
use Rattle.header.proofs.no_header.Reads as no-header
use Rattle.header.proofs.no_header.Kinds as no-header-kinds

pub read-frame_header_unique : OneAnswer read-frame-header-kinds.ps read-frame-header-kinds.r read-frame-header.Post
read-frame_header_unique κs a x y s t p q = alike p q

pub is_header_unique : OneAnswer is-header-kinds.ps is-header-kinds.r is-header.Post
is_header_unique κs a x y s t p q = alike p q

pub no_header_unique : OneAnswer no-header-kinds.ps no-header-kinds.r no-header.Post
no_header_unique κs a x y s t p q = alike p q

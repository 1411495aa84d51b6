-- What no two readers may disagree on, for every public function of `derived`. Printed by scripts/catalogue.
use Rattle.demands.proofs.Call.{OneAnswer, alike}
use Rattle.derived.proofs.bps.Reads as bps
use Rattle.derived.proofs.bps.Kinds as bps-kinds
use Rattle.derived.proofs.hz.Reads as hz
use Rattle.derived.proofs.hz.Kinds as hz-kinds
use Rattle.derived.proofs.is_mpeg1.Reads as is-mpeg1
use Rattle.derived.proofs.is_mpeg1.Kinds as is-mpeg1-kinds
use Rattle.derived.proofs.is_two.Reads as is-two
use Rattle.derived.proofs.is_two.Kinds as is-two-kinds
use Rattle.derived.proofs.is_intensity.Reads as is-intensity
use Rattle.derived.proofs.is_intensity.Kinds as is-intensity-kinds
use Rattle.derived.proofs.shape_of.Reads as shape-of
use Rattle.derived.proofs.shape_of.Kinds as shape-of-kinds
use Rattle.derived.proofs.is_mixed.Reads as is-mixed
use Rattle.derived.proofs.is_mixed.Kinds as is-mixed-kinds
use Rattle.derived.proofs.may_share.Reads as may-share
use Rattle.derived.proofs.may_share.Kinds as may-share-kinds
use Rattle.derived.proofs.is_slow.Reads as is-slow
use Rattle.derived.proofs.is_slow.Kinds as is-slow-kinds
use Rattle.derived.proofs.header_size.Reads as header-size
use Rattle.derived.proofs.header_size.Kinds as header-size-kinds
use Rattle.derived.proofs.frame_length.Reads as frame-length
use Rattle.derived.proofs.frame_length.Kinds as frame-length-kinds
use Rattle.derived.proofs.side_size.Reads as side-size
use Rattle.derived.proofs.side_size.Kinds as side-size-kinds
use Rattle.derived.proofs.main_size.Reads as main-size
use Rattle.derived.proofs.main_size.Kinds as main-size-kinds
use Rattle.derived.proofs.granules.Reads as granules
use Rattle.derived.proofs.granules.Kinds as granules-kinds
use Rattle.derived.proofs.channel_count.Reads as channel-count
use Rattle.derived.proofs.channel_count.Kinds as channel-count-kinds
use Rattle.derived.proofs.number_of.Reads as number-of
use Rattle.derived.proofs.number_of.Kinds as number-of-kinds
use Rattle.derived.proofs.offset_of.Reads as offset-of
use Rattle.derived.proofs.offset_of.Kinds as offset-of-kinds
use Rattle.derived.proofs.why_of.Reads as why-of
use Rattle.derived.proofs.why_of.Kinds as why-of-kinds

pub bps-unique : OneAnswer bps-kinds.ps bps-kinds.r bps.Post
bps-unique κs a x y s t p q = alike p q

pub hz-unique : OneAnswer hz-kinds.ps hz-kinds.r hz.Post
hz-unique κs a x y s t p q = alike p q

pub is_mpeg1_unique : OneAnswer is-mpeg1-kinds.ps is-mpeg1-kinds.r is-mpeg1.Post
is_mpeg1_unique κs a x y s t p q = alike p q

pub is_two_unique : OneAnswer is-two-kinds.ps is-two-kinds.r is-two.Post
is_two_unique κs a x y s t p q = alike p q

pub is_intensity_unique : OneAnswer is-intensity-kinds.ps is-intensity-kinds.r is-intensity.Post
is_intensity_unique κs a x y s t p q = alike p q

pub shape_of_unique : OneAnswer shape-of-kinds.ps shape-of-kinds.r shape-of.Post
shape_of_unique κs a x y s t p q = alike p q

pub is_mixed_unique : OneAnswer is-mixed-kinds.ps is-mixed-kinds.r is-mixed.Post
is_mixed_unique κs a x y s t p q = alike p q

pub may_share_unique : OneAnswer may-share-kinds.ps may-share-kinds.r may-share.Post
may_share_unique κs a x y s t p q = alike p q

pub is_slow_unique : OneAnswer is-slow-kinds.ps is-slow-kinds.r is-slow.Post
is_slow_unique κs a x y s t p q = alike p q

pub header-size_unique : OneAnswer header-size-kinds.ps header-size-kinds.r header-size.Post
header-size_unique κs a x y s t p q = alike p q

pub frame-length_unique : OneAnswer frame-length-kinds.ps frame-length-kinds.r frame-length.Post
frame-length_unique κs a x y s t p q = alike p q

pub side_size_unique : OneAnswer side-size-kinds.ps side-size-kinds.r side-size.Post
side_size_unique κs a x y s t p q = alike p q

pub main_size_unique : OneAnswer main-size-kinds.ps main-size-kinds.r main-size.Post
main_size_unique κs a x y s t p q = alike p q

pub granules-unique : OneAnswer granules-kinds.ps granules-kinds.r granules.Post
granules-unique κs a x y s t p q = alike p q

pub channel_count_unique : OneAnswer channel-count-kinds.ps channel-count-kinds.r channel-count.Post
channel_count_unique κs a x y s t p q = alike p q

pub number_of_unique : OneAnswer number-of-kinds.ps number-of-kinds.r number-of.Post
number_of_unique κs a x y s t p q = alike p q

pub offset_of_unique : OneAnswer offset-of-kinds.ps offset-of-kinds.r offset-of.Post
offset_of_unique κs a x y s t p q = alike p q

pub why_of_unique : OneAnswer why-of-kinds.ps why-of-kinds.r why-of.Post
why_of_unique κs a x y s t p q = alike p q

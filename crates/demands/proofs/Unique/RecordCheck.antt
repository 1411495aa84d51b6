-- What no two readers may disagree on, for every public function of `record_check`. Printed by scripts/catalogue.
use Rattle.demands.proofs.Call.{OneAnswer, alike}
use Rattle.record_check.proofs.checks.gain_number.Reads as gain-number
use Rattle.record_check.proofs.checks.gain_number.Kinds as gain-number-kinds
use Rattle.record_check.proofs.given.compress_width.Reads as compress-width
use Rattle.record_check.proofs.given.compress_width.Kinds as compress-width-kinds
use Rattle.record_check.proofs.given.first_region.Reads as first-region
use Rattle.record_check.proofs.given.first_region.Kinds as first-region-kinds
use Rattle.record_check.proofs.given.second_region.Reads as second-region
use Rattle.record_check.proofs.given.second_region.Kinds as second-region-kinds
use Rattle.record_check.proofs.layout.layout_of.Reads as layout-of
use Rattle.record_check.proofs.layout.layout_of.Kinds as layout-of-kinds
use Rattle.record_check.proofs.is_record.Reads as is-record
use Rattle.record_check.proofs.is_record.Kinds as is-record-kinds
use Rattle.record_check.proofs.is_side_info.Reads as is-side-info
use Rattle.record_check.proofs.is_side_info.Kinds as is-side-info-kinds

pub gain_number_unique : OneAnswer gain-number-kinds.ps gain-number-kinds.r gain-number.Post
gain_number_unique κs a x y s t p q = alike p q

pub compress_width_unique : OneAnswer compress-width-kinds.ps compress-width-kinds.r compress-width.Post
compress_width_unique κs a x y s t p q = alike p q

pub first-region_unique : OneAnswer first-region-kinds.ps first-region-kinds.r first-region.Post
first-region_unique κs a x y s t p q = alike p q

pub second_region_unique : OneAnswer second-region-kinds.ps second-region-kinds.r second-region.Post
second_region_unique κs a x y s t p q = alike p q

pub layout_of_unique : OneAnswer layout-of-kinds.ps layout-of-kinds.r layout-of.Post
layout_of_unique κs a x y s t p q = alike p.same q.same

pub is_record_unique : OneAnswer is-record-kinds.ps is-record-kinds.r is-record.Post
is_record_unique κs a x y s t p q = alike p q

pub is_side_info_unique : OneAnswer is-side-info-kinds.ps is-side-info-kinds.r is-side-info.Post
is_side_info_unique κs a x y s t p q = alike p q

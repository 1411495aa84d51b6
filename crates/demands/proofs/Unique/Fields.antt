-- What no two readers may disagree on, for every public function of `fields`. Printed by scripts/catalogue.
use Rattle.demands.proofs.Call.{OneAnswer, alike}
use Rattle.fields.proofs.header_values.Reads as header-values
use Rattle.fields.proofs.header_values.Kinds as header-values-kinds
use Rattle.fields.proofs.side_values.Reads as side-values
use Rattle.fields.proofs.side_values.Kinds as side-values-kinds
use Rattle.fields.proofs.record_values.Reads as record-values
use Rattle.fields.proofs.record_values.Kinds as record-values-kinds
use Rattle.fields.proofs.scale_values.Reads as scale-values
use Rattle.fields.proofs.scale_values.Kinds as scale-values-kinds
use Rattle.fields.proofs.head_told.Reads as head-told
use Rattle.fields.proofs.head_told.Kinds as head-told-kinds
use Rattle.fields.proofs.step.Reads as step
use Rattle.fields.proofs.step.Kinds as step-kinds

pub header-values_unique : OneAnswer header-values-kinds.ps header-values-kinds.r header-values.Post
header-values_unique κs a x y s t p q = alike p q

pub side_values_unique : OneAnswer side-values-kinds.ps side-values-kinds.r side-values.Post
side_values_unique κs a x y s t p q = alike p q

pub record_values_unique : OneAnswer record-values-kinds.ps record-values-kinds.r record-values.Post
record_values_unique κs a x y s t p q = alike p q

pub scale_values_unique : OneAnswer scale-values-kinds.ps scale-values-kinds.r scale-values.Post
scale_values_unique κs a x y s t p q = alike p q

pub head_told_unique : OneAnswer head-told-kinds.ps head-told-kinds.r head-told.Post
head_told_unique κs a x y s t p q = alike p q

pub step-unique : OneAnswer step-kinds.ps step-kinds.r step.Post
step-unique κs a x y s t p q = alike p q

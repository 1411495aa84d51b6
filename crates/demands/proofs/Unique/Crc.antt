-- What no two readers may disagree on, for every public function of `crc`. Printed by scripts/catalogue.
use Rattle.demands.proofs.Call.{OneAnswer, alike}
use Rattle.crc.proofs.with_bytes.Reads as with-bytes
use Rattle.crc.proofs.with_bytes.Kinds as with-bytes-kinds
use Rattle.crc.proofs.fits.Reads as fits
use Rattle.crc.proofs.fits.Kinds as fits-kinds

pub with-bytes_unique : OneAnswer with-bytes-kinds.ps with-bytes-kinds.r with-bytes.Post
with-bytes_unique κs a x y s t p q = alike p q

pub fits_unique : OneAnswer fits-kinds.ps fits-kinds.r fits.Post
fits_unique κs a x y s t p q = alike p q

-- What no two readers may disagree on, for every public function of `tables`. Printed by scripts/catalogue.
use Rattle.demands.proofs.Call.{OneAnswer, alike}
use Rattle.tables.proofs.bands.long_start.Reads as long-start
use Rattle.tables.proofs.bands.long_start.Kinds as long-start-kinds
use Rattle.tables.proofs.bands.short_start.Reads as short-start
use Rattle.tables.proofs.bands.short_start.Kinds as short-start-kinds
use Rattle.tables.proofs.lengths.factor_lengths.Reads as factor-lengths
use Rattle.tables.proofs.lengths.factor_lengths.Kinds as factor-lengths-kinds
use Rattle.tables.proofs.lengths.lfs_counts.Reads as lfs-counts
use Rattle.tables.proofs.lengths.lfs_counts.Kinds as lfs-counts-kinds
use Rattle.tables.proofs.lengths.lfs_lengths.Reads as lfs-lengths
use Rattle.tables.proofs.lengths.lfs_lengths.Kinds as lfs-lengths-kinds

pub long-start_unique : OneAnswer long-start-kinds.ps long-start-kinds.r long-start.Post
long-start_unique κs a x y s t p q = alike p q

pub short_start_unique : OneAnswer short-start-kinds.ps short-start-kinds.r short-start.Post
short_start_unique κs a x y s t p q = alike p q

pub factor_lengths_unique : OneAnswer factor-lengths-kinds.ps factor-lengths-kinds.r factor-lengths.Post
factor_lengths_unique κs a x y s t p q = λ j. record { first = alike p.0 q.0 j; second = alike p.1 q.1 j }

pub lfs_counts_unique : OneAnswer lfs-counts-kinds.ps lfs-counts-kinds.r lfs-counts.Post
lfs_counts_unique κs a x y s t p q = alike p q

pub lfs_lengths_unique : OneAnswer lfs-lengths-kinds.ps lfs-lengths-kinds.r lfs-lengths.Post
lfs_lengths_unique κs a x y s t p q = alike p q

-- `scale_factors::places::bands` meets its contract. The loop's invariant: b bands stand. Assumes nothing.
use lib.ListN.{replicate}
use Rattle.standard.specs.CopyLaws.{Copying}
use Rattle.standard.specs.Factors.{bands_of}
use Rattle.scale_factors.proofs.places.bands.Given as goal

abbrev pub invariant-loop-b : goal.invariant-loop-b
invariant-loop-b l = Copying (bands_of 13 l.fs) (replicate 13 (replicate 3 0)) l.a 0 l.b

-- `scale_factors::places::flat` meets its contract. The loop's invariant: k factors stand. Assumes nothing.
use lib.ListN.{replicate}
use Rattle.standard.specs.CopyLaws.{Copying}
use Rattle.scale_factors.specs.Flat.{flat_of}
use Rattle.scale_factors.proofs.places.flat.Given as goal

abbrev pub invariant-loop-k : goal.invariant-loop-k
invariant-loop-k l = Copying (flat_of l.a) (replicate 39 0) l.fs 0 l.k

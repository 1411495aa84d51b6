-- `reorder::reorder_band` meets its contract. The loop's invariant: three numbers for each frequency passed are copied, in the band's new
-- order. Assumes nothing.
use Prim.Native.Nat.{◌*◌}
use Rattle.standard.specs.CopyLaws.{Copying}
use Rattle.standard.specs.Reorder.{band_numbers}
use Rattle.reorder.proofs.reorder_band.Given as goal

abbrev pub invariant-loop-j : goal.invariant-loop-j
invariant-loop-j l = Copying (band_numbers l.from l.w l.old) l.initial.numbers l.numbers l.from (3 * l.j)

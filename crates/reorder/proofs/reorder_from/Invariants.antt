-- `reorder::reorder_from` meets its contract. The loop's invariant: the bands before the k-th stand in their new order. Assumes nothing.
use Rattle.reorder.proofs.Bands.{Ordered}
use Rattle.reorder.proofs.reorder_from.Given as goal

abbrev pub invariant-loop-k : goal.invariant-loop-k
invariant-loop-k l = Ordered l.rate l.first l.initial.numbers l.numbers l.k

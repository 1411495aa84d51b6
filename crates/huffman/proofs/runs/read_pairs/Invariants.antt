-- `huffman::runs::read_pairs` meets its contract. The loop's invariant: the pairs of the regions so far. Assumes nothing.
use Rattle.huffman.proofs.Running.{PairsLoop}
use Rattle.huffman.proofs.runs.read_pairs.Given as goal

abbrev pub invariant-loop-region : goal.invariant-loop-region
invariant-loop-region l = PairsLoop l.fn.g.first l.fn.g.second l.n l.tables l.s l.start l.initial.out l.out l.at l.done l.region

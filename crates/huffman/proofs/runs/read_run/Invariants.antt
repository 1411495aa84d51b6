-- `huffman::runs::read_run` meets its contract. The loop's invariant: the pairs so far lead any run on. Assumes nothing.
use Rattle.huffman.specs.Run.{RunOn}
use Rattle.huffman.proofs.runs.read_run.Given as goal

abbrev pub invariant-loop-k : goal.invariant-loop-k
invariant-loop-k l = RunOn l.table l.s l.start l.from l.k l.initial.out l.out l.at

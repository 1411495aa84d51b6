-- `side_info::side::read_shares` meets its contract. The loop's invariant, `SharesLoop`: the bits passed stand first, and then false.
-- Assumes nothing.
use Rattle.side_info.proofs.Loops.{SharesLoop}
use Rattle.side_info.proofs.side.read_shares.Given as goal

abbrev pub invariant-loop-i : goal.invariant-loop-i
invariant-loop-i l = SharesLoop l.s l.at l.n l.shares l.i

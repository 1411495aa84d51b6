-- `side_info::side::read_shares` meets its contract. The loop's invariant, `SharesLoop`: the bits passed stand first, and then false.
-- Assumes nothing.
use Rattle.side_info.proofs.Loops.{shares_begin}
use Rattle.side_info.proofs.side.read_shares.Goals as goal

pub loop-i-init : goal.loop-i-init
loop-i-init c = shares_begin _ _ _

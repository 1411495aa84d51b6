-- `share_lost` meets its contract. Assumes nothing.
use Rattle.std.proofs.Common.{◌≡◌, Bool, ◌&&◌, ap, length, rules}
use Rattle.frame.proofs.Sharing.{any_of_four}
use Rattle.frame.proofs.slot.share_lost.Goals as goal

pub returns : goal.returns
returns c =
    let l : length c.args.shares ≡ 4 = search rules in
    ap (λ (x : Bool). x && c.args.lost) (any_of_four c.args.shares l)

-- The places are within the lent bytes (Within).
use Rattle.input.proofs.Within.{unread_part}
use Rattle.input.proofs.Held.unread.Goals as goal

pub returns : goal.returns
returns c = unread_part _ c.args.self _ _ c.least-end.ensures c.least-from.ensures

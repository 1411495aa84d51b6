-- The bytes moved are the unread ones (Within).
use Rattle.std.proofs.Common.{refl, ◌∙◌}
use Rattle.input.proofs.Within.{unread_count, unread_slid}
use Rattle.input.proofs.Held.slide.Goals as goal

pub returns : goal.returns
returns c =
    let e = c.least-end.ensures in
    let f = c.least-from.ensures in
    record { first = refl; count = unread_count _ _ _ _ e f; bytes = c.slide.ensures ∙ unread_slid _ _ _ _ e f }

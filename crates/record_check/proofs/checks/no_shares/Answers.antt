-- `record_check::checks::no_shares` meets its contract: no bit from the n-th on is set. Assumes nothing.
use mathlib.Core.Path.{◌≡◌, ap, ◌∙◌}
use mathlib.Core.Bool.{not}
use borrow.Author.Rules.{rules}
use lib.ListN.{length}
use Rattle.record_check.proofs.Tests.{shares-are}
use Rattle.record_check.proofs.checks.no_shares.Goals as goal

pub returns : goal.returns
returns c =
    let a = c.args in
    let l : length a.s ≡ 8 = search rules in
    ap not c.contains.ensures.value ∙ shares-are a.n a.s l

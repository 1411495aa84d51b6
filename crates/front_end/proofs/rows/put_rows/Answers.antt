-- `put_rows` meets its contract. The loop's invariant: what the rows from the k-th on make of the lent numbers is what all of them make of
-- those at entry. Assumes nothing.
use mathlib.Core.Path.{◌≡◌, sym, ap, ◌∙◌}
use native.Mathlib.Omega.{arith}
use borrow.Author.Rules.{rules}
use Rattle.std.proofs.lemmas.Slice.{put_mid-paste}
use lib.ListN.{length}
use Rattle.front_end.proofs.Laws.{rows-turn, rows_end}
use Rattle.front_end.proofs.rows.put_rows.Goals as goal

pub loop-k-preserved : goal.loop-k-preserved
loop-k-preserved c =
    let a = c.args in
    let is = c.copy_from_slice.ensures.after ∙ c.row_of.ensures in
    let long : length c.row_of.result ≡ 71 = search rules in
    λ rest.
    rows-turn a.records a.slots _ rest _ c.loop-k.k _ _ (search rules) (search rules) (omega arith) (search rules)
    (put_mid-paste _ _ _ _ _ 71 is (omega arith) (sym long ∙ ap length c.row_of.ensures)) (c.loop-k.invariant rest)

pub returns : goal.returns
returns c =
    let a = c.args in
    λ rest. rows_end a.records a.slots _ _ c.loop-k.k (search rules) (omega arith) (c.loop-k.invariant rest)

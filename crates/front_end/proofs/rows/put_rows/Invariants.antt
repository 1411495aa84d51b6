-- `put_rows` meets its contract. The loop's invariant: what the rows from the k-th on make of the lent numbers is what all of them make of
-- those at entry. Assumes nothing.
use mathlib.Core.Path.{◌≡◌}
use mathlib.Core.List.{List, ◌++◌}
use Prim.Native.Nat.{ℕ, ◌*◌}
use lib.ListN.{drop}
use Rattle.front_end.specs.Calls.{per_row, rows_from}
use Rattle.front_end.proofs.rows.put_rows.Given as goal

abbrev pub invariant-loop-k : goal.invariant-loop-k
invariant-loop-k l =
    (rest : List ℕ)
    → rows_from (per_row * l.k) (drop l.k l.records) (drop l.k l.slots) (l.rows ++ rest) ≡ rows_from 0 l.records l.slots (l.initial.rows ++ rest)

-- `huffman::find::root` meets its contract: what is past the first 36 cells has the link of table 0. Assumes nothing.
use mathlib.Core.Path.{◌≡◌, sym, ◌∙◌}
use Prim.Native.Nat.{ℕ, ◌≤◌, ◌<◌}
use native.Mathlib.Omega.{arith}
use lib.ListN.{get_or, take, length-take, get_or-eq_default}
use lib.Seq.{get_or-take}
use Rattle.standard.specs.RowsLaws.{get_d_within}
use Rattle.huffman.specs.Cells.{roots, silent_link, cells}
use Rattle.huffman.proofs.Nodes.{size_is}
use Rattle.huffman.proofs.find.root.Goals as goal

within : (table : ℕ) → table < roots → get_or cells table 0 ≡ get_or (take roots cells) table silent_link
within table h = sym (get_or-take roots cells table silent_link h ∙ get_d_within cells table silent_link 0 (omega (arith, size_is)))

past : (table : ℕ) → roots ≤ table → silent_link ≡ get_or (take roots cells) table silent_link
past table h = sym (get_or-eq_default (take roots cells) silent_link (omega (arith, length-take roots cells)))

pub returns-then-code-lt-CODES : goal.returns-then-code-lt-CODES
returns-then-code-lt-CODES c = c.cell.ensures ∙ within c.args.code c.if-code-lt-CODES.true

pub returns : goal.returns
returns c = past c.args.code c.if-code-lt-CODES.false

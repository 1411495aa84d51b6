-- `huffman::pair` meets its contract: a pair that owns no more bits than are left is read, and another is not. Assumes nothing.
use mathlib.Core.Path.{sym}
use Prim.Native.Nat.{◌-◌}
use native.Mathlib.Omega.{arith}
use Rattle.standard.specs.Bits.{between}
use Rattle.huffman.proofs.pair.Goals as goal

pub find_pair-b-requires : goal.find_pair-b-requires
find_pair-b-requires c = (_, record { code = c.known.result; is = c.root-link.ensures; same = c.known.ensures; escape = c.escape_width-width.ensures })

pub returns-then-left-b : goal.returns-then-left-b
unfolding between
returns-then-left-b c =
    let a = c.args in
    sym ((c.find_pair-b.ensures.0 _ (record { code = c.known.result; is = c.root-link.ensures; same = c.known.ensures; escape = c.escape_width-width.ensures }) _ _ c.ahead.ensures).short (a.end - a.at) (omega (arith, c.left.ensures)))

pub returns : goal.returns
unfolding between
returns c =
    let a = c.args in
    sym ((c.find_pair-b.ensures.0 _ (record { code = c.known.result; is = c.root-link.ensures; same = c.known.ensures; escape = c.escape_width-width.ensures }) _ _ c.ahead.ensures).whole (a.end - a.at) (omega (arith, c.left.ensures)))

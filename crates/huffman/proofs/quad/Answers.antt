-- `huffman::quad` meets its contract: a quad that owns no more bits than are left is read, and another is dropped. Assumes nothing.
use Rattle.std.specs.Prelude.{Ok}
use mathlib.Core.Path.{sym, ◌∙◌}
use Prim.Native.Nat.{◌-◌}
use native.Mathlib.Omega.{arith}
use Rattle.standard.specs.Bits.{between}
use Rattle.standard.specs.Codes.{taken}
use Rattle.huffman.proofs.Fours.{quad-found}
use Rattle.huffman.proofs.quad.Goals as goal

pub returns-then-left-f : goal.returns-then-left-f
unfolding between
returns-then-left-f c =
    let a = c.args in
    sym ((quad-found c.find-f.ensures (omega arith) c.args.s.now c.args.at c.ahead.ensures c.quad_code.result c.root.ensures c.args.count1 c.quad_code.ensures).0.short (a.end - a.at) (omega (arith, c.left.ensures)))

pub put_quad-requires : goal.put_quad-requires
put_quad-requires c = ((quad-found c.find-f.ensures (omega arith) c.args.s.now c.args.at c.ahead.ensures c.quad_code.result c.root.ensures c.args.count1 c.quad_code.ensures).1, omega arith, omega arith)

pub returns : goal.returns
unfolding between
returns c =
    let a = c.args in
    let w = quad-found c.find-f.ensures (omega arith) c.args.s.now c.args.at c.ahead.ensures c.quad_code.result c.root.ensures c.args.count1 c.quad_code.ensures in
    (λ i. Ok (taken (c.put_quad.ensures i) c.find-f.result.used)) ∙ sym (w.0.whole (a.end - a.at) (omega (arith, c.left.ensures)))

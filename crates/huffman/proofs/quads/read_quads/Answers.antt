-- `huffman::quads::read_quads` meets its contract. The loop's invariant: the numbers before and those stored so far, then the quads left from the bits left, are all numbers. The measure is how many positions are left. Assumes nothing.
use Rattle.std.proofs.Common.{rules}
use native.Mathlib.Omega.{arith}
use mathlib.Core.Path.{refl}
use Rattle.huffman.proofs.Fours.{quad-found}
use Rattle.huffman.proofs.Filling.{quad-begin, quad-full, quad-stop, quad-turn}
use Rattle.huffman.proofs.quads.read_quads.Goals as goal

pub loop-i-init : goal.loop-i-init
loop-i-init c = quad-begin _ _ _ _ _ _ c.requires.0 c.requires.1 (search rules)

pub find-f-requires : goal.find-f-requires
find-f-requires c = record { code = _; is = c.root-link.ensures }

pub overflow_add-at : goal.overflow_add-at
overflow_add-at c = record { fits = omega (arith, c.loop-i.invariant.place, c.find-f.ensures.few, c.requires.2) }

pub returns-then-end-at : goal.returns-then-end-at
returns-then-end-at c = quad-stop _ _ _ _ _ _ _ _ _ c.loop-i.invariant (omega arith) (quad-found c.find-f.ensures (omega arith) c.args.s.now c.loop-i.at c.ahead.ensures c.quad_code.result c.root-link.ensures c.args.count1 c.quad_code.ensures).0 (omega arith)

pub put_quad-requires : goal.put_quad-requires
put_quad-requires c = ((quad-found c.find-f.ensures (omega arith) c.args.s.now c.loop-i.at c.ahead.ensures c.quad_code.result c.root-link.ensures c.args.count1 c.quad_code.ensures).1, omega (arith, c.loop-i.invariant.fill.long), omega arith)

pub loop-i-preserved : goal.loop-i-preserved
loop-i-preserved c =
    let o = c.loop-i in
    let w = quad-found c.find-f.ensures (omega arith) c.args.s.now o.at c.ahead.ensures c.quad_code.result c.root-link.ensures c.args.count1 c.quad_code.ensures in
    rw c.put_quad.ensures (quad-turn _ _ _ _ _ _ _ _ _ o.invariant (omega arith) w.0 refl w.2 (omega arith))

pub returns : goal.returns
returns c = quad-full _ _ _ _ _ _ _ _ _ c.loop-i.invariant (omega arith)

-- `huffman::quads::read_quads` meets its contract. The loop's invariant: the numbers before and those stored so far, then the quads left from the bits left, are all numbers. The measure is how many positions are left. Assumes nothing.
use Prim.Native.Nat.{◌-◌, ◌/◌}
use lib.ListN.{take}
use Rattle.standard.specs.Bits.{between}
use Rattle.standard.specs.Codes.{word_of}
use Rattle.standard.specs.Numbers.{prepend, quads, quad_table}
use Rattle.huffman.proofs.Filling.{QuadLoop}
use Rattle.huffman.proofs.quads.read_quads.Given as goal

abbrev pub invariant-loop-i : goal.invariant-loop-i
invariant-loop-i l = QuadLoop (prepend (take l.from l.initial.out) (quads word_of (quad_table l.count1) ((576 - l.from) / 4) (between l.s l.start l.end))) (quad_table l.count1) l.from l.s l.end l.initial.out l.out l.at l.i

abbrev pub decreases-loop-i : goal.decreases-loop-i
decreases-loop-i l = 576 - l.i

-- `huffman::find::find` meets its contract. The loop's invariant: whichever code the link is of, the lookup stands at a node of it, and e is the cell that the
-- next bits choose there. The measure is how many of the 57 bits are not used. Assumes nothing.
use mathlib.Core.Path.{◌≡◌}
use Prim.Native.Nat.{ℕ, ◌+◌, ◌-◌, ◌/◌, ◌%◌, ◌<◌}
use lib.ListN.{get_or}
use Rattle.standard.specs.Bits.{field_at}
use Rattle.huffman.specs.Cells.{cells}
use Rattle.huffman.specs.Found.{root_of, bytes_of}
use Rattle.huffman.proofs.Nodes.{Stands}
use Rattle.huffman.proofs.find.find.Given as goal

abbrev pub invariant-loop-e : goal.invariant-loop-e
invariant-loop-e l = ((code : ℕ) → l.link ≡ root_of code → Stands code (bytes_of l.word) 0 l.node l.used)
    × (l.e ≡ get_or cells (l.node % 4096 + field_at (bytes_of l.word) (0 + l.used) (l.node / 4096)) 0) × (l.e < 65536)

abbrev pub decreases-loop-e : goal.decreases-loop-e
decreases-loop-e l = 57 - l.used

-- `huffman::lookup` meets its contract: what was found in the bits, whatever they are, is the codeword, if it ends within those of the slot. Assumes nothing.
use native.Mathlib.Omega.{arith}
use Rattle.huffman.proofs.Reading.{known_word, word_whole, word_cut_off}
use Rattle.huffman.proofs.Finding.{found_code}
use Rattle.huffman.proofs.lookup.Goals as goal

pub returns-then-left-f : goal.returns-then-left-f
returns-then-left-f c = word_cut_off _ _ _ _ _ _ (known_word _ _ c.known.ensures _ _ (found_code c.find-f.ensures (omega arith) c.args.s.now c.args.at c.ahead.ensures _ c.root.ensures)) _ (omega (arith, c.left.ensures))

pub returns : goal.returns
returns c = word_whole _ _ _ _ _ _ (known_word _ _ c.known.ensures _ _ (found_code c.find-f.ensures (omega arith) c.args.s.now c.args.at c.ahead.ensures _ c.root.ensures)) _ (omega (arith, c.left.ensures))

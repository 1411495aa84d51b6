-- `huffman::words::ahead` meets its contract: eight bytes, turned up to the bit of the place. Assumes nothing.
use Rattle.huffman.proofs.Cutting.{ahead_of}
use Rattle.huffman.proofs.words.ahead.Goals as goal

pub returns : goal.returns
returns c = let a = c.args in ahead_of a.s.now a.at c.eight.result c.eight.ensures

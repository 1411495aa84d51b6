-- `bits::word` meets its contract: the field is cut out of the eight bytes that it lies within.
use Rattle.bits.proofs.Spelt.{cut}
use Rattle.bits.proofs.word.Goals as goal

pub returns : goal.returns
returns c = cut _ _ _ _ c.min-m.ensures c.eight.ensures

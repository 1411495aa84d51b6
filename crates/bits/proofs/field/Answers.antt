-- `bits::field` meets its contract: 16 bits are a number below 2 ^ 16.
use Rattle.bits.proofs.Spelt.{small}
use Rattle.bits.proofs.field.Goals as goal

pub overflow_cast-result : goal.overflow_cast-result
overflow_cast-result c = record { fits = small _ _ _ _ c.min.ensures c.word.ensures }

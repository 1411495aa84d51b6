-- `huffman::long_regions` meets its contract: the starts of the bands that the definition names.
-- Assumes nothing.
use Rattle.standard.specs.Numbers.{regions_by}
use Rattle.huffman.proofs.long_regions.Goals as goal

pub returns : goal.returns
unfolding regions_by
returns c = λ j. record { first = c.long_start.ensures j; second = c.long_start-2.ensures j }

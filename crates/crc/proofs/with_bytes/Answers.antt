-- `crc::with_bytes` meets its contract: what is left to go in comes to the whole.
-- Assumes nothing.
use native.Mathlib.Omega.{arith}
use Rattle.crc.proofs.Strings.{begin_feeding, feed-on, end-feeding}
use Rattle.crc.proofs.with_bytes.Goals as goal

pub loop-i-init : goal.loop-i-init
loop-i-init c = begin_feeding _ _ _ _ (omega arith)

pub loop-i-preserved : goal.loop-i-preserved
loop-i-preserved c = feed-on c.loop-i.invariant c.loop-i-test.true _ _ c.byte.ensures.0 c.byte.ensures.1 c.with_byte-word.ensures

pub returns : goal.returns
returns c = end-feeding c.loop-i.invariant c.loop-i-test.false

-- `crc::parity` meets its contract: the bits are folded to four.
-- Assumes nothing.
use mathlib.Core.Path.{sym}
use native.Mathlib.Omega.{arith}
use Rattle.standard.specs.Written.{bits_of, value-bits_of}
use Rattle.crc.proofs.Words.{by_folding}
use Rattle.crc.proofs.parity.Goals as goal

pub returns : goal.returns
unfolding bits_of
returns c = (by_folding _ _ _ _ _ _ _ _ _ (sym (value-bits_of 8 _ c.requires)), omega arith)

-- `crc::with_bytes` meets its contract: what is left to go in comes to the whole.
-- Assumes nothing.
use Prim.Native.Nat.{◌*◌}
use Rattle.standard.specs.Bits.{between, value}
use Rattle.standard.specs.Written.{bits_of}
use Rattle.standard.specs.Crc.{fed}
use Rattle.crc.proofs.Strings.{Feeding}
use Rattle.crc.proofs.with_bytes.Given as goal

abbrev pub invariant-loop-i : goal.invariant-loop-i
invariant-loop-i l = Feeding (value (fed (bits_of 16 l.c) (between l.s (8 * l.from) (8 * l.to)))) l.s l.to l.word l.i

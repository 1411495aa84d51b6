-- `crc::with_byte` meets its contract, by the law of the register after a byte.
-- Assumes nothing.
use mathlib.Core.Path.{sym}
use Prim.Native.Nat.{◌/◌, ◌^◌, ◌<◌}
use native.Mathlib.Omega.{arith}
use lib.Bits.{xor_lt}
use Rattle.standard.specs.Written.{bits_of, value-bits_of}
use Rattle.crc.proofs.Words.{by_shifts}
use Rattle.crc.proofs.with_byte.Goals as goal

pub parity-requires : goal.parity-requires
parity-requires c = let h : c.args.c / 256 < 2 ^ 8 = omega arith in xor_lt 8 (c.args.c / 256) c.args.b h c.requires

pub returns : goal.returns
unfolding bits_of
returns c =
    let a = c.args in
    let h : a.c < 2 ^ 16 = omega arith in
    by_shifts _ _ _ _ _ _ _ _ _ _ _ _ _ _ _ _ _ _ _ _ _ _ _ _ _ _ _ (sym (value-bits_of 16 a.c h)) (sym (value-bits_of 8 _ c.requires))
    c.parity.ensures.0

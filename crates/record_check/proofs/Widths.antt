-- How wide the fields of a record are, and the divisor that leaves a field's bits.
use mathlib.Core.Path.{◌≡◌, ◌∙◌}
use mathlib.Core.Bool.{Bool, true, false}
use Prim.Native.Nat.{ℕ, ◌+◌, ◌*◌, ◌%◌, ◌^◌, ◌≤◌, ◌<◌}
use native.Mathlib.Omega.{arith}
use lib.Pow.{shl_exact}
use Rattle.standard.specs.Record.{compress_width, record_width}

-- the window's bits end before the last two flags
pub width : (mpeg1 : Bool) → (54 + compress_width mpeg1 ≤ record_width mpeg1) × (compress_width mpeg1 ≤ 9) × (record_width mpeg1 ≤ 63)
width true = (omega arith, omega arith, omega arith)
width false = (omega arith, omega arith, omega arith)

-- the divisor that leaves n bits, in w bits
pub mask : (w n : ℕ) → n < w → 1 * 2 ^ n % 2 ^ w ≡ 2 ^ n
mask w n h = let p : 1 * 2 ^ n ≡ 2 ^ n = omega arith in shl_exact 1 n w (omega arith) (omega arith) ∙ p

-- A field of no more than nine bits is read whole.
use mathlib.Core.Path.{◌≡◌, ap, ◌∙◌}
use mathlib.Core.List.{List}
use Prim.Native.Nat.{ℕ, ◌≤◌, min}
use native.Mathlib.Omega.{arith}
use Rattle.standard.specs.Bits.{field_at}

pub whole : (s : List ℕ) (at : ℕ) {n x : ℕ} → n ≤ 9 → x ≡ field_at s at (min n 16) → x ≡ field_at s at n
whole s at {n} h e = let p : min n 16 ≡ n = omega arith in e ∙ ap (field_at s at) p

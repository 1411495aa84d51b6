-- `scale_factors::read_factor` meets its contract: the test picks the source, and a field of at most 5 bits is a byte.
-- Assumes nothing.
use mathlib.Core.Path.{◌≡◌, sym, ap, ◌∙◌}
use mathlib.Core.Bool.{Bool}
use mathlib.Core.List.{List}
use Prim.Native.Nat.{ℕ, ◌≤◌, ◌<◌, ◌^◌, min}
use native.Mathlib.Omega.{arith}
use lib.ListN.{get_or}
use lib.Pow.{pow_mono}
use Rattle.standard.specs.Told.{pick}
use Rattle.standard.specs.Bits.{bits, value, field_at}
use Rattle.standard.specs.BitsLaws.{take-bits, field_at_lt}
use Rattle.standard.specs.Factors.{shared, coded, width_of, factor_by}
use Rattle.scale_factors.proofs.read_factor.Goals as goal

byte : (s : List ℕ) (at width v : ℕ) → width ≤ 5 → v ≡ field_at s at (min width 16) → v < 256
byte s at width v h e =
    let k : min width 16 ≤ 5 = omega arith in
    let m : 2 ^ min width 16 ≤ 2 ^ 5 = pow_mono k in
    omega (arith, field_at_lt s at (min width 16))

pub overflow_cast-result : goal.overflow_cast-result
overflow_cast-result c =
    let a = c.args in
    record { fits = byte a.s.now a.at a.g.length _ c.requires.1 c.field.ensures }

pub returns : goal.returns
unfolding pick field_at
returns c =
    let a = c.args in
    let w : min a.g.length 16 ≡ a.g.length = omega (arith, c.requires.1) in
    c.field.ensures
    ∙ ap (λ (n : ℕ). value (bits a.s.now a.at n)) w
    ∙ ap value (sym (take-bits a.g.length a.s.now a.at a.g.length (omega arith)))
    ∙ ap (λ (x : Bool). let k = pick x shared (coded a.g.length) in factor_by k (get_or a.old.now a.i 0) (bits a.s.now a.at (width_of k))) (sym c.if-g.false)

-- `huffman::values::number` meets its contract: the sign stands after the escape. Assumes nothing.
use Rattle.std.specs.Prelude.{Some, None}
use mathlib.Core.Path.{◌≡◌, sym, subst}
use Prim.Native.Nat.{◌+◌}
use native.Mathlib.Omega.{arith}
use lib.IntN.{ℤ}
use mir.Syntax.{w32}
use mir.Val.{to_z, of_z}
use Rattle.standard.specs.Numbers.{number_in}
use Rattle.standard.specs.Codes.{taken}
use Rattle.huffman.specs.Owns.{Owns}
use Rattle.huffman.proofs.Numerals.{number_is}
use borrow.Author.Rules.{rules}
use Rattle.huffman.proofs.values.number.Goals as goal

pub returns : goal.returns
returns c =
    let a = c.args in
    let m = c.extent-m in
    let n = c.with_sign-n in
    let k : to_z w32 (of_z w32 n.result.value) ≡ n.result.value = search rules in (
      (λ s p e. subst (λ (i : ℤ). Owns (number_in a.width a.value) (Some (taken i (m.result.used + n.result.used))) None s (p + a.gone) (m.result.used + n.result.used)) (sym k) (number_is a.width a.value m.result.value m.result.used n.result.used n.result.value s p a.gone (m.ensures.0 s p e) (n.ensures.0 s p e))),
      omega (arith, m.ensures.1, n.ensures.1, c.requires.1),
    )

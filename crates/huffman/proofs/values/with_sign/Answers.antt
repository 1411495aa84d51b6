-- `huffman::values::with_sign` meets its contract: 0 has no sign bit, and any other number has the next bit. Assumes nothing.
use Rattle.std.specs.Prelude.{Some, None}
use mathlib.Core.Path.{◌≡◌, sym, subst}
use Prim.Native.Nat.{◌+◌}
use native.Mathlib.Omega.{arith}
use lib.IntN.{ℤ}
use mir.Syntax.{w32}
use mir.Val.{to_z, of_z}
use Rattle.standard.specs.Numbers.{signed}
use Rattle.standard.specs.Codes.{taken}
use Rattle.huffman.specs.Owns.{Owns}
use Rattle.huffman.proofs.Numerals.{signed_is}
use borrow.Author.Rules.{rules}
use Rattle.huffman.proofs.values.with_sign.Goals as goal

pub returns : goal.returns
returns c =
    let a = c.args in
    let k : to_z w32 (of_z w32 c.sign_of-z.result) ≡ c.sign_of-z.result = search rules in
    let u = c.min-used in (
      (λ s p e. subst (λ (i : ℤ). Owns (signed a.value) (Some (taken i u.result)) None s (p + a.gone) u.result) (sym k) (signed_is a.value s p a.word a.gone u.result c.bit_of-minus.result c.sign_of-z.result e c.requires.0 u.ensures c.bit_of-minus.ensures c.sign_of-z.ensures)),
      omega (arith, u.ensures),
    )

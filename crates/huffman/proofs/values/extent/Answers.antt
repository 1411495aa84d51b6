-- `huffman::values::extent` meets its contract: 15 has an escape where its table has escapes. Assumes nothing.
use Rattle.std.specs.Prelude.{Some, None}
use mathlib.Core.Path.{sym, subst}
use Prim.Native.Nat.{ℕ, ◌+◌, ◌*◌, ◌^◌}
use native.Mathlib.Omega.{arith}
use Rattle.standard.specs.Numbers.{magnitude_of}
use Rattle.standard.specs.Codes.{taken}
use Rattle.huffman.specs.Owns.{Owns}
use Rattle.huffman.proofs.Owning.{magnitude_plain}
use Rattle.huffman.proofs.Numerals.{extent_none, extent_some, top_lt}
use Rattle.huffman.proofs.values.extent.Goals as goal

pub returns-then-value-ne15 : goal.returns-then-value-ne15
returns-then-value-ne15 c = let a = c.args in ((λ s p e. magnitude_plain a.width a.value c.if-value-ne15.true s (p + a.gone)), omega arith, omega (arith, c.requires.2))

pub returns-then-width-eq0 : goal.returns-then-width-eq0
returns-then-width-eq0 c =
    let a = c.args in (
      (λ s p e. subst (λ (w : ℕ). Owns (magnitude_of w a.value) (Some (taken a.value 0)) None s (p + a.gone) 0) (sym c.if-width-eq0.true) (extent_none a.value s (p + a.gone) c.if-value-ne15.false)),
      omega arith,
      omega (arith, c.requires.2),
    )

pub overflow_cast-more : goal.overflow_cast-more
overflow_cast-more c = let a = c.args in let l = top_lt (a.word * 2 ^ a.gone) a.width c.requires.1 in record { fits = omega (arith, l) }

pub overflow_add-result : goal.overflow_add-result
overflow_add-result c = let a = c.args in let l = top_lt (a.word * 2 ^ a.gone) a.width c.requires.1 in record { fits = omega (arith, l) }

pub returns : goal.returns
returns c =
    let a = c.args in
    let l = top_lt (a.word * 2 ^ a.gone) a.width c.requires.1 in (
      (λ s p e. extent_some a.width a.value s p a.word a.gone c.if-value-ne15.false e c.requires.0),
      omega arith,
      omega (arith, l),
    )

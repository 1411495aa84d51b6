-- `huffman::values::plain` meets its contract: the second number stands after the first, and neither has an escape. Assumes nothing.
use Rattle.std.specs.Prelude.{Ok, Err}
use mathlib.Core.Path.{◌≡◌, sym, subst}
use Prim.Native.Nat.{◌+◌}
use native.Mathlib.Omega.{arith}
use lib.IntN.{ℤ}
use mir.Syntax.{w32}
use mir.Val.{to_z, of_z}
use Rattle.standard.specs.Numbers.{two_of}
use Rattle.standard.specs.declared.Refusal.TheVariants.{PairOverrun}
use Rattle.standard.specs.Codes.{taken}
use Rattle.huffman.specs.Owns.{Owns}
use Rattle.huffman.proofs.Owning.{number_plain}
use Rattle.huffman.proofs.Numerals.{two_is}
use borrow.Author.Rules.{rules}
use Rattle.huffman.proofs.values.plain.Goals as goal

pub returns : goal.returns
returns c =
    let a = c.args in
    let m = c.with_sign-a in
    let n = c.with_sign-b in
    let k : to_z w32 (of_z w32 m.result.value) ≡ m.result.value = search rules in
    let l : to_z w32 (of_z w32 n.result.value) ≡ n.result.value = search rules in (
      (λ w s p e.
          subst (λ (i : ℤ). Owns (two_of w a.x a.y) (Ok (taken (i, to_z w32 (of_z w32 n.result.value)) (m.result.used + n.result.used))) (Err PairOverrun) s (p + a.gone) (m.result.used + n.result.used)) (sym k)
          (subst (λ (j : ℤ). Owns (two_of w a.x a.y) (Ok (taken (m.result.value, j) (m.result.used + n.result.used))) (Err PairOverrun) s (p + a.gone) (m.result.used + n.result.used)) (sym l)
          (two_is w a.x a.y m.result.used n.result.used m.result.value n.result.value s p a.gone
          (number_plain w a.x _ _ (λ h. omega (arith, c.requires.1)) s _ (m.ensures.0 s p e)) (number_plain w a.y _ _ (λ h. omega (arith, c.requires.2)) s _ (n.ensures.0 s p e))))),
      omega (arith, m.ensures.1, n.ensures.1),
    )

-- `huffman::quads::quad_code` meets its contract. Assumes nothing.
use mathlib.Core.Path.{◌≡◌, refl, sym, subst}
use mathlib.Core.Bool.{Bool, true, false}
use Rattle.standard.specs.Codes.{published}
use Rattle.standard.specs.Numbers.{quad_table}
use Rattle.huffman.specs.Signed.{with_signs, held}
use Rattle.huffman.proofs.Fours.{held-quads}
use Rattle.huffman.proofs.quads.quad_code.Goals as goal

pub returns-then-count1 : goal.returns-then-count1
returns-then-count1 c = subst (λ (x : Bool). held 35 ≡ with_signs (published (quad_table x))) (sym c.if-count1.true) (held-quads true 35 refl)

pub returns : goal.returns
returns c = subst (λ (x : Bool). held 34 ≡ with_signs (published (quad_table x))) (sym c.if-count1.false) (held-quads false 34 refl)

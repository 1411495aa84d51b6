-- `bits::near_eight` meets its contract: the bits of eight bytes spell them in turn.
use mathlib.Core.Path.{◌∙◌}
use native.Mathlib.Omega.{arith}
use Rattle.bits.proofs.Spelt.{eight_spelt}
use Rattle.bits.proofs.near_eight.Goals as goal

pub returns : goal.returns
returns c = c.from_be_bytes.ensures ∙ eight_spelt c.args.s.now c.args.i (λ k. omega (arith, c.type_inv.s k))

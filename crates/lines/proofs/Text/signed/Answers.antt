-- A minus sign is put where the number is below 0 (Signs).
use Rattle.std.proofs.Common.{subst}
use Rattle.lines.specs.declared.Text.{Text}
use Rattle.lines.specs.Adds.{Adds}
use Rattle.lines.specs.Text.{decimal_of}
use Rattle.lines.specs.AddsLaws.{adds_same, adds_then}
use Rattle.lines.proofs.Signs.{minus_text, plain_text}
use Rattle.lines.proofs.Text.signed.Goals as goal
use Rattle.lines.proofs.Text.signed.Goals.{then-n-lt0, else-n-lt0}

pub returns : goal.returns
returns c =
    let n = c.args.n in
    let size = c.unsigned_abs.ensures.value in
    let number_at : Text → Type 0 = λ a. Adds a (decimal_of c.unsigned_abs.result) c.number.new.self in
    elim c.if-n-lt0.branch [
      | then-n-lt0 w ↦
          adds_same (minus_text n c.ranges.n w.if-n-lt0.true size) (adds_then w.put.ensures (subst number_at w.self-is c.number.ensures))
      | else-n-lt0 w ↦
          adds_same (plain_text n c.ranges.n w.if-n-lt0.false size) (subst number_at w.self-is c.number.ensures)
    ]

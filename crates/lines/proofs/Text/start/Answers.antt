-- The test picks the granule and the channel.
use Rattle.std.proofs.Common.{◌≡◌, ℕ, ap, sym, ◌∙◌, ◌/◌, ◌%◌}
use Rattle.standard.specs.Told.{pick}
use Rattle.standard.specs.ToldLaws.{picked, passed}
use Rattle.lines.specs.AddsLaws.{adds_same}
use Rattle.lines.specs.Said.{slot_start}
use Rattle.lines.proofs.Text.start.Goals as goal
use Rattle.lines.proofs.Text.start.Goals.{then-two, else-two}

both : {a b c d : ℕ} → c ≡ a → d ≡ b → ◌≡◌ {A = ℕ × ℕ} (a, b) (c, d)
both e f = λ j. (sym e j, sym f j)

pub returns : goal.returns
unfolding slot_start
returns c =
    let two = c.args.two in
    let n = c.args.n in
    let e : c.if-two.granule ≡ (pick two (n / 2) n, pick two (n % 2) 0) =
    elim c.if-two.branch [
      | then-two w ↦ w.granule-is ∙ both (picked n w.if-two.true) (picked 0 w.if-two.true)
      | else-two w ↦ w.granule-is ∙ both (passed (n / 2) w.if-two.false) (passed (n % 2) w.if-two.false)
    ] in
    adds_same (ap (λ p. slot_start p.0 p.1) e) c.two.ensures

-- `huffman::regions_of` meets its contract: a clause for each shape.
-- Assumes nothing.
use mathlib.Core.Logic.{inl, inr}
use mathlib.Core.Path.{sym, ap, ◌∙◌}
use Rattle.standard.specs.Numbers.{regions_by}
use Rattle.standard.specs.declared.Shape.{Shape}
use Rattle.huffman.proofs.regions_of.Goals as goal

pub returns-in-AllLong : goal.returns-in-AllLong
returns-in-AllLong c =
    let a = c.args in
    c.long_regions.ensures
    ∙ ap (λ (k : Shape). regions_by k a.rate a.r) (sym c.in-AllLong.is ∙ c.shape_of-shape.ensures)

pub returns-in-AllShort : goal.returns-in-AllShort
unfolding regions_by
returns-in-AllShort c =
    let a = c.args in
    elim c.in-AllShort.is [
      | inl e ↦ c.window_regions.ensures ∙ ap (λ (k : Shape). regions_by k a.rate a.r) (sym e ∙ c.shape_of-shape.ensures)
      | inr e ↦ c.window_regions.ensures ∙ ap (λ (k : Shape). regions_by k a.rate a.r) (sym e ∙ c.shape_of-shape.ensures)
    ]

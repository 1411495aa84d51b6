-- `row_of` meets its contract: its pieces are the row. Assumes nothing.
use mathlib.Core.Path.{◌≡◌, refl, sym, ap, ◌∙◌}
use borrow.Author.Rules.{rules}
use mathlib.Core.List.{List}
use Prim.Native.Nat.{ℕ}
use lib.ListN.{length}
use lib.Seq.{paste}
use Rattle.front_end.specs.Calls.{slot_row}
use Rattle.front_end.proofs.Laws.{row_put, row_blank}
use Rattle.front_end.proofs.rows.row_of.Goals.{in-Read, in-NotRead, in-Lacking}
use Rattle.front_end.proofs.rows.row_of.Goals as goal

pub returns : goal.returns
unfolding slot_row
returns c =
    let r = c.args.r in
    let v = c.scale_values.result in
    let scaled = λ (x : List ℕ). paste x 63 v (length v) in
    elim c.match-a.branch [
      | in-Read w ↦
          let short = w.in-Read.short in
          let l : length w.in-Read.long ≡ 22 = search rules in
          let s : length short ≡ 39 = search rules in
          c.put_bytes-2.ensures
          ∙ ap scaled (w.row-is ∙ w.put_bytes-in-Read.ensures ∙ ap (λ (x : List ℕ). paste x 24 short (length short)) w.put_bytes.ensures)
          ∙ row_put r w.in-Read.count w.in-Read.long short l s c.scale_values.ensures
          ∙ sym (ap (slot_row r) w.in-Read.is)
      | in-NotRead w ↦ c.put_bytes-2.ensures
          ∙ ap scaled w.row-is
          ∙ row_blank r (w.from.ensures ∙ w.number_of.ensures) c.scale_values.ensures
          ∙ sym (ap (slot_row r) w.in-NotRead.is)
      | in-Lacking w ↦ c.put_bytes-2.ensures ∙ ap scaled w.row-is ∙ row_blank r refl c.scale_values.ensures ∙ sym (ap (slot_row r) w.in-Lacking.is)
    ]

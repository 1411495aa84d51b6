-- `reorder::reorder` meets its contract: its tests are the definition's, and the numbers of its short bands are reordered from the first on.
-- Assumes nothing.
use mathlib.Core.Path.{◌≡◌, sym, ap, ◌∙◌}
use mathlib.Core.Bool.{Bool, false, ◌&&◌}
use mathlib.Core.List.{List, ◌++◌}
use Prim.Native.Nat.{ℕ}
use native.Mathlib.Omega.{arith}
use lib.IntN.{ℤ}
use lib.ListN.{drop, take-append-drop}
use Rattle.std.specs.Prelude.{Ok, Err}
use Rattle.std.specs.Array.{IsFirstChunk}
use Rattle.standard.specs.Refusals.{Answers}
use Rattle.standard.specs.Header.{is_header}
use Rattle.standard.specs.SideInfo.{is_record_under}
use Rattle.standard.specs.Reorder.{first_short, reorder_of, reordered_from}
use Rattle.standard.specs.declared.FrameHeader.{FrameHeader}
use Rattle.standard.specs.declared.SlotRecord.{SlotRecord}
use Rattle.standard.specs.declared.Refusal.TheVariants.{MadeUpRecord}
use Rattle.standard.proofs.RefusalsLaws.{answers_refused, answers_told}
use Rattle.standard.proofs.ReorderLaws.{few_numbers, made_up, in_order, first-le}
use Rattle.reorder.proofs.Bands.{reordered-first}
use Rattle.reorder.proofs.reorder.Goals as goal
use Rattle.reorder.proofs.reorder.Goals.{else-is_header-via-then-is_header+else-is_record, else-is_header-via-else-is_header}

pub returns-in_default : goal.returns-in_default
returns-in_default c = answers_refused (few_numbers _ _ _ c.in_default.ensures.cases)

pub reorder_from-requires : goal.reorder_from-requires
reorder_from-requires c = omega (arith, c.first_short-first.ensures, first-le c.shape_of.result)

pub returns-then-is_record : goal.returns-then-is_record
returns-then-is_record c =
    let a = c.args in
    let chunk = c.in-Some.ensures.cases in
    let header = sym c.is_header.ensures ∙ c.if-is_header.true in
    let slot = sym c.is_record.ensures ∙ c.if-is_record.true in
    let first = c.first_short-first.ensures ∙ ap first_short c.shape_of.ensures in
    rw (c.reorder_from.ensures ∙ ap (reordered_from a.h.rate c.first_short-first.result) chunk.same)
    (answers_told
    (in_order _ _ _ chunk.enough header slot
    ∙ ap (λ (k : ℕ). Ok (reordered_from a.h.rate k a.numbers.now)) (sym first)
    ∙ ap (λ (x : List ℤ). Ok x) (sym (reordered-first a.h.rate c.first_short-first.result a.numbers.now))))

-- the numbers are written back as they were
refused : (h : FrameHeader) (r : SlotRecord) {d slot left : List ℤ} → IsFirstChunk d slot 576 → is_header h && is_record_under h r ≡ false
    → left ≡ slot ++ drop 576 d
    → Answers d (Err MadeUpRecord) left (reorder_of h r d)
refused h r {d} chunk e n =
    rw (n ∙ ap (λ (x : List ℤ). x ++ drop 576 d) chunk.same ∙ take-append-drop 576 d) (answers_refused (made_up h r d chunk.enough e))

pub returns : goal.returns
returns c =
    let a = c.args in
    elim c.else-is_header.branch [
      | else-is_header-via-then-is_header+else-is_record w ↦ refused a.h a.r c.in-Some.ensures.cases
          (ap (λ (x : Bool). x && is_record_under a.h a.r) (sym c.is_header.ensures ∙ w.if-is_header.true) ∙ sym w.is_record.ensures ∙ w.if-is_record.false)
          w.numbers-is
      | else-is_header-via-else-is_header w ↦ refused a.h a.r c.in-Some.ensures.cases
          (ap (λ (x : Bool). x && is_record_under a.h a.r) (sym c.is_header.ensures ∙ w.if-is_header.false)) w.numbers-is
    ]

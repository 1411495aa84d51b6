-- `read_slots_of` meets its contract: its tests are the definition's. Assumes nothing.
use mathlib.Core.Path.{refl, sym, ap, ◌∙◌}
use Rattle.std.proofs.lemmas.Result.{err_from_is_err_and}
use Rattle.standard.specs.declared.Refusal.TheVariants.{UnfitMemory}
use Rattle.front_end.specs.Calls.{rows_from}
use Rattle.front_end.proofs.Laws.{rows_back, under-no_header, under-no_side, under-both, records-in, slots-refused, slots-not, slots-done, slots-no_rows, slots-few, slots-fit}
use Rattle.front_end.proofs.read_slots_of.Goals as goal

pub returns-in_default : goal.returns-in_default
returns-in_default c =
    slots-refused UnfitMemory (slots-no_rows _ _ _ _ c.in_default.ensures.cases) refl refl refl

pub returns-then-few : goal.returns-then-few
returns-then-few c =
    slots-refused UnfitMemory (slots-few _ _ _ _ c.if-few.true) refl refl
    (rows_back c.args.rows.now c.in-Some.ensures.cases)

pub returns-in_err-h : goal.returns-in_err-h
returns-in_err-h c =
    let a = c.args in
    let chunk = c.in-Some.ensures.cases in
    let p = err_from_is_err_and c.from_residual.result c.from_residual.ensures.1 in
    rw (p.1, p.2)
    (slots-refused _
    (slots-fit a.frame.now a.main.now _ _ chunk.enough c.if-few.false
    ∙ under-no_header _ _ (sym c.in_err-h.ensures)) refl refl (rows_back a.rows.now chunk))

pub returns-in_err-i : goal.returns-in_err-i
returns-in_err-i c =
    let a = c.args in
    let chunk = c.in-Some.ensures.cases in
    let p = err_from_is_err_and c.from_residual-in_err-i.result c.from_residual-in_err-i.ensures.1 in
    rw (p.1, p.2)
    (slots-refused _
    (slots-fit a.frame.now a.main.now _ _ chunk.enough c.if-few.false
    ∙ under-no_side _ _ (sym c.in_ok-h.ensures) (sym c.in_err-i.ensures)) refl refl (rows_back a.rows.now chunk))

pub returns-in_err-slots : goal.returns-in_err-slots
returns-in_err-slots c =
    let a = c.args in
    let chunk = c.in-Some.ensures.cases in
    let p = err_from_is_err_and c.from_residual-in_err-slots.result c.from_residual-in_err-slots.ensures.1 in
    rw (p.1, p.2)
    (slots-not
    (slots-fit a.frame.now a.main.now _ _ chunk.enough c.if-few.false
    ∙ under-both _ _ (sym c.in_ok-h.ensures) (sym c.in_ok-i.ensures)) c.in_err-slots.ensures (rows_back a.rows.now chunk))

pub returns : goal.returns
returns c =
    let a = c.args in
    let chunk = c.in-Some.ensures.cases in
    let i = c.in_ok-i.i in
    slots-done (records-in a.frame.now (sym c.in_ok-h.ensures) (sym c.in_ok-i.ensures))
    (slots-fit a.frame.now a.main.now _ _ chunk.enough c.if-few.false
    ∙ under-both _ _ (sym c.in_ok-h.ensures) (sym c.in_ok-i.ensures)) c.in_ok-slots.ensures
    (c.put_rows.ensures _ ∙ ap (rows_from 0 i.slots c.in_ok-slots.slots) (rows_back a.rows.now chunk))

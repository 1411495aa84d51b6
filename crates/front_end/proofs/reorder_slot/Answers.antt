-- `reorder_slot` meets its contract: its tests are the definition's. Assumes nothing.
use mathlib.Core.Path.{refl, sym, ◌∙◌, subst}
use Prim.Native.Nat.{ℕ, ◌*◌, ◌≤◌, ◌<◌}
use native.Mathlib.Omega.{arith}
use Rattle.std.proofs.lemmas.Result.{err_from_is_err_and}
use Rattle.standard.specs.declared.Refusal.TheVariants.{UnfitMemory, MadeUpRecord}
use Rattle.front_end.proofs.Laws.{four_slots, under-no_header, under-no_side, under-both, reorder_refused, reorder_done, reorder_few, reorder_fits, reorder_there, reorder_lacking}
use Rattle.front_end.proofs.reorder_slot.Goals as goal

pub returns-then-numbers-lt-SLOT_NUMBERS : goal.returns-then-numbers-lt-SLOT_NUMBERS
returns-then-numbers-lt-SLOT_NUMBERS c = reorder_refused UnfitMemory (reorder_few _ _ _ c.if-numbers-lt-SLOT_NUMBERS.true) refl refl

pub returns-in_err-h : goal.returns-in_err-h
returns-in_err-h c =
    let a = c.args in
    let p = err_from_is_err_and c.from_residual.result c.from_residual.ensures.1 in
    rw (p.1, p.2)
    (reorder_refused _ (reorder_fits a.frame.now a.slot a.numbers.now c.if-numbers-lt-SLOT_NUMBERS.false ∙ under-no_header _ _ (sym c.in_err-h.ensures)) refl refl)

pub returns-in_err-i : goal.returns-in_err-i
returns-in_err-i c =
    let a = c.args in
    let p = err_from_is_err_and c.from_residual-in_err-i.result c.from_residual-in_err-i.ensures.1 in
    rw (p.1, p.2)
    (reorder_refused _
    (reorder_fits a.frame.now a.slot a.numbers.now c.if-numbers-lt-SLOT_NUMBERS.false ∙ under-no_side _ _ (sym c.in_ok-h.ensures) (sym c.in_err-i.ensures)) refl refl)

pub overflow_mul-granules : goal.overflow_mul-granules
overflow_mul-granules c = record { fits = omega (arith, four_slots c.in_ok-h.h c.granules.ensures c.channel_count.ensures) }

pub bounds-i-slot : goal.bounds-i-slot
bounds-i-slot c = omega (arith, four_slots c.in_ok-h.h c.granules.ensures c.channel_count.ensures)

pub offset_bounds-i-slot : goal.offset_bounds-i-slot
offset_bounds-i-slot c = omega (arith, bounds-i-slot c)

pub returns-then-granules-channel_count : goal.returns-then-granules-channel_count
returns-then-granules-channel_count c =
    let a = c.args in
    let lacking = subst (λ (x : ℕ). x ≤ a.slot) (λ j. c.granules.ensures j * c.channel_count.ensures j) c.if-granules-channel_count.true in
    reorder_refused MadeUpRecord
    (reorder_fits a.frame.now a.slot a.numbers.now c.if-numbers-lt-SLOT_NUMBERS.false
    ∙ under-both _ _ (sym c.in_ok-h.ensures) (sym c.in_ok-i.ensures)
    ∙ reorder_lacking a.frame.now a.slot a.numbers.now c.in_ok-h.h c.in_ok-i.i lacking) refl refl

pub returns : goal.returns
returns c =
    let a = c.args in
    let there = subst (λ (x : ℕ). a.slot < x) (λ j. c.granules.ensures j * c.channel_count.ensures j) c.if-granules-channel_count.false in
    reorder_done
    (reorder_fits a.frame.now a.slot a.numbers.now c.if-numbers-lt-SLOT_NUMBERS.false
    ∙ under-both _ _ (sym c.in_ok-h.ensures) (sym c.in_ok-i.ensures)
    ∙ reorder_there a.frame.now a.slot a.numbers.now c.in_ok-h.h c.in_ok-i.i there) c.reorder.ensures refl

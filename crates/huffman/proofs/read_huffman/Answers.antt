-- `huffman::read_huffman` meets its contract: the two tests are the definition's, a refused slot is copied nowhere, and what was read into zeros is the padded whole that is copied. Assumes nothing.
use borrow.Author.Rules.{rules}
use Rattle.std.specs.Prelude.{Err}
use mathlib.Core.Path.{◌≡◌, refl, sym, ap, ◌∙◌}
use lib.Seq.{length-take-le}
use Rattle.std.proofs.lemmas.Slice.{put_mid-paste}
use Rattle.standard.specs.Numbers.{Numbers}
use Rattle.huffman.specs.Slot.{count_of, numbers_after}
use Rattle.huffman.specs.SlotLaws.{slot_unfit, slot_crowded, slot_fits, refused_as}
use Rattle.huffman.proofs.Whole.{whole-halted, whole-read, least-read}
use Rattle.huffman.proofs.read_huffman.Goals as goal

pub returns-then-numbers-lt-SLOT_NUMBERS : goal.returns-then-numbers-lt-SLOT_NUMBERS
returns-then-numbers-lt-SLOT_NUMBERS c =
    let w = refused_as _ _ _ (slot_unfit _ _ _ _ _ c.if-numbers-lt-SLOT_NUMBERS.true) in
    record { result_value = w.0; numbers_after = w.1 }

pub returns-then-r-gt-MOST_BIG_VALUES : goal.returns-then-r-gt-MOST_BIG_VALUES
returns-then-r-gt-MOST_BIG_VALUES c =
    let w = refused_as _ _ _ (slot_crowded _ _ _ _ _ c.if-numbers-lt-SLOT_NUMBERS.false c.if-r-gt-MOST_BIG_VALUES.true) in
    record { result_value = w.0; numbers_after = w.1 }

pub returns-in_err-count : goal.returns-in_err-count
returns-in_err-count c =
    let t : c.from_residual.result ≡ Err c.in_err-count.field-0.0 = search rules in
    let w =
    refused_as _ _ _
    (slot_fits _ _ _ _ _ c.if-numbers-lt-SLOT_NUMBERS.false c.if-r-gt-MOST_BIG_VALUES.false
    ∙ whole-halted _ _ _ _ _ (least-read _ _ _ _ _ _ _ _ _ c.min-start.ensures c.decode.ensures) c.in_err-count.was)
    in
    record { result_value = t ∙ w.0; numbers_after = w.1 }

pub copy_from_slice-requires : goal.copy_from_slice-requires
copy_from_slice-requires c = length-take-le 576 c.args.numbers.now c.if-numbers-lt-SLOT_NUMBERS.false ∙ sym c.decode.ensures.long

pub returns : goal.returns
returns c =
    let e = slot_fits _ _ _ _ _ c.if-numbers-lt-SLOT_NUMBERS.false c.if-r-gt-MOST_BIG_VALUES.false in
    let w = whole-read _ _ _ _ (least-read _ _ _ _ _ _ _ _ _ c.min-start.ensures c.decode.ensures) c.in_ok-count.was _ _
    (put_mid-paste 0 576 c.args.numbers.now _ _ 576 c.copy_from_slice.ensures.after refl (sym c.decode.ensures.long)) in
    record { result_value = w.0 ∙ ap count_of (sym e); numbers_after = w.1 ∙ ap (λ (q : Numbers). numbers_after q c.args.numbers.now) (sym e) }

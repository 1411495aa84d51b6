-- `side_info::record::record_of` meets its contract: its tests are the definition's, in the definition's order.
-- Assumes nothing.
use Rattle.std.proofs.Common.{sym, ap, ◌∙◌, ◌/◌, ◌%◌, ◌^◌, eqb, arith, Ok}
use Rattle.standard.specs.Record.{compress_width, switched_of}
use Rattle.side_info.specs.Parts.{record_bits}
use Rattle.side_info.proofs.Fields.{says_many, says_long, says_forbidden, says_mixed, says_switched}
use Rattle.side_info.proofs.record.record_of.Goals as goal

pub returns-then-pairs-gt-MOST_BIG_VALUES : goal.returns-then-pairs-gt-MOST_BIG_VALUES
returns-then-pairs-gt-MOST_BIG_VALUES c = λ mpeg1 s at e. sym (says_many e _ (omega arith))

pub returns-then-switched-ne1 : goal.returns-then-switched-ne1
returns-then-switched-ne1 c =
    λ mpeg1 s at e. ap Ok (c.long_record.ensures mpeg1 s at e) ∙ sym (says_long e _ (omega arith) c.if-switched-ne1.true)

pub returns-then-t-eq0 : goal.returns-then-t-eq0
returns-then-t-eq0 c = λ mpeg1 s at e. sym (says_forbidden e _ (omega arith) c.if-switched-ne1.false c.if-t-eq0.true)

pub returns-then-slow-is_mixed : goal.returns-then-slow-is_mixed
returns-then-slow-is_mixed c =
    λ mpeg1 s at e. sym
    (says_mixed e _ (omega arith) c.if-switched-ne1.false c.if-t-eq0.false c.block_of-block.ensures c.shape_of-shape.ensures
    c.is_mixed.ensures c.if-slow-is_mixed.true)

pub returns : goal.returns
returns c =
    let a = c.args in
    λ mpeg1 s at e.
    ap Ok
    (c.switched_record.ensures mpeg1 s at e
    ∙ (λ j. switched_of mpeg1 (compress_width mpeg1) (c.block_of-block.ensures j) (eqb (a.w / 2 ^ 19 % 2) 1) (record_bits mpeg1 s at)))
    ∙ sym
    (says_switched e _ (omega arith) c.if-switched-ne1.false c.if-t-eq0.false c.block_of-block.ensures c.shape_of-shape.ensures
    c.is_mixed.ensures c.if-slow-is_mixed.false)

-- `read_whole` meets its contract: its tests are the definition's, and its numbers those of the published codes. Assumes nothing.
use Rattle.std.proofs.Common.{refl, sym, ap, ◌∙◌, ℕ, ◌+◌, Bool, ◌&&◌, arith}
use Rattle.std.specs.Prelude.{◌≡◌, true, false, not, is_none, is_some, Option, List}
use Rattle.standard.specs.Bits.{between}
use Rattle.standard.specs.Codes.{word_of}
use Rattle.standard.specs.Numbers.{Numbers, numbers_of}
use Rattle.standard.specs.Slots.{any_of}
use Rattle.standard.specs.Record.{shape_of}
use Rattle.standard.specs.Factors.{long_factors, short_factors}
use Rattle.scale_factors.specs.Groups.{factors_at}
use Rattle.huffman.specs.Slot.{count_of, numbers_after as slotLeft}
use Rattle.frame.specs.Slot.{shared_of}
use Rattle.frame.proofs.Slots.{slot_factors, slot_lost, slot_numbers_lem, stopped_read, numbers-refused, numbers-counted, huffman_numbers_lem}
use Rattle.standard.specs.declared.SlotAnswer.TheVariants.{Read}
use Rattle.frame.proofs.slot.read_whole.Goals as goal

pub returns-then-length-part2 : goal.returns-then-length-part2
returns-then-length-part2 c =
    let a = c.args in
    let over = slot_factors a.g a.r (is_none a.old) (shared_of a.old) a.main.now a.at (omega (arith, c.read_scale_factors-f.ensures.0, c.if-length-part2.true)) in
    stopped_read over refl refl

-- whether granule 0's slot was refused, as the code asks it
none_asked : (o : Option (List ℕ)) {x : Bool} → is_some o ≡ not x → x ≡ is_none o
none_asked o {x = true} e = ap not (sym e)
none_asked o {x = false} e = ap not (sym e)

pub returns-then-share_lost : goal.returns-then-share_lost
returns-then-share_lost c =
    let a = c.args in
    let lost = ap (λ (x : Bool). any_of a.g.shares && x) (sym (none_asked a.old c.is_none.ensures)) ∙ sym c.share_lost.ensures ∙ c.if-share_lost.true in
    stopped_read
    (slot_lost a.g a.r (is_none a.old) (shared_of a.old) a.main.now a.at (omega (arith, c.read_scale_factors-f.ensures.0, c.if-length-part2.false)) lost) refl
    refl

pub returns-in-Err : goal.returns-in-Err
returns-in-Err c =
    let a = c.args in
    let part2 = c.read_scale_factors-f.ensures.0 in
    let kept = ap (λ (x : Bool). any_of a.g.shares && x) (sym (none_asked a.old c.is_none.ensures)) ∙ sym c.share_lost.ensures ∙ c.if-share_lost.false in
    let slot =
    slot_numbers_lem a.g a.r (is_none a.old) (shared_of a.old) a.main.now a.at (omega (arith, part2, c.if-length-part2.false)) kept in
    let e =
    huffman_numbers_lem a.g.rate a.r _ a.numbers.now c.requires.0 c.requires.1
    ∙ ap (λ (n : ℕ). numbers_of word_of a.g.rate a.r (between a.main.now (a.at + n) (a.at + a.r.part2_3_length))) part2 in
    let left = c.read_huffman.ensures.numbers_after ∙ ap (λ (q : Numbers). slotLeft q a.numbers.now) e in
    let told = sym c.in-Err.is ∙ c.read_huffman.ensures.result_value ∙ ap count_of e in
    rw slot (numbers-refused _ _ _ _ _ _ _ _ told left refl)

pub returns-in-Ok : goal.returns-in-Ok
returns-in-Ok c =
    let a = c.args in
    let part2 = c.read_scale_factors-f.ensures.0 in
    let kept = ap (λ (x : Bool). any_of a.g.shares && x) (sym (none_asked a.old c.is_none.ensures)) ∙ sym c.share_lost.ensures ∙ c.if-share_lost.false in
    let slot =
    slot_numbers_lem a.g a.r (is_none a.old) (shared_of a.old) a.main.now a.at (omega (arith, part2, c.if-length-part2.false)) kept in
    let e =
    huffman_numbers_lem a.g.rate a.r _ a.numbers.now c.requires.0 c.requires.1
    ∙ ap (λ (n : ℕ). numbers_of word_of a.g.rate a.r (between a.main.now (a.at + n) (a.at + a.r.part2_3_length))) part2 in
    let left = c.read_huffman.ensures.numbers_after ∙ ap (λ (q : Numbers). slotLeft q a.numbers.now) e in
    let told = sym c.in-Ok.is ∙ c.read_huffman.ensures.result_value ∙ ap count_of e in
    let old = c.unwrap_or.ensures in
    rw slot
    (numbers-counted _ _ _ _ _ _ _ _ told left
    (λ j. Read c.in-Ok.count
    ((c.read_scale_factors-f.ensures.1 ∙ ap (λ (l : List ℕ). long_factors a.g.mpeg1 (shape_of a.r) (factors_at a.g a.r l a.main.now a.at)) old) j)
    ((c.read_scale_factors-f.ensures.2 ∙ ap (λ (l : List ℕ). short_factors a.g.mpeg1 (shape_of a.r) (factors_at a.g a.r l a.main.now a.at)) old) j)))

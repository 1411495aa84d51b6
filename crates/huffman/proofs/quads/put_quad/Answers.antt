-- `huffman::quads::put_quad` meets its contract: the four cells of a value are its digits. Assumes nothing.
use mathlib.Core.Path.{◌≡◌, sym, ap, ◌∙◌}
use Prim.Native.Nat.{ℕ, zero, suc, ◌+◌, ◌-◌, ◌*◌, ◌<◌}
use native.Mathlib.Numerals.{unary_clauses}
use native.Mathlib.Omega.{arith}
use lib.ListN.{take, drop, get_or}
use lib.Seq.{sets-eq, drop-drop}
use borrow.Rule.Slice.PartMut.{put_mid}
use mathlib.Core.List.{[], ◌∷◌, ◌++◌, append_assoc}
use Rattle.huffman.specs.Cells.{quads_at, size, cells}
use mir.Syntax.{w32}
use mir.Val.{to_z, of_z}
use Rattle.huffman.specs.Signed.{digit, digits}
use Rattle.huffman.proofs.Fours.{row_0, row_1, row_2, row_3}
use borrow.Author.Rules.{rules}
use Rattle.huffman.proofs.quads.put_quad.Goals as goal

-- each cell of a row is a digit
cell_of : (r : ℕ) → r < 81 → (k : ℕ) → k < 4 → (quads_at + 4 * r + k < size) × (get_or cells (quads_at + 4 * r + k) 0 < 3)
cell_of r g zero l = let w = row_0 r g in simp unary_clauses (w.0, w.2)
cell_of r g (suc zero) l = let w = row_1 r g in (w.0, w.2)
cell_of r g (suc (suc zero)) l = let w = row_2 r g in (w.0, w.2)
cell_of r g (suc (suc (suc zero))) l = let w = row_3 r g in (w.0, w.2)
cell_of r g (suc (suc (suc (suc k)))) l = absurd (omega arith)

pub number_at-v-requires : goal.number_at-v-requires
number_at-v-requires c = let w = row_0 c.args.value c.requires.0 in (w.0, w.2)

pub number_at-w-requires : goal.number_at-w-requires
number_at-w-requires c = cell_of c.args.value c.requires.0 _ (omega arith)

pub number_at-x-requires : goal.number_at-x-requires
number_at-x-requires c = cell_of c.args.value c.requires.0 _ (omega arith)

pub number_at-y-requires : goal.number_at-y-requires
number_at-y-requires c = cell_of c.args.value c.requires.0 _ (omega arith)

pub returns : goal.returns
returns c =
    let a = c.args in
    let v : to_z w32 (of_z w32 c.number_at-v.result) ≡ c.number_at-v.result = search rules in
    let w : to_z w32 (of_z w32 c.number_at-w.result) ≡ c.number_at-w.result = search rules in
    let x : to_z w32 (of_z w32 c.number_at-x.result) ≡ c.number_at-x.result = search rules in
    let y : to_z w32 (of_z w32 c.number_at-y.result) ≡ c.number_at-y.result = search rules in
    let v-is = v ∙ c.number_at-v.ensures ∙ ap digit (row_0 a.value c.requires.0).1 in
    let w_is = w ∙ c.number_at-w.ensures ∙ ap digit (row_1 a.value c.requires.0).1 in
    let x-is = x ∙ c.number_at-x.ensures ∙ ap digit (row_2 a.value c.requires.0).1 in
    let y_is = y ∙ c.number_at-y.ensures ∙ ap digit (row_3 a.value c.requires.0).1 in
    let four : a.i + 4 - a.i ≡ 4 = omega arith in
    let ys : c.copy_from_slice.new.self ≡ digits a.value = c.copy_from_slice.ensures.after ∙ (λ j. v-is j ∷ w_is j ∷ x-is j ∷ y_is j ∷ []) in
    (λ j. put_mid a.i (four j) a.out.now (ys j))
    ∙ ap (λ l. take a.i a.out.now ++ (digits a.value ++ l)) (drop-drop 4 a.i a.out.now)
    ∙ sym (append_assoc (take a.i a.out.now) (digits a.value) (drop (a.i + 4) a.out.now))
    ∙ sym (sets-eq (digits a.value) a.out.now a.i (omega (arith, c.requires.1)))

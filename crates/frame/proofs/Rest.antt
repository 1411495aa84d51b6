-- Lent numbers past those of the four slots: a step knows nothing of them, and leaves them.
use Rattle.std.specs.Prelude.{◌≡◌, refl, List, [], ◌∷◌, ◌++◌, ℕ, suc, ◌+◌, ◌*◌, ◌≤◌, ℤ, length, take, drop, Result}
use Rattle.std.proofs.Common.{sym, ap, ◌∙◌, arith, append_assoc, take-append-drop, length-take-le}
use Rattle.std.proofs.Math.Seq.{paste}
use Rattle.std.proofs.lemmas.List.{take-append-le, drop-append-le}
use Rattle.std.specs.Array.{IsFirstChunk}
use Rattle.standard.specs.Numbers.{padded}
use Rattle.standard.specs.Slots.{Outcome, stopped, holds, numbers_after, numbers_from}
use Rattle.standard.specs.Frame.{Step, step_slots, FrameRead}
use Rattle.standard.proofs.SlotsLaws.{length-after}
use Rattle.standard.specs.declared.Reservoir.{Reservoir}
use Rattle.standard.specs.declared.Frame.{Frame}
use Rattle.standard.specs.declared.FrameRefusal.{FrameRefusal}

after_rest : (o : Outcome) (at : ℕ) (d rest : List ℤ) → at + 576 ≤ length d → numbers_after o at (d ++ rest) ≡ numbers_after o at d ++ rest
unfolding numbers_after
after_rest (stopped r) at d rest h = refl
after_rest (holds long short vs) at d rest h =
    (λ j. (take-append-le at d rest (omega arith) j ++ take 576 (padded vs)) ++ drop-append-le (at + 576) d rest h j)
    ∙ sym (append_assoc (take at d ++ take 576 (padded vs)) (drop (at + 576) d) rest)

pub from_rest : (os : List Outcome) (at : ℕ) (d rest : List ℤ) → at + 576 * length os ≤ length d → numbers_from at os (d ++ rest) ≡ numbers_from at os d ++ rest
unfolding numbers_from
from_rest [] at d rest h = refl
from_rest (o ∷ os) at d rest h =
    ap (numbers_from (at + 576) os) (after_rest o at d rest (omega arith))
    ∙ from_rest os (at + 576) (numbers_after o at d) rest (omega (arith, length-after o at d (omega arith)))

-- those that nothing changed are written back as they were
pub put_back : (n : ℕ) (all : List ℤ) {d : List ℤ} → IsFirstChunk all d n → d ++ drop n all ≡ all
put_back n all chunk = ap (λ (x : List ℤ). x ++ drop n all) chunk.same ∙ take-append-drop n all

-- slots read into the first numbers are slots read into all of them
pub all_slots : {all d nums : List ℤ} (n : ℕ) (os : List Outcome) → IsFirstChunk all d n → 576 * length os ≤ n → nums ≡ numbers_from 0 os d
    → nums ++ drop n all ≡ numbers_from 0 os all
all_slots {all} {d} n os chunk room e =
    let long : length d ≡ n = ap length chunk.same ∙ length-take-le n all chunk.enough in
    ap (λ (x : List ℤ). x ++ drop n all) e ∙ sym (from_rest os 0 d (drop n all) (omega (arith, room, long))) ∙ ap (numbers_from 0 os) (put_back n all chunk)

-- and so is a step
pub all_read : {lent left : List ℕ} {old new : Reservoir} {all d nums : List ℤ} {p : Step} {r : Result Frame FrameRefusal} (n : ℕ) → IsFirstChunk all d n
    → 576 * length (step_slots p) ≤ n → FrameRead lent old d p r new left nums → FrameRead lent old all p r new left (nums ++ drop n all)
all_read {all = all} {d} {nums} {p} n chunk room t =
    record {
      answer = t.answer;
      reservoir = t.reservoir;
      bytes = t.bytes;
      numbers-are = all_slots n (step_slots p) chunk room t.numbers-are;
    }

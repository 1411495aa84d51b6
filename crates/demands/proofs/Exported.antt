-- Demand 1 over what C and Rust call: the exported functions answer 0 where they accept and the refusal's number where they refuse, and a refused
-- call leaves the numbers, the rows and the reservoir's bytes as they were, except that after 13 the reservoir's old bytes and then the frame's
-- main data stand in front.
-- Proved over the promises of front_end_frame, front_end_slots and front_end_reorder, from StepLaws of `standard`, as Demand1.
use Rattle.std.specs.Prelude.{Result, Ok, Err}
use mathlib.Core.Path.{◌≡◌, refl, sym, ap, ◌∙◌}
use mathlib.Core.List.{List, [], ◌++◌}
use Prim.Native.Nat.{ℕ}
use native.Mathlib.Omega.{arith}
use lib.Dec.{ltb}
use lib.IntN.{ℤ}
use lib.ListN.{length, take, drop}
use Rattle.standard.specs.Told.{told_or, verdict_of}
use Rattle.standard.specs.ToldLaws.{either_way}
use Rattle.standard.specs.Header.{header_of}
use Rattle.standard.specs.Slots.{Outcome, slots_told, numbers_from}
use Rattle.standard.specs.Reservoir.{bytes_after as bytesKept, reservoir_after}
use Rattle.standard.specs.Frame.{Step, step_verdict, step_info, step_slots, step_kept, main_of}
use Rattle.standard.proofs.StepLaws.{Way, refused_way, short_way, full_way, call_way}
use Rattle.standard.specs.declared.FrameHeader.{FrameHeader}
use Rattle.standard.specs.declared.SlotRecord.{SlotRecord}
use Rattle.front_end.specs.Calls.{per_rows, call_told, rows_after, frame_step, frame_told, FrameDone, SlotsDone, ReorderDone}
use Rattle.front_end.specs.declared.FrameTold.{FrameTold}
use Rattle.front_end.specs.declared.CallTold.{CallTold}
use Rattle.front_end.proofs.front_end_frame.Reads as front-end-frame
use Rattle.front_end.proofs.front_end_frame.Kinds as front-end-frame-kinds
use Rattle.front_end.proofs.front_end_slots.Reads as front-end-slots
use Rattle.front_end.proofs.front_end_slots.Kinds as front-end-slots-kinds
use Rattle.front_end.proofs.front_end_reorder.Reads as front-end-reorder
use Rattle.front_end.proofs.front_end_reorder.Kinds as front-end-reorder-kinds
use Rattle.demands.proofs.Call.{Call}
use Rattle.standard.proofs.RefusalsLaws.{short_only}
use Rattle.standard.specs.Refusals.{number_of}
use Rattle.standard.specs.declared.Refusal.TheVariants.{UnfitMemory}
use Rattle.standard.specs.declared.Refusal.{Refusal}

-- ---- front_end_frame(frame, bytes, reservoir, numbers, rows)
abbrev pub ExportedFrame : Type 0
ExportedFrame = Call front-end-frame-kinds.ps front-end-frame-kinds.r front-end-frame.Post

step-way : (s lent : List ℕ) (stated d room : ℕ) → Way s (take stated lent) (frame_step s lent stated d room)
unfolding frame_step
step-way s lent stated d room =
    either_way (Way s (take stated lent)) (ltb room per_rows) _ _
    (λ e. refused_way UnfitMemory (λ z. let n : ◌≡◌ {A = ℕ} 1 13 = ap number_of z in omega arith) refl)
    (λ e. call_way s lent stated d)

module _ {lent left rows now_rows : List ℕ} {stated : ℕ} {d nums : List ℤ} {p : Step} {r : FrameTold}
    (f : FrameDone lent stated d rows p r left nums now_rows) where
  number : (k : ℕ) → r.refusal ≡ k → (frame_told stated p).refusal ≡ k
  number k e = sym (ap (λ (x : FrameTold). x.refusal) f.answer) ∙ e

  by_step : {q : Step} → p ≡ q → (k : ℕ) → r.refusal ≡ k → (frame_told stated q).refusal ≡ k
  by_step e k v = sym (ap (λ (x : Step). (frame_told stated x).refusal) e) ∙ number k v

  frame_refused : {s old : List ℕ} → Way s old p → (k : ℕ) → r.refusal ≡ k → (k ≡ 0 → ⊥) → (k ≡ 13 → ⊥) → (left ≡ lent) × (nums ≡ d) × (now_rows ≡ rows)
  unfolding bytesKept numbers_from rows_after frame_told
  frame_refused (refused_way j n e) k v m o = (
    f.bytes ∙ ap (λ (x : Step). bytesKept lent (step_kept x)) e,
    f.numbers-are ∙ ap (λ (x : Step). numbers_from 0 (step_slots x) d) e,
    f.rows_are ∙ ap (λ (x : Step). rows_after (step_verdict x) (step_info x).slots (slots_told (step_slots x)) rows) e,
  )
  frame_refused (short_way h i w l e) k v m o = absurd (o (sym (by_step e k v)))
  frame_refused (full_way h i w l e) k v m o = absurd (m (sym (by_step e k v)))

  frame-short : {s old : List ℕ} → Way s old p → r.refusal ≡ 13
      → (h : FrameHeader) × (header_of s ≡ Ok h) × (left ≡ (old ++ main_of h s) ++ drop (length (old ++ main_of h s)) lent)
      × (r.reservoir ≡ length (old ++ main_of h s)) × (nums ≡ d) × (now_rows ≡ rows)
  unfolding bytesKept reservoir_after numbers_from rows_after frame_told
  frame-short (refused_way j n e) v = absurd (n (short_only j (by_step e 13 v)))
  frame-short (short_way h i w l e) v = (
    h,
    w.header,
    f.bytes ∙ ap (λ (x : Step). bytesKept lent (step_kept x)) e,
    ap (λ (x : FrameTold). x.reservoir) f.answer ∙ ap (λ (x : Step). (frame_told stated x).reservoir) e,
    f.numbers-are ∙ ap (λ (x : Step). numbers_from 0 (step_slots x) d) e,
    f.rows_are ∙ ap (λ (x : Step). rows_after (step_verdict x) (step_info x).slots (slots_told (step_slots x)) rows) e,
  )
  frame-short (full_way h i w l e) v = let z : ◌≡◌ {A = ℕ} 0 13 = by_step e 13 v in absurd (omega arith)

module _ (c : ExportedFrame) where
  abbrev frame : List ℕ
  frame = c.args.0.now

  abbrev bytes : List ℕ
  bytes = c.args.1.0.now

  abbrev stated : ℕ
  stated = c.args.1.1.0

  abbrev numbers : List ℤ
  numbers = c.args.1.1.1.0.now

  abbrev rows : List ℕ
  rows = c.args.1.1.1.1.0.now

  pub refused_frame : (k : ℕ) → c.answer.refusal ≡ k → (k ≡ 0 → ⊥) → (k ≡ 13 → ⊥)
      → (c.exit.1.0.now ≡ bytes) × (c.exit.1.1.1.0.now ≡ numbers) × (c.exit.1.1.1.1.0.now ≡ rows)
  refused_frame = frame_refused c.promised (step-way frame bytes stated (length numbers) (length rows))

  pub short_frame : c.answer.refusal ≡ 13
      → (h : FrameHeader) × (header_of frame ≡ Ok h)
      × (c.exit.1.0.now ≡ (take stated bytes ++ main_of h frame) ++ drop (length (take stated bytes ++ main_of h frame)) bytes)
      × (c.answer.reservoir ≡ length (take stated bytes ++ main_of h frame)) × (c.exit.1.1.1.0.now ≡ numbers) × (c.exit.1.1.1.1.0.now ≡ rows)
  short_frame = frame-short c.promised (step-way frame bytes stated (length numbers) (length rows))

-- ---- front_end_slots(frame, main data, numbers, rows) and front_end_reorder(frame, slot, numbers)
abbrev pub ExportedSlots : Type 0
ExportedSlots = Call front-end-slots-kinds.ps front-end-slots-kinds.r front-end-slots.Post

abbrev pub ExportedReorder : Type 0
ExportedReorder = Call front-end-reorder-kinds.ps front-end-reorder-kinds.r front-end-reorder.Post

slots-refused : {d nums : List ℤ} {rows now_rows : List ℕ} {rs : List SlotRecord} {t : Result (List Outcome) Refusal} {r : CallTold}
    → SlotsDone d rows rs t r nums now_rows
    → (r.refusal ≡ 0 → ⊥) → (nums ≡ d) × (now_rows ≡ rows)
unfolding verdict_of told_or numbers_from rows_after
slots-refused {d} {nums} {rows} {now_rows} {rs} {t} {r} f m = go t f.answer f.numbers-are f.rows_are
  where
    go : (t : Result (List Outcome) Refusal) → r ≡ call_told (verdict_of t) → nums ≡ numbers_from 0 (told_or [] t) d
        → now_rows ≡ rows_after (verdict_of t) rs (slots_told (told_or [] t)) rows
        → (nums ≡ d) × (now_rows ≡ rows)
    go (Err j) e n w = (n, w)
    go (Ok os) e n w = absurd (m (ap (λ (x : CallTold). x.refusal) e))

pub refused_slots : (c : ExportedSlots) → (c.answer.refusal ≡ 0 → ⊥) → (c.exit.1.1.0.now ≡ c.args.1.1.0.now)
    × (c.exit.1.1.1.0.now ≡ c.args.1.1.1.0.now)
refused_slots c = slots-refused c.promised

reorder_refused : {d nums : List ℤ} {t : Result (List ℤ) Refusal} {r : CallTold} → ReorderDone d t r nums → (r.refusal ≡ 0 → ⊥) → nums ≡ d
unfolding verdict_of told_or
reorder_refused {d} {nums} {t} {r} f m = go t f.answer f.numbers-are
  where
    go : (t : Result (List ℤ) Refusal) → r ≡ call_told (verdict_of t) → nums ≡ told_or d t → nums ≡ d
    go (Err j) e n = n
    go (Ok x) e n = absurd (m (ap (λ (x : CallTold). x.refusal) e))

pub refused_reorder : (c : ExportedReorder) → (c.answer.refusal ≡ 0 → ⊥) → c.exit.1.1.0.now ≡ c.args.1.1.0.now
refused_reorder c = reorder_refused c.promised

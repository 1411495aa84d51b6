-- A frame's step by its stages, and what is answered at each.
use Rattle.std.specs.Prelude.{◌≡◌, ℕ, ◌+◌, ◌≤◌, ◌<◌, ltb, ℤ, drop, Result, Ok, Err}
use Rattle.std.proofs.Math.Path.{refl, sym, ap}
use Rattle.std.proofs.Common.{◌∙◌, arith, lt-ltb, le-ltb}
use mathlib.Core.List.{List, []}
use Rattle.std.proofs.Math.ListN.{length, take, length-append}
use Rattle.std.proofs.Math.Seq.{take_at}
use Rattle.standard.specs.ToldLaws.{picked, passed, either_left, either_right, neither}
use Rattle.standard.proofs.RefusalsLaws.{unlike}
use Rattle.standard.specs.Header.{header_of, header_size, side_size, main_size, frame_length, no_header}
use Rattle.standard.specs.SideInfo.{side_of, no_side}
use Rattle.standard.specs.Slots.{Outcome, slots_of, slots_told, numbers_from}
use Rattle.standard.specs.Told.{Verdict}
use Rattle.standard.specs.Reservoir.{Turn, short, reached, turn_of, unfit, reservoir_after, bytes_after, turn_verdict, turn_kept, Turned}
use Rattle.standard.specs.Frame.{Step, no_step, short_step, full_step, step_slots, step_kept, head_of, frame_answer, with_turn, with_side, with_header, frame_of, frame_call, FrameRead}
use Rattle.standard.specs.declared.FrameHeader.{FrameHeader}
use Rattle.standard.specs.declared.SideInfo.{SideInfo}
use Rattle.standard.specs.declared.Reservoir.{Reservoir}
use Rattle.standard.specs.declared.SlotAnswer.{SlotAnswer}
use Rattle.standard.specs.declared.Frame.{Frame}
use Rattle.standard.specs.declared.FrameRefusal.{FrameRefusal}
use Rattle.standard.specs.declared.FrameRefusal.TheVariants.{Unread, OutOfReach}
use Rattle.standard.specs.declared.Refusal.{Refusal}
use Rattle.standard.specs.declared.Refusal.TheVariants.{UnfitMemory, AbsentBytes}

-- ---- the call
module _ (s lent : List ℕ) (stated d : ℕ) where
  pub call_few_bytes : length lent < 4096 → frame_call s lent stated d ≡ no_step UnfitMemory
  unfolding frame_call unfit
  call_few_bytes h = picked _ (either_left (ltb d 2304) (either_left (ltb 4096 stated) (lt-ltb (length lent) 4096 h)))

  pub call_much_stated : 4096 < stated → frame_call s lent stated d ≡ no_step UnfitMemory
  unfolding frame_call unfit
  call_much_stated h = picked _ (either_left (ltb d 2304) (either_right (ltb (length lent) 4096) (lt-ltb 4096 stated h)))

  pub call_few_numbers : d < 2304 → frame_call s lent stated d ≡ no_step UnfitMemory
  unfolding frame_call
  call_few_numbers h = picked _ (either_right (unfit lent stated) (lt-ltb d 2304 h))

  pub call_fits : 4096 ≤ length lent → stated ≤ 4096 → 2304 ≤ d → frame_call s lent stated d ≡ frame_of s (take stated lent)
  unfolding frame_call unfit
  call_fits a b c = passed _ (neither (neither (le-ltb (length lent) 4096 a) (le-ltb 4096 stated b)) (le-ltb d 2304 c))

-- ---- a refused frame tells nothing and changes nothing
pub step-refused : {lent left : List ℕ} {old new : Reservoir} {d nums : List ℤ} {p : Step} {r : Result Frame FrameRefusal} {why : Refusal} → p ≡ no_step why
    → r ≡ Err (Unread why) → new ≡ old → left ≡ lent → nums ≡ d → FrameRead lent old d p r new left nums
unfolding frame_answer reservoir_after bytes_after numbers_from
step-refused {lent} {left} {old} {new} {d} e a k l n = record {
  answer = a ∙ sym (ap frame_answer e);
  reservoir = k ∙ sym (ap (λ (x : Step). reservoir_after old (step_kept x)) e);
  bytes = l ∙ sym (ap (λ (x : Step). bytes_after lent (step_kept x)) e);
  numbers-are = n ∙ sym (ap (λ (x : Step). numbers_from 0 (step_slots x) d) e);
}

-- ---- the stages
module _ (s old : List ℕ) where
  pub frame-no_header : {r : Refusal} → header_of s ≡ Err r → frame_of s old ≡ no_step r
  unfolding frame_of with_header
  frame-no_header e = ap (with_header s old) e

  module _ {h : FrameHeader} (e : header_of s ≡ Ok h) where
    pub frame-no_side : {r : Refusal} → side_of h s ≡ Err r → frame_of s old ≡ no_step r
    unfolding frame_of with_header with_side
    frame-no_side f = ap (with_header s old) e ∙ ap (with_side h s old) f

    module _ {i : SideInfo} (f : side_of h s ≡ Ok i) where
      pub frame-absent : length s < frame_length h → frame_of s old ≡ no_step (AbsentBytes (length s))
      unfolding frame_of with_header with_side
      frame-absent l = ap (with_header s old) e ∙ ap (with_side h s old) f ∙ picked _ (lt-ltb (length s) (frame_length h) l)

      pub frame-turn : frame_length h ≤ length s
          → frame_of s old ≡ with_turn h i (turn_of i.main_data_begin old (take (main_size h) (drop (header_size h + side_size h) s)))
      unfolding frame_of with_header with_side
      frame-turn l = ap (with_header s old) e ∙ ap (with_side h s old) f ∙ passed _ (le-ltb (length s) (frame_length h) l)

-- ---- after the frame's turn with the reservoir
module _ {lent left : List ℕ} {old new : Reservoir} {v : Verdict} where
  -- what is kept stands in the lent bytes
  pub kept_within : (t : Turn) → Turned lent old (Ok t) v new left → new.length ≤ length left
  unfolding turn_kept reservoir_after bytes_after
  kept_within (short bs) u =
      let e = ap (λ (x : Reservoir). x.length) u.reservoir in
      let f = ap length u.bytes ∙ length-append bs (drop (length bs) lent) in
      omega (arith, e, f)
  kept_within (reached bs) u =
      let e = ap (λ (x : Reservoir). x.length) u.reservoir in
      let f = ap length u.bytes ∙ length-append bs (drop (length bs) lent) in
      omega (arith, e, f)

  module _ (h : FrameHeader) (i : SideInfo) {p : Step} {r : Result Frame FrameRefusal} {d nums : List ℤ} where
    -- too short a reservoir: all but the slots is told, and no number changes
    pub step-short : (t : Turn) {why : Refusal} → p ≡ with_turn h i t → Turned lent old (Ok t) v new left → v ≡ Err why
        → r ≡ Err (OutOfReach (head_of h i)) → nums ≡ d → FrameRead lent old d p r new left nums
    unfolding with_turn frame_answer turn_verdict turn_kept numbers_from
    step-short (reached bs) e u v w n = unlike (sym v ∙ u.verdict)
    step-short (short bs) e u v w n = record {
      answer = w ∙ sym (ap frame_answer e);
      reservoir = u.reservoir ∙ sym (ap (λ (x : Step). reservoir_after old (step_kept x)) e);
      bytes = u.bytes ∙ sym (ap (λ (x : Step). bytes_after lent (step_kept x)) e);
      numbers-are = n ∙ sym (ap (λ (x : Step). numbers_from 0 (step_slots x) d) e);
    }

    -- the slots are read from the bytes kept
    pub step-full : (t : Turn) {l : List SlotAnswer} → p ≡ with_turn h i t → Turned lent old (Ok t) v new left → v ≡ Ok tt
        → (l ≡ slots_told (slots_of h i (take new.length left))) × (nums ≡ numbers_from 0 (slots_of h i (take new.length left)) d)
        → r ≡ Ok (record { head = head_of h i; slots = l }) → FrameRead lent old d p r new left nums
    unfolding with_turn frame_answer turn_verdict turn_kept reservoir_after bytes_after
    step-full (short bs) e u v z w = unlike (sym u.verdict ∙ v)
    step-full (reached bs) e u v z w =
        let n : new.length ≡ length bs = ap (λ (c : Reservoir). c.length) u.reservoir in
        let kept : take new.length left ≡ bs = (λ j. take (n j) (u.bytes j)) ∙ take_at bs (drop (length bs) lent) (length bs) refl in
        let said : slots_of h i (take new.length left) ≡ slots_of h i bs = ap (slots_of h i) kept in
        record {
          answer = w ∙ ap (λ (l : List SlotAnswer). Ok (record { head = head_of h i; slots = l })) (z.0 ∙ ap slots_told said) ∙ sym (ap frame_answer e);
          reservoir = u.reservoir ∙ sym (ap (λ (x : Step). reservoir_after old (step_kept x)) e);
          bytes = u.bytes ∙ sym (ap (λ (x : Step). bytes_after lent (step_kept x)) e);
          numbers-are =
              z.1 ∙ ap (λ (os : List Outcome). numbers_from 0 os d) said ∙ sym (ap (λ (x : Step). numbers_from 0 (step_slots x) d) e);
        }

-- ---- one answer and one state
pub one-frame : {lent left gone : List ℕ} {old new other : Reservoir} {d nums news : List ℤ} {p : Step} {r q : Result Frame FrameRefusal}
    → FrameRead lent old d p r new left nums → FrameRead lent old d p q other gone news → (r ≡ q) × (new ≡ other) × (left ≡ gone) × (nums ≡ news)
one-frame a b = (a.answer ∙ sym b.answer, a.reservoir ∙ sym b.reservoir, a.bytes ∙ sym b.bytes, a.numbers-are ∙ sym b.numbers-are)

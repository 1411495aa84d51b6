-- What an answer says of a slot, beside what stands in its 576 numbers: both by the slot's own outcome. Over any outcomes, so that it serves the
-- call on main data and the frame step alike; then what these two calls' promises make of it.
use Rattle.std.specs.Prelude.{Result, Ok, Err}
use mathlib.Core.Path.{◌≡◌, refl, sym, ap, subst, ◌∙◌}
use mathlib.Core.Bool.{Bool, true, false, ◌&&◌}
use mathlib.Core.List.{List, [], ◌++◌}
use Prim.Native.Nat.{ℕ, ◌+◌, ◌-◌, ◌*◌, ◌≤◌, ◌<◌}
use native.Mathlib.Decide.{dec_le, dec_lt}
use native.Mathlib.Omega.{arith}
use lib.IntN.{ℤ}
use lib.ListN.{length, get_or, take, drop}
use lib.Seq.{drop-drop}
use Rattle.standard.specs.Sizes.{per_slot, per_frame}
use Rattle.standard.specs.Told.{told_or}
use Rattle.standard.specs.ToldLaws.{both_of, clash}
use Rattle.standard.specs.Slots.{Outcome, stopped, holds, slot_told, slots_told, numbers_from, read_slots, slots_answer, part_of, own_of, outcome_of}
use Rattle.standard.proofs.SlotsLaws.{told_at, lacking_at, own_numbers, past-slots, few_numbers, made-up_call, read-call}
use Rattle.standard.proofs.SlotBounds.{read-room}
use Rattle.standard.specs.Frame.{Step, no_step, short_step, full_step, step_verdict, step_header, step_info, step_slots, frame_call, frame_answer, FrameRead, main_of}
use Rattle.standard.proofs.StepLaws.{Way, refused_way, short_way, full_way, Entire, call_way, call_room}
use Rattle.standard.specs.Header.{is_header}
use Rattle.standard.specs.SideInfo.{is_side}
use Rattle.standard.specs.declared.FrameHeader.{FrameHeader}
use Rattle.standard.specs.declared.SideInfo.{SideInfo}
use Rattle.standard.specs.declared.SlotAnswer.{SlotAnswer}
use Rattle.standard.specs.declared.Refusal.{Refusal}
use Rattle.standard.specs.declared.Refusal.TheVariants.{MissingBits}
use Rattle.standard.specs.declared.Reservoir.{Reservoir}
use Rattle.standard.specs.declared.Frame.{Frame}
use Rattle.standard.specs.declared.FrameRefusal.{FrameRefusal}
use Rattle.demands.proofs.Calls.{slot_said, verdict_in, header_in, info_in, slots_in, slots_of_call, FrameStep, frame, bytes, reservoir, numbers, numbers_after, SlotsCall, slots_header, slots_info, main_data, slots_numbers, slots_numbers_after}
use Rattle.standard.specs.declared.SlotAnswer.TheVariants.{NotRead, Lacking}
use Rattle.standard.specs.declared.Refusal.{Refusal}

-- a slot that is said to be refused left what stood there
refused_own : (o : Outcome) (k : Refusal) (d : List ℤ) → slot_told o ≡ NotRead k → own_of o d ≡ d
unfolding own_of slot_told
refused_own (stopped r) k d e = refl
refused_own (holds long short vs) k d e = clash cc

not_lacking : (o : Outcome) → slot_told o ≡ Lacking → ⊥
unfolding slot_told
not_lacking (stopped r) e = clash cc
not_lacking (holds long short vs) e = clash cc

-- outcomes answered, and their numbers stored in lent ones that have room for them
pub record Answered (os : List Outcome) (answers : List SlotAnswer) (d left : List ℤ) : Type 0 where
  pub says : answers ≡ slots_told os
  pub stored : left ≡ numbers_from 0 os d
  pub room : per_slot * length os ≤ length d

module _ (os : List Outcome) {answers : List SlotAnswer} {d left : List ℤ} (a : Answered os answers d left) where
  -- a slot that the frame has
  pub said_is : (n : ℕ) → n < length os → slot_said answers n ≡ slot_told (get_or os n (stopped MissingBits))
  said_is n h = told_at answers os a.says n h

  pub stored_is : (n : ℕ) → n < length os → part_of (per_slot * n) left ≡ own_of (get_or os n (stopped MissingBits)) (part_of (per_slot * n) d)
  stored_is n h = ap (part_of (per_slot * n)) a.stored ∙ own_numbers os n d h a.room

  -- a slot that the frame lacks, and numbers past the last slot
  pub lacking_said : (n : ℕ) → length os ≤ n → slot_said answers n ≡ Lacking
  lacking_said n h = lacking_at answers os a.says n h

  pub lacking_stays : (n : ℕ) → length os ≤ n → part_of (per_slot * n) left ≡ part_of (per_slot * n) d
  unfolding part_of
  lacking_stays n h =
      let k = per_slot * n - per_slot * length os in
      let e : per_slot * length os + k ≡ per_slot * n = omega arith in
      ap (λ (m : ℕ). take per_slot (drop m left)) (sym e)
      ∙ ap (take per_slot)
      (sym (drop-drop k (per_slot * length os) left) ∙ ap (drop k) (ap (drop (per_slot * length os)) a.stored ∙ past-slots os d a.room)
      ∙ drop-drop k (per_slot * length os) d)
      ∙ ap (λ (m : ℕ). take per_slot (drop m d)) e

  -- what is said decides: lacking, or by the slot's own outcome
  pub by_said : (n : ℕ) → (slot_said answers n ≡ Lacking → ⊥) → (n < length os) × (slot_told (get_or os n (stopped MissingBits)) ≡ slot_said answers n)
  by_said n f =
      elim (dec_lt n (length os)) [
        | yes l ↦ (l, sym (said_is n l))
        | no l ↦ absurd (f (lacking_said n (omega arith)))
      ]

  pub refused_stays : (n : ℕ) (k : Refusal) → slot_said answers n ≡ NotRead k → part_of (per_slot * n) left ≡ part_of (per_slot * n) d
  refused_stays n k e =
      let b = by_said n (λ z. clash cc) in
      stored_is n b.0 ∙ refused_own (get_or os n (stopped MissingBits)) k (part_of (per_slot * n) d) (b.1 ∙ e)

  pub said_lacking : (n : ℕ) → slot_said answers n ≡ Lacking → part_of (per_slot * n) left ≡ part_of (per_slot * n) d
  said_lacking n e =
      elim (dec_lt n (length os)) [
        | yes l ↦ absurd (not_lacking (get_or os n (stopped MissingBits)) (sym (said_is n l) ∙ e))
        | no l ↦ lacking_stays n (omega arith)
      ]

-- ---- the call on main data
abbrev pub outcomes_of : SlotsCall → List Outcome
outcomes_of c = told_or [] (read_slots (slots_header c) (slots_info c) (main_data c) (length (slots_numbers c)))

slots_by : (t : Result (List Outcome) Refusal) → slots_of_call (slots_answer t) ≡ slots_told (told_or [] t)
unfolding slots_answer slots_told told_or
slots_by (Err r) = refl
slots_by (Ok os) = refl

pub slots-answered : (c : SlotsCall) → Answered (outcomes_of c) (slots_of_call c.answer) (slots_numbers c) (slots_numbers_after c)
slots-answered c = record {
  says = ap slots_of_call c.promised.answer ∙ slots_by (read_slots (slots_header c) (slots_info c) (main_data c) (length (slots_numbers c)));
  stored = c.promised.numbers;
  room = read-room (slots_header c) (slots_info c) (main_data c) (length (slots_numbers c));
}

-- what holds of a slot wherever side information was accepted, and of a refused one, holds of each that is answered
read-each : (P : Outcome → Type 0) (h : FrameHeader) (i : SideInfo) (s : List ℕ) (d n : ℕ) → P (stopped MissingBits)
    → (is_side h i ≡ true → P (outcome_of h i s n)) → P (get_or (told_or [] (read_slots h i s d)) n (stopped MissingBits))
unfolding told_or outcome_of
read-each P h i s d n none some =
    elim (dec_le per_frame d) [
      | yes l ↦ by (is_header h && is_side h i) refl l
      | no l ↦ at (few_numbers h i s d (omega arith)) none
    ]
  where
    at : {t : Result (List Outcome) Refusal} → read_slots h i s d ≡ t → P (get_or (told_or [] t) n (stopped MissingBits))
        → P (get_or (told_or [] (read_slots h i s d)) n (stopped MissingBits))
    at e x = subst (λ (t : Result (List Outcome) Refusal). P (get_or (told_or [] t) n (stopped MissingBits))) (sym e) x

    by : (b : Bool) → is_header h && is_side h i ≡ b → per_frame ≤ d → P (get_or (told_or [] (read_slots h i s d)) n (stopped MissingBits))
    by true e l = let k = both_of (is_header h) (is_side h i) e in at (read-call h i s d l k.0 k.1) (some k.1)
    by false e l = at (made-up_call h i s d l e) none

pub each_slot : (P : Outcome → Type 0) → P (stopped MissingBits) → (c : SlotsCall)
    → ((n : ℕ) → is_side (slots_header c) (slots_info c) ≡ true → P (outcome_of (slots_header c) (slots_info c) (main_data c) n))
    → (n : ℕ) → P (get_or (outcomes_of c) n (stopped MissingBits))
each_slot P none c some n = read-each P (slots_header c) (slots_info c) (main_data c) (length (slots_numbers c)) n none (some n)

-- ---- the frame step
abbrev pub step_of : FrameStep → Step
step_of c = frame_call (frame c) (bytes c) (reservoir c).length (length (numbers c))

pub way_of : (c : FrameStep) → Way (frame c) (take (reservoir c).length (bytes c)) (step_of c)
way_of c = call_way (frame c) (bytes c) (reservoir c).length (length (numbers c))

-- what a frame's answer says, by the step that it is promised to be
module _ {lent left : List ℕ} {old new : Reservoir} {d nums : List ℤ} {p : Step} {r : Result Frame FrameRefusal} (f : FrameRead lent old d p r new left nums) where
  -- said of every step
  said_by : {A : Type 0} (say : Result Frame FrameRefusal → A) (of : Step → A)
      → ((k : Refusal) → say (frame_answer (no_step k)) ≡ of (no_step k))
      → ((h : FrameHeader) (i : SideInfo) (bs : List ℕ) → say (frame_answer (short_step h i bs)) ≡ of (short_step h i bs))
      → ((h : FrameHeader) (i : SideInfo) (bs : List ℕ) → say (frame_answer (full_step h i bs)) ≡ of (full_step h i bs))
      → say r ≡ of p
  said_by say of none short full = ap say f.answer ∙ by p
    where
      by : (p : Step) → say (frame_answer p) ≡ of p
      by (no_step k) = none k
      by (short_step h i bs) = short h i bs
      by (full_step h i bs) = full h i bs

  pub verdict_by : verdict_in r ≡ step_verdict p
  unfolding frame_answer
  verdict_by = said_by verdict_in step_verdict (λ k. refl) (λ h i bs. refl) (λ h i bs. refl)

  pub header_by : header_in r ≡ step_header p
  unfolding frame_answer
  header_by = said_by header_in step_header (λ k. refl) (λ h i bs. refl) (λ h i bs. refl)

  pub info_by : info_in r ≡ step_info p
  unfolding frame_answer
  info_by = said_by info_in step_info (λ k. refl) (λ h i bs. refl) (λ h i bs. refl)

  pub answers_by : slots_in r ≡ slots_told (step_slots p)
  unfolding frame_answer slots_told
  answers_by = said_by slots_in (λ (q : Step). slots_told (step_slots q)) (λ k. refl) (λ h i bs. refl) (λ h i bs. refl)

pub frame-answered : (c : FrameStep) → Answered (step_slots (step_of c)) (slots_in c.answer) (numbers c) (numbers_after c)
frame-answered c = record {
  says = answers_by c.promised;
  stored = c.promised.numbers-are;
  room = call_room (frame c) (bytes c) (reservoir c).length (length (numbers c));
}

way_each : (P : Outcome → Type 0) {s old : List ℕ} {p : Step} → Way s old p → (n : ℕ) → P (stopped MissingBits)
    → ((h : FrameHeader) (i : SideInfo) (bs : List ℕ) → Entire s h i → P (outcome_of h i bs n)) → P (get_or (step_slots p) n (stopped MissingBits))
unfolding outcome_of
way_each P (refused_way k m e) n none some = subst (λ (p : Step). P (get_or (step_slots p) n (stopped MissingBits))) (sym e) none
way_each P (short_way h i w l e) n none some = subst (λ (p : Step). P (get_or (step_slots p) n (stopped MissingBits))) (sym e) none
way_each P {s} {old} (full_way h i w l e) n none some =
    subst (λ (p : Step). P (get_or (step_slots p) n (stopped MissingBits))) (sym e) (some h i (drop (length old - i.main_data_begin) old ++ main_of h s) w)

pub each_of_frame : (P : Outcome → Type 0) → P (stopped MissingBits) → (c : FrameStep)
    → ((n : ℕ) (h : FrameHeader) (i : SideInfo) (bs : List ℕ) → Entire (frame c) h i → P (outcome_of h i bs n)) → (n : ℕ)
    → P (get_or (step_slots (step_of c)) n (stopped MissingBits))
each_of_frame P none c some n = way_each P (way_of c) n none (some n)

-- How large anything can get, whatever the bytes: a number's magnitude is at most 8,206; a slot's count at most 576; the lengths of a frame's slots
-- add up to at most 16,380 bits; the main data of a frame is from 1 to 1,428 bytes; and the reservoir, after any frames, at most 1,931 bytes.
-- Proved over the promises of read_slots, process_frame, read_side_info, main_size and emptied, from SlotBounds, StepLaws and HeaderLaws of
-- `standard`.
use Rattle.std.specs.Prelude.{Result, Some, Ok}
use mathlib.Core.Path.{◌≡◌, refl, sym, ap, subst, ◌∙◌}
use mathlib.Core.Bool.{Bool, true, false}
use mathlib.Core.Logic.{◌⊎◌, inl, inr}
use mathlib.Core.List.{List, [], ◌∷◌}
use Prim.Native.Nat.{ℕ, zero, suc, ◌-◌, ◌*◌, ◌≤◌}
use native.Mathlib.Omega.{arith}
use borrow.Author.Tests.{leb-true}
use lib.IntN.{ℤ, pos, nat_abs}
use lib.ListN.{length, get_or, take, replicate}
use Rattle.standard.specs.Sizes.{per_slot}
use Rattle.standard.specs.ToldLaws.{both_of, both, passed, clash}
use Rattle.standard.proofs.RefusalsLaws.{apart}
use Rattle.standard.specs.Written.{Bytes}
use Rattle.standard.specs.RowsLaws.{every, every-at, every_append}
use Rattle.standard.specs.Header.{is_header}
use Rattle.standard.proofs.HeaderLaws.{main_size_from, main_size_le}
use Rattle.standard.proofs.HeaderBytes.{header-known}
use Rattle.standard.specs.SideInfo.{is_side, side_of}
use Rattle.standard.proofs.SideBytes.{side_known}
use Rattle.standard.specs.Numbers.{padded}
use Rattle.standard.proofs.NumbersLaws.{small}
use Rattle.standard.specs.Slots.{Outcome, stopped, holds, slot_told, said_of, start_of, records, part_of, own_of}
use Rattle.standard.proofs.SlotBounds.{Small, slot_small, start_le}
use Rattle.standard.specs.Reservoir.{reservoir_after, emptied as nothing}
use Rattle.standard.specs.Frame.{Step, step_slots, step_kept, FrameRead}
use Rattle.standard.proofs.StepLaws.{Way, refused_way, short_way, full_way, short_le, full_le, Entire}
use Rattle.standard.specs.declared.FrameHeader.{FrameHeader}
use Rattle.standard.specs.declared.SideInfo.{SideInfo}
use Rattle.standard.specs.declared.Reservoir.{Reservoir}
use Rattle.standard.specs.declared.SlotAnswer.{SlotAnswer}
use Rattle.standard.specs.declared.SlotAnswer.TheVariants.{Lacking}
use Rattle.standard.specs.declared.Frame.{Frame}
use Rattle.standard.specs.declared.FrameRefusal.{FrameRefusal}
use Rattle.standard.specs.declared.Refusal.TheVariants.{MissingBits}
use Rattle.demands.proofs.Calls.{slot_said, slots_in, slots_of_call, FrameStep, frame, reservoir, reservoir_left, numbers_after, SlotsCall, slots_header, slots_info, main_data, slots_numbers_after, SideInfoCall, MainSizeCall, EmptiedCall}
use Rattle.demands.proofs.Stored.{Answered, stored_is, by_said, outcomes_of, slots-answered, each_slot, step_of, way_of, frame-answered, each_of_frame}

-- ---- a slot that was read: how many numbers, and how large each of its 576 is
pub record Modest (count : ℕ) (part : List ℤ) : Type 0 where
  pub at_most : count ≤ per_slot
  pub magnitudes : (j : ℕ) → nat_abs (get_or part j (pos 0)) ≤ 8206

zeros-small : (n : ℕ) → every small (replicate n (pos 0)) ≡ true
unfolding every small
zeros-small zero = refl
zeros-small (suc n) = zeros-small n

padded-small : (vs : List ℤ) → every small vs ≡ true → every small (padded vs) ≡ true
unfolding padded
padded-small vs e = every_append small vs (replicate (per_slot - length vs) (pos 0)) e (zeros-small (per_slot - length vs))

take-small : (n : ℕ) (vs : List ℤ) → every small vs ≡ true → every small (take n vs) ≡ true
unfolding every
take-small zero vs e = refl
take-small (suc n) [] e = refl
take-small (suc n) (v ∷ vs) e = let k = both_of (small v) (every small vs) e in both k.0 (take-small n vs k.1)

each_small : (part : List ℤ) → every small part ≡ true → (j : ℕ) → nat_abs (get_or part j (pos 0)) ≤ 8206
unfolding small
each_small part e j = leb-true _ _ (every-at small (pos 0) part refl e j)

outcome_modest : (o : Outcome) (k : ℕ) (d : List ℤ) → Small o → said_of (slot_told o) ≡ Some (Ok k) → Modest k (own_of o d)
unfolding said_of slot_told own_of
outcome_modest (stopped r) k d s e = clash cc
outcome_modest (holds long short vs) k d s e =
    let m : length vs ≡ k = cc in
    record { at_most = omega (arith, s.count, m); magnitudes = each_small _ (take-small per_slot (padded vs) (padded-small vs s.sizes)) }

-- nothing is said of one that the frame lacks
not_said : {k : ℕ} → said_of Lacking ≡ Some (Ok k) → ⊥
unfolding said_of
not_said e = clash cc

-- of any outcomes that are small
slot_modest : (os : List Outcome) {answers : List SlotAnswer} {d left : List ℤ} → Answered os answers d left
    → ((n : ℕ) → Small (get_or os n (stopped MissingBits)))
    → (n k : ℕ) → said_of (slot_said answers n) ≡ Some (Ok k) → Modest k (part_of (per_slot * n) left)
slot_modest os a s n k e =
    let b = by_said os a n (λ z. not_said (sym (ap said_of z) ∙ e)) in
    subst (Modest k) (sym (stored_is os a n b.0)) (outcome_modest (get_or os n (stopped MissingBits)) k _ (s n) (ap said_of b.1 ∙ e))

pub slots-modest : (c : SlotsCall) (n k : ℕ) → said_of (slot_said (slots_of_call c.answer) n) ≡ Some (Ok k) → Modest k (part_of (per_slot * n) (slots_numbers_after c))
slots-modest c = slot_modest (outcomes_of c) (slots-answered c) (each_slot Small tt c (λ m e. slot_small (slots_header c) (slots_info c) e (main_data c) m))

-- the same of a frame's slots: side information that was read is such that bytes read to it
pub entire_known : {s : List ℕ} {h : FrameHeader} {i : SideInfo} → Bytes s → Entire s h i → (is_header h ≡ true) × (is_side h i ≡ true)
entire_known {s} {h} {i} b w = let k = header-known s h b w.header in (k, side_known h i s k w.info)

pub frame-modest : (c : FrameStep) → Bytes (frame c) → (n k : ℕ) → said_of (slot_said (slots_in c.answer) n) ≡ Some (Ok k)
    → Modest k (part_of (per_slot * n) (numbers_after c))
frame-modest c b = slot_modest (step_slots (step_of c)) (frame-answered c) (each_of_frame Small tt c (λ m h i bs w. slot_small h i (entire_known b w).1 bs m))

-- ---- slot lengths: where the n-th slot ends, n counted from 1
told_known : (s : List ℕ) (h : FrameHeader) (i : SideInfo) → side_of h s ≡ Ok i → is_header h ≡ true
unfolding side_of
told_known s h i e = by (is_header h) refl
  where
    by : (b : Bool) → is_header h ≡ b → is_header h ≡ true
    by true f = f
    by false f = apart (sym (passed _ f) ∙ e)

pub lengths_modest : (c : SideInfoCall) (i : SideInfo) → c.answer ≡ Ok i → (n : ℕ) → n ≤ 4 → start_of n (records c.args.0 i) ≤ 16380
lengths_modest c i a n l =
    let e = sym c.promised ∙ a in
    let s = c.args.1.0.now in
    start_le c.args.0 i (side_known c.args.0 i s (told_known s c.args.0 i e) e) n l

-- ---- main data
pub main_modest : (c : MainSizeCall) → is_header c.args.0 ≡ true → (1 ≤ c.answer) × (c.answer ≤ 1428)
main_modest c known = (rw c.promised (main_size_from c.args.0 known), rw c.promised (main_size_le c.args.0 known))

-- ---- the reservoir: a frame leaves its length as it was, or makes it at most 1,931
way_reservoir : {s old lent left : List ℕ} {before new : Reservoir} {d nums : List ℤ} {p : Step} {r : Result Frame FrameRefusal} → Bytes s
    → FrameRead lent before d p r new left nums → Way s old p
    → (new ≡ before) ⊎ (new.length ≤ 1931)
unfolding reservoir_after
way_reservoir {before = before} b f (refused_way k m e) = inl (f.reservoir ∙ ap (λ (x : Step). reservoir_after before (step_kept x)) e)
way_reservoir {s} {old} {before = before} b f (short_way h i w l e) =
    inr (rw (ap (λ (x : Reservoir). x.length) (f.reservoir ∙ ap (λ (x : Step). reservoir_after before (step_kept x)) e)) (short_le b w old l))
way_reservoir {s} {old} {before = before} b f (full_way h i w l e) =
    inr (rw (ap (λ (x : Reservoir). x.length) (f.reservoir ∙ ap (λ (x : Step). reservoir_after before (step_kept x)) e)) (full_le b w old l))

pub frame-reservoir : (c : FrameStep) → Bytes (frame c) → (reservoir_left c ≡ reservoir c) ⊎ ((reservoir_left c).length ≤ 1931)
frame-reservoir c b = way_reservoir b c.promised (way_of c)

-- frames one after the other, each handed the reservoir that the one before it left
abbrev pub InTurn : Reservoir → List FrameStep → Type 0
InTurn r [] = Unit {0}
InTurn r (c ∷ cs) = (reservoir c ≡ r) × Bytes (frame c) × InTurn (reservoir_left c) cs

abbrev pub lastly : Reservoir → List FrameStep → Reservoir
lastly r [] = r
lastly r (c ∷ cs) = lastly (reservoir_left c) cs

modest_on : (r : Reservoir) (cs : List FrameStep) → InTurn r cs → r.length ≤ 1931 → (lastly r cs).length ≤ 1931
modest_on r [] t l = l
modest_on r (c ∷ cs) t l = modest_on (reservoir_left c) cs t.2 (by (frame-reservoir c t.1))
  where
    by : (reservoir_left c ≡ reservoir c) ⊎ ((reservoir_left c).length ≤ 1931) → (reservoir_left c).length ≤ 1931
    by (inl e) = rw (ap (λ (x : Reservoir). x.length) (e ∙ t.0)) l
    by (inr m) = m

-- from an emptied reservoir, after any number of frames
pub reservoir-modest : (start : EmptiedCall) (cs : List FrameStep) → InTurn start.answer cs → (lastly start.answer cs).length ≤ 1931
unfolding nothing
reservoir-modest start cs t = modest_on start.answer cs t (rw (ap (λ (x : Reservoir). x.length) start.promised) (omega arith))

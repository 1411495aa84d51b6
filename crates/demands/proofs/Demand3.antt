-- Demand 3: slots that are read early are right. Fix a header and side information that bytes read to, and at least 2,304 numbers. From main
-- data xs, and from xs with any ys after it, only a slot that was answered 20 may change its answer, its factors, its count or its 576 numbers;
-- a slot is answered 20 exactly when the lengths up to and including its own exceed the bits that are there; and every other answer is the
-- definition's from the whole.
-- Proved over the promise of read_slots, from SlotsLaws of `standard` (exactly_missing, same_outcome, own_numbers).
use Rattle.std.specs.Prelude.{Ok}
use mathlib.Core.Path.{◌≡◌, sym, ap, ◌∙◌}
use mathlib.Core.Bool.{true}
use mathlib.Core.Logic.{◌↔◌}
use mathlib.Core.List.{List, [], ◌++◌}
use Prim.Native.Nat.{ℕ, suc, ◌*◌, ◌≤◌, ◌<◌}
use native.Mathlib.Decide.{dec_lt}
use native.Mathlib.Omega.{arith}
use lib.IntN.{ℤ}
use lib.ListN.{length}
use Rattle.standard.specs.Sizes.{per_slot, per_frame}
use Rattle.standard.specs.ToldLaws.{clash}
use Rattle.standard.specs.Told.{told_or}
use Rattle.standard.specs.Header.{is_header}
use Rattle.standard.specs.SideInfo.{is_side}
use Rattle.standard.specs.Slots.{Outcome, stopped, holds, slots_of, slot_told, slots_told, numbers_from, read_slots, slots_answer, start_of, records, outcome_of, part_of, own_of}
use Rattle.standard.proofs.SlotsLaws.{length-slots, exactly_missing, same_outcome, read-call}
use Rattle.standard.proofs.SlotBounds.{slots-le}
use Rattle.standard.specs.declared.FrameHeader.{FrameHeader}
use Rattle.standard.specs.declared.SideInfo.{SideInfo}
use Rattle.standard.specs.declared.SlotAnswer.{SlotAnswer}
use Rattle.standard.specs.declared.SlotAnswer.TheVariants.{NotRead, Lacking}
use Rattle.standard.specs.declared.Refusal.TheVariants.{MissingBits}
use Rattle.demands.proofs.Calls.{slot_said, slots_of_call, SlotsCall, slots_header, slots_info, main_data, slots_numbers, slots_numbers_after}
use Rattle.demands.proofs.Stored.{Answered, said_is, stored_is, lacking_said, lacking_stays}

-- 20 is said of a missing slot alone
missing_said : (o : Outcome) → slot_told o ≡ NotRead MissingBits → o ≡ stopped MissingBits
unfolding slot_told
missing_said (stopped r) e = let k : r ≡ MissingBits = cc in ap stopped k
missing_said (holds long short vs) e = clash cc

says_missing : (o : Outcome) → o ≡ stopped MissingBits → slot_told o ≡ NotRead MissingBits
unfolding slot_told
says_missing o e = ap slot_told e

-- ---- what a call says and stores, by the definition
module _ (h : FrameHeader) (i : SideInfo) where
  module _ (s : List ℕ) {d left : List ℤ} {answers : List SlotAnswer} (f : Answered (slots_of h i s) answers d left) where
    pub own_said : (n : ℕ) → n < length (records h i) → slot_said answers n ≡ slot_told (outcome_of h i s n)
    unfolding outcome_of
    own_said n l = said_is (slots_of h i s) f n (omega (arith, length-slots h i s))

    pub own_stored : (n : ℕ) → n < length (records h i) → part_of (per_slot * n) left ≡ own_of (outcome_of h i s n) (part_of (per_slot * n) d)
    unfolding outcome_of
    own_stored n l = stored_is (slots_of h i s) f n (omega (arith, length-slots h i s))

    other_said : (n : ℕ) → length (records h i) ≤ n → slot_said answers n ≡ Lacking
    other_said n l = lacking_said (slots_of h i s) f n (omega (arith, length-slots h i s))

    other_stored : (n : ℕ) → length (records h i) ≤ n → part_of (per_slot * n) left ≡ part_of (per_slot * n) d
    other_stored n l = lacking_stays (slots_of h i s) f n (omega (arith, length-slots h i s))

    missing : (n : ℕ) → n < length (records h i) → (slot_said answers n ≡ NotRead MissingBits) ↔ (8 * length s < start_of (suc n) (records h i))
    missing n l =
        let k = own_said n l in
        let m = exactly_missing h i s n l in
        (λ e. m.0 (missing_said (outcome_of h i s n) (sym k ∙ e)), λ e. k ∙ says_missing (outcome_of h i s n) (m.1 e))

  -- ---- bytes after
  module _ (xs ys : List ℕ) {d left gone : List ℤ} {early late : List SlotAnswer}
      (f : Answered (slots_of h i xs) early d left) (g : Answered (slots_of h i (xs ++ ys)) late d gone) (n : ℕ)
      (found : slot_said early n ≡ NotRead MissingBits → ⊥) where
    outcomes : n < length (records h i) → outcome_of h i (xs ++ ys) n ≡ outcome_of h i xs n
    outcomes l = same_outcome h i xs ys n (λ e. found (own_said xs f n l ∙ says_missing (outcome_of h i xs n) e))

    stays : (slot_said late n ≡ slot_said early n) × (part_of (per_slot * n) gone ≡ part_of (per_slot * n) left)
    stays =
        elim (dec_lt n (length (records h i))) [
          | yes l ↦ (
            own_said (xs ++ ys) g n l ∙ ap slot_told (outcomes l) ∙ sym (own_said xs f n l),
            own_stored (xs ++ ys) g n l ∙ ap (λ (o : Outcome). own_of o (part_of (per_slot * n) d)) (outcomes l) ∙ sym (own_stored xs f n l),
          )
          | no l ↦ (
            other_said (xs ++ ys) g n (omega arith) ∙ sym (other_said xs f n (omega arith)),
            other_stored (xs ++ ys) g n (omega arith) ∙ sym (other_stored xs f n (omega arith)),
          )
        ]

-- ---- over the promise
module _ (c : SlotsCall) (enough : per_frame ≤ length (slots_numbers c)) (header : is_header (slots_header c) ≡ true)
    (info : is_side (slots_header c) (slots_info c) ≡ true) where
  call_told_lem : told_or [] (read_slots (slots_header c) (slots_info c) (main_data c) (length (slots_numbers c))) ≡ slots_of (slots_header c) (slots_info c) (main_data c)
  unfolding told_or
  call_told_lem = ap (told_or []) (read-call (slots_header c) (slots_info c) (main_data c) (length (slots_numbers c)) enough header info)

  -- such a call is accepted, and answers the definition's slots
  pub accepted : c.answer ≡ Ok (slots_told (slots_of (slots_header c) (slots_info c) (main_data c)))
  unfolding slots_answer
  accepted = c.promised.answer ∙ ap slots_answer (read-call (slots_header c) (slots_info c) (main_data c) (length (slots_numbers c)) enough header info)

  pub follows : Answered (slots_of (slots_header c) (slots_info c) (main_data c)) (slots_of_call c.answer) (slots_numbers c) (slots_numbers_after c)
  follows = record {
    says = ap slots_of_call accepted;
    stored = c.promised.numbers ∙ ap (λ (os : List Outcome). numbers_from 0 os (slots_numbers c)) call_told_lem;
    room = omega (arith, length-slots (slots_header c) (slots_info c) (main_data c), slots-le (slots_header c) (slots_info c));
  }

  -- 20 exactly when the lengths up to and including the slot's exceed the bits
  pub exactly_20 : (n : ℕ) → n < length (records (slots_header c) (slots_info c))
      → (slot_said (slots_of_call c.answer) n ≡ NotRead MissingBits) ↔ (8 * length (main_data c) < start_of (suc n) (records (slots_header c) (slots_info c)))
  exactly_20 n l = missing (slots_header c) (slots_info c) (main_data c) follows n l

-- two calls: from xs, and from xs with ys after it
module _ (early late : SlotsCall) (ys : List ℕ) (same_header : slots_header late ≡ slots_header early) (same_info : slots_info late ≡ slots_info early)
    (more : main_data late ≡ main_data early ++ ys) (same_numbers : slots_numbers late ≡ slots_numbers early)
    (enough : per_frame ≤ length (slots_numbers early)) (header : is_header (slots_header early) ≡ true)
    (info : is_side (slots_header early) (slots_info early) ≡ true) where
  late_follows : Answered (slots_of (slots_header early) (slots_info early) (main_data early ++ ys)) (slots_of_call late.answer) (slots_numbers early)
      (slots_numbers_after late)
  late_follows =
      let f = follows late (rw same_numbers enough) (ap is_header same_header ∙ header) ((λ j. is_side (same_header j) (same_info j)) ∙ info) in
      record {
        says = f.says ∙ (λ j. slots_told (slots_of (same_header j) (same_info j) (more j)));
        stored = f.stored ∙ (λ j. numbers_from 0 (slots_of (same_header j) (same_info j) (more j)) (same_numbers j));
        room = omega (arith, length-slots (slots_header early) (slots_info early) (main_data early ++ ys), slots-le (slots_header early) (slots_info early));
      }

  -- only a slot that was answered 20 may change: its answer with factors and count, and its numbers
  pub only-20_changes : (n : ℕ) → (slot_said (slots_of_call early.answer) n ≡ NotRead MissingBits → ⊥)
      → (slot_said (slots_of_call late.answer) n ≡ slot_said (slots_of_call early.answer) n)
      × (part_of (per_slot * n) (slots_numbers_after late) ≡ part_of (per_slot * n) (slots_numbers_after early))
  only-20_changes n found = stays (slots_header early) (slots_info early) (main_data early) ys (follows early enough header info) late_follows n found

  -- and any other answer is the definition's from the whole
  pub whole-answer : (n : ℕ) → n < length (records (slots_header early) (slots_info early))
      → (slot_said (slots_of_call early.answer) n ≡ NotRead MissingBits → ⊥)
      → (slot_said (slots_of_call early.answer) n ≡ slot_told (outcome_of (slots_header early) (slots_info early) (main_data early ++ ys) n))
      × (part_of (per_slot * n) (slots_numbers_after early)
      ≡ own_of (outcome_of (slots_header early) (slots_info early) (main_data early ++ ys) n) (part_of (per_slot * n) (slots_numbers early)))
  whole-answer n l found =
      let f = follows early enough header info in
      let e = sym (outcomes (slots_header early) (slots_info early) (main_data early) ys f late_follows n found l) in (
        own_said (slots_header early) (slots_info early) (main_data early) f n l
            ∙ ap slot_told e,
        own_stored (slots_header early) (slots_info early) (main_data early) f n l
            ∙ ap (λ (o : Outcome). own_of o (part_of (per_slot * n) (slots_numbers early))) e,
      )

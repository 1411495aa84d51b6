-- Demand 3, over the definition. A slot is missing exactly when the lengths up to and including its own exceed the bits there are; from the
-- same bytes with any others after them only a missing slot may come to something else, and its numbers too; and a slot's outcome depends
-- on its own bits and, where it shares, on its channel's granule 0 slot alone.
use Rattle.std.specs.Prelude.{◌≡◌, Bool, true, false, ◌&&◌, ◌↔◌, ℤ, take, drop, replicate, Result, Ok, Err}
use Rattle.std.proofs.Math.Path.{refl, ap}
use Rattle.std.proofs.Common.{sym, ◌∙◌, add-zero, le-leb, lt-ltb, le-ltb, take-take, drop-drop, take_at, drop_at, length-take-le}
use mathlib.Core.List.{List, [], ◌∷◌, ◌++◌, append_assoc, append-nil, map}
use Prim.Native.Nat.{ℕ, zero, suc, ◌+◌, ◌-◌, ◌*◌, ◌≤◌, ◌<◌}
use Rattle.std.proofs.Math.Decide.{dec_le}
use native.Mathlib.Omega.{arith}
use Rattle.std.proofs.lemmas.Bool.{lt-leb}
use Rattle.std.proofs.Math.ListN.{length, get_or, length-append}
use Rattle.std.proofs.lemmas.List.{length-replicate}
use Rattle.std.proofs.lemmas.List.Edits.{length-paste, drop-paste}
use Rattle.standard.specs.Told.{told_or, verdict_of}
use Rattle.standard.specs.ToldLaws.{picked, passed, never, both}
use Rattle.standard.specs.Bits.{bits}
use Rattle.standard.specs.BitsLaws.{bits-append}
use Rattle.standard.specs.CopyLaws.{take-drop}
use Rattle.standard.specs.Header.{is_header}
use Rattle.standard.specs.Record.{past_record}
use Rattle.standard.proofs.HaltLaws.{allowed, slot_allowed, is_other, not_missing}
use Rattle.standard.specs.SideInfo.{is_side}
use Rattle.standard.specs.Numbers.{padded}
use Rattle.standard.specs.Slots.{Outcome, stopped, holds, is_stopped, long_of, setting_of, mate_of, slot_of, slot_in, then_slots, slots_from, slots_of, slot_told, slots_answer, slots_told, numbers_after, numbers_from, read_slots, SlotsRead, records, start_of, outcome_of, part_of, own_of}
use Rattle.standard.specs.declared.Setting.{Setting}
use Rattle.standard.specs.declared.FrameHeader.{FrameHeader}
use Rattle.standard.specs.declared.SlotRecord.{SlotRecord}
use Rattle.standard.specs.declared.SideInfo.{SideInfo}
use Rattle.standard.specs.declared.SlotAnswer.{SlotAnswer}
use Rattle.standard.specs.declared.SlotAnswer.TheVariants.{Lacking}
use Rattle.standard.specs.declared.Refusal.{Refusal}
use Rattle.standard.specs.declared.Refusal.TheVariants.{UnfitMemory, MadeUpRecord, MissingBits}

-- ---- what a slot's own bits come to is never "missing"
pub slot_present : (g : Setting) (r : SlotRecord) (lost : Bool) (old : List ℕ) (b : List Bool) → allowed (is_other 20) (slot_of g r lost old b) ≡ true
slot_present = slot_allowed (is_other 20) not_missing

-- ---- one slot at its place
pub slot_in-missing : (s : List ℕ) (at : ℕ) (g : Setting) (r : SlotRecord) (lost : Bool) (old : List ℕ) → 8 * length s < at + r.part2_3_length
    → slot_in s at g r lost old ≡ stopped MissingBits
unfolding slot_in
slot_in-missing s at g r lost old h = passed _ (lt-leb _ _ h)

pub slot_in-read : (s : List ℕ) (at : ℕ) (g : Setting) (r : SlotRecord) (lost : Bool) (old : List ℕ) → at + r.part2_3_length ≤ 8 * length s
    → slot_in s at g r lost old ≡ slot_of g r lost old (bits s at r.part2_3_length)
unfolding slot_in
slot_in-read s at g r lost old h = picked _ (le-leb _ _ h)

-- where a slot starts and its own length are where the next one starts
pub start_next : (rs : List SlotRecord) (n : ℕ) → n < length rs → start_of n rs + (get_or rs n past_record).part2_3_length ≡ start_of (suc n) rs
unfolding start_of
start_next [] n h = absurd (omega arith)
start_next (r ∷ rs) zero h = omega arith
start_next (r ∷ rs) (suc n) h = omega (arith, start_next rs n (omega arith))

module _ (h : FrameHeader) (i : SideInfo) where
  -- ---- missing exactly when
  missing_from : (s : List ℕ) (rs : List SlotRecord) (n at : ℕ) (done : List Outcome) → 8 * length s < at + start_of (suc n) rs
      → get_or (slots_from h i s at done rs) n (stopped MissingBits) ≡ stopped MissingBits
  unfolding slots_from start_of then_slots
  missing_from s [] n at done k = refl
  missing_from s (r ∷ rs) zero at done k = slot_in-missing s at _ r _ _ (omega arith)
  missing_from s (r ∷ rs) (suc n) at done k = missing_from s rs n (at + r.part2_3_length) _ (omega arith)

  present_from : (s : List ℕ) (rs : List SlotRecord) (n at : ℕ) (done : List Outcome) → n < length rs → at + start_of (suc n) rs ≤ 8 * length s
      → allowed (is_other 20) (get_or (slots_from h i s at done rs) n (stopped MissingBits)) ≡ true
  unfolding slots_from start_of then_slots
  present_from s [] n at done l k = absurd (omega arith)
  present_from s (r ∷ rs) zero at done l k = ap (allowed (is_other 20)) (slot_in-read s at _ r _ _ (omega arith)) ∙ slot_present _ r _ _ _
  present_from s (r ∷ rs) (suc n) at done l k = present_from s rs n (at + r.part2_3_length) _ (omega arith) (omega arith)

  -- ---- bytes after
  module _ (xs ys : List ℕ) where
    slot_in-append : (at : ℕ) (g : Setting) (r : SlotRecord) (lost : Bool) (old : List ℕ) → at + r.part2_3_length ≤ 8 * length xs
        → slot_in (xs ++ ys) at g r lost old ≡ slot_in xs at g r lost old
    slot_in-append at g r lost old k =
        let m : at + r.part2_3_length ≤ 8 * length (xs ++ ys) = simp length-append (omega arith) in
        slot_in-read (xs ++ ys) at g r lost old m ∙ ap (slot_of g r lost old) (bits-append xs ys r.part2_3_length at k)
        ∙ sym (slot_in-read xs at g r lost old k)

    same_from : (rs : List SlotRecord) (n at : ℕ) (done : List Outcome) → at + start_of (suc n) rs ≤ 8 * length xs
        → get_or (slots_from h i (xs ++ ys) at done rs) n (stopped MissingBits) ≡ get_or (slots_from h i xs at done rs) n (stopped MissingBits)
    unfolding slots_from start_of then_slots
    same_from [] n at done k = refl
    same_from (r ∷ rs) zero at done k = slot_in-append at _ r _ _ (omega arith)
    same_from (r ∷ rs) (suc n) at done k =
        same_from rs n (at + r.part2_3_length) _ (omega arith)
        ∙ ap (λ (o : Outcome). get_or (slots_from h i xs (at + r.part2_3_length) (done ++ (o ∷ [])) rs) n (stopped MissingBits))
        (slot_in-append at _ r _ _ (omega arith))

  length_from : (s : List ℕ) (rs : List SlotRecord) (at : ℕ) (done : List Outcome) → length (slots_from h i s at done rs) ≡ length rs
  unfolding slots_from then_slots
  length_from s [] at done = refl
  length_from s (r ∷ rs) at done = ap suc (length_from s rs (at + r.part2_3_length) _)

  pub length-slots : (s : List ℕ) → length (slots_of h i s) ≡ length (records h i)
  unfolding slots_of
  length-slots s = length_from s (records h i) 0 []

  -- 20 exactly when the lengths up to and including the slot's exceed the bits there are
  pub exactly_missing : (s : List ℕ) (n : ℕ) → n < length (records h i)
      → (outcome_of h i s n ≡ stopped MissingBits) ↔ (8 * length s < start_of (suc n) (records h i))
  unfolding outcome_of slots_of allowed is_other
  exactly_missing s n l = (go, back)
    where
      go : get_or (slots_from h i s 0 [] (records h i)) n (stopped MissingBits) ≡ stopped MissingBits → 8 * length s < start_of (suc n) (records h i)
      go e =
          elim (dec_le (start_of (suc n) (records h i)) (8 * length s))
          [ yes k ↦ never (sym (ap (allowed (is_other 20)) e) ∙ present_from s (records h i) n 0 [] l (omega arith)) | no k ↦ omega arith ]

      back : 8 * length s < start_of (suc n) (records h i) → get_or (slots_from h i s 0 [] (records h i)) n (stopped MissingBits) ≡ stopped MissingBits
      back k = missing_from s (records h i) n 0 [] (omega arith)

  -- from the same bytes with any others after them, a slot that is not missing comes to the same
  pub same_outcome : (xs ys : List ℕ) (n : ℕ) → (outcome_of h i xs n ≡ stopped MissingBits → ⊥) → outcome_of h i (xs ++ ys) n ≡ outcome_of h i xs n
  unfolding outcome_of slots_of
  same_outcome xs ys n found =
      elim (dec_le (start_of (suc n) (records h i)) (8 * length xs))
      [ yes k ↦ same_from xs ys (records h i) n 0 [] (omega arith) | no k ↦ absurd (found (missing_from xs (records h i) n 0 [] (omega arith))) ]

  -- ---- one slot of many, by its own place and record and its channel's slot in the granule before
  abbrev slot_beside : List ℕ → ℕ → ℕ → SlotRecord → Outcome → Outcome
  slot_beside s at n r mate = slot_in s at (setting_of h i n r) r (is_stopped mate) (long_of mate)

  nth_from : (s : List ℕ) (rs : List SlotRecord) (n at : ℕ) (done : List Outcome) → n < length rs
      → get_or (slots_from h i s at done rs) n (stopped MissingBits)
      ≡ slot_beside s (at + start_of n rs) (length done + n) (get_or rs n past_record) (mate_of h (done ++ take n (slots_from h i s at done rs)))
  unfolding slots_from start_of then_slots
  nth_from s [] n at done l = absurd (omega arith)
  nth_from s (r ∷ rs) zero at done l = λ j. slot_beside s (sym (add-zero at) j) (sym (add-zero (length done)) j) r (mate_of h (sym (append-nil done) j))
  nth_from s (r ∷ rs) (suc n) at done l =
      let o = slot_beside s at (length done) r (mate_of h done) in
      let start : at + r.part2_3_length + start_of n rs ≡ at + (r.part2_3_length + start_of n rs) = omega arith in
      let count : length (done ++ (o ∷ [])) + n ≡ length done + suc n = simp length-append (omega arith) in
      nth_from s rs n (at + r.part2_3_length) (done ++ (o ∷ [])) (omega arith)
      ∙ (λ j. slot_beside s (start j) (count j) (get_or rs n past_record)
      (mate_of h (append_assoc done (o ∷ []) (take n (slots_from h i s (at + r.part2_3_length) (done ++ (o ∷ [])) rs)) j)))

  pub nth_outcome : (s : List ℕ) (n : ℕ) → n < length (records h i)
      → outcome_of h i s n
      ≡ slot_beside s (start_of n (records h i)) n (get_or (records h i) n past_record) (mate_of h (take n (slots_of h i s)))
  unfolding outcome_of slots_of
  nth_outcome s n l =
      let start : 0 + start_of n (records h i) ≡ start_of n (records h i) = omega arith in
      let count : 0 + n ≡ n = omega arith in
      nth_from s (records h i) n 0 [] l
      ∙ (λ j. slot_beside s (start j) (count j) (get_or (records h i) n past_record) (mate_of h (take n (slots_from h i s 0 [] (records h i)))))

-- ---- the lent numbers
pub padded-long : (vs : List ℤ) → 576 ≤ length (padded vs)
unfolding padded
padded-long vs = simp (length-append, length-replicate) (omega arith)

pub length-after : (o : Outcome) (at : ℕ) (d : List ℤ) → at + 576 ≤ length d → length (numbers_after o at d) ≡ length d
unfolding numbers_after
length-after (stopped r) at d h = refl
length-after (holds long short vs) at d h = length-paste d at (padded vs) 576 h (padded-long vs)

before_after : (o : Outcome) (at : ℕ) (d : List ℤ) → at + 576 ≤ length d → take at (numbers_after o at d) ≡ take at d
unfolding numbers_after
before_after (stopped r) at d h = refl
before_after (holds long short vs) at d h =
    let k : length (take at d) ≡ at = length-take-le at d (omega arith) in
    ap (take at) (append_assoc (take at d) (take 576 (padded vs)) (drop (at + 576) d)) ∙ take_at (take at d) _ at k

beyond_after : (o : Outcome) (at : ℕ) (d : List ℤ) → at + 576 ≤ length d → drop (at + 576) (numbers_after o at d) ≡ drop (at + 576) d
unfolding numbers_after
beyond_after (stopped r) at d h = refl
beyond_after (holds long short vs) at d h = drop-paste d at (padded vs) 576 (omega arith) (padded-long vs)

own_after : (o : Outcome) (at : ℕ) (d : List ℤ) → at + 576 ≤ length d → part_of at (numbers_after o at d) ≡ own_of o (part_of at d)
unfolding numbers_after own_of part_of
own_after (stopped r) at d h = refl
own_after (holds long short vs) at d h =
    let k : length (take at d) ≡ at = length-take-le at d (omega arith) in
    let m : length (take 576 (padded vs)) ≡ 576 = length-take-le 576 (padded vs) (padded-long vs) in
    ap (λ (l : List ℤ). take 576 (drop at l)) (append_assoc (take at d) (take 576 (padded vs)) (drop (at + 576) d))
    ∙ ap (take 576) (drop_at (take at d) _ at k)
    ∙ take_at (take 576 (padded vs)) _ 576 m

-- what lies before a place does not change with the slots from there on
before_slots : (os : List Outcome) (at : ℕ) (d : List ℤ) → at + 576 * length os ≤ length d → take at (numbers_from at os d) ≡ take at d
unfolding numbers_from
before_slots [] at d h = refl
before_slots (o ∷ os) at d h =
    let g : at + 576 ≤ length d = omega arith in
    let l : length (numbers_after o at d) ≡ length d = length-after o at d g in
    let k : at ≤ at + 576 = omega arith in
    sym (take-take at (at + 576) (numbers_from (at + 576) os (numbers_after o at d)) k)
    ∙ ap (take at) (before_slots os (at + 576) (numbers_after o at d) (omega arith))
    ∙ take-take at (at + 576) (numbers_after o at d) k
    ∙ before_after o at d g

-- the 576 numbers from a place on are told by what lies before their end, and by what lies from an earlier place on
part_take : (at : ℕ) (d : List ℤ) → part_of at d ≡ drop at (take (at + 576) d)
unfolding part_of
part_take at d = take-drop at 576 d

part_beyond : (k at : ℕ) (d e : List ℤ) → drop at d ≡ drop at e → part_of (at + k) d ≡ part_of (at + k) e
unfolding part_of
part_beyond k at d e h = ap (take 576) (sym (drop-drop k at d) ∙ ap (drop k) h ∙ drop-drop k at e)

part_from : (os : List Outcome) (n at : ℕ) (d : List ℤ) (z : Outcome) → n < length os → at + 576 * length os ≤ length d
    → part_of (at + 576 * n) (numbers_from at os d) ≡ own_of (get_or os n z) (part_of (at + 576 * n) d)
unfolding numbers_from
part_from [] n at d z k h = absurd (omega arith)
part_from (o ∷ os) zero at d z k h =
    let g : at + 576 ≤ length d = omega arith in
    let l : length (numbers_after o at d) ≡ length d = length-after o at d g in
    let e : at + 576 * 0 ≡ at = omega arith in
    rw e
    (part_take at (numbers_from (at + 576) os (numbers_after o at d))
    ∙ ap (drop at) (before_slots os (at + 576) (numbers_after o at d) (omega arith))
    ∙ sym (part_take at (numbers_after o at d))
    ∙ own_after o at d g)
part_from (o ∷ os) (suc n) at d z k h =
    let g : at + 576 ≤ length d = omega arith in
    let l : length (numbers_after o at d) ≡ length d = length-after o at d g in
    let e : at + 576 * suc n ≡ at + 576 + 576 * n = omega arith in
    rw e
    (part_from os n (at + 576) (numbers_after o at d) z (omega arith) (omega arith)
    ∙ ap (own_of (get_or os n z)) (part_beyond (576 * n) (at + 576) (numbers_after o at d) d (beyond_after o at d g)))

-- the n-th slot's 576 numbers are those of its own outcome
pub own_numbers : (os : List Outcome) (n : ℕ) (d : List ℤ) → n < length os → 576 * length os ≤ length d
    → part_of (576 * n) (numbers_from 0 os d) ≡ own_of (get_or os n (stopped MissingBits)) (part_of (576 * n) d)
own_numbers os n d k h =
    let e : 0 + 576 * n ≡ 576 * n = omega arith in
    rw e at (part_from os n 0 d (stopped MissingBits) k (omega arith))

-- what lies past the last slot's numbers stays
beyond_from : (os : List Outcome) (at : ℕ) (d : List ℤ) → at + 576 * length os ≤ length d
    → drop (at + 576 * length os) (numbers_from at os d) ≡ drop (at + 576 * length os) d
unfolding numbers_from
beyond_from [] at d h = refl
beyond_from (o ∷ os) at d h =
    let g : at + 576 ≤ length d = omega arith in
    let l : length (numbers_after o at d) ≡ length d = length-after o at d g in
    let e : at + 576 * suc (length os) ≡ at + 576 + 576 * length os = omega arith in
    rw e
    (beyond_from os (at + 576) (numbers_after o at d) (omega arith)
    ∙ sym (drop-drop (576 * length os) (at + 576) (numbers_after o at d))
    ∙ ap (drop (576 * length os)) (beyond_after o at d g)
    ∙ drop-drop (576 * length os) (at + 576) d)

pub past-slots : (os : List Outcome) (d : List ℤ) → 576 * length os ≤ length d → drop (576 * length os) (numbers_from 0 os d) ≡ drop (576 * length os) d
past-slots os d h = let e : 0 + 576 * length os ≡ 576 * length os = omega arith in rw e at (beyond_from os 0 d (omega arith))

-- a slot that is not missing leaves the same 576 numbers from the same bytes with any others after them
pub same_numbers : (h : FrameHeader) (i : SideInfo) (xs ys : List ℕ) (n : ℕ) (d : List ℤ) → n < length (slots_of h i xs) → 2304 ≤ length d
    → length (slots_of h i xs) ≤ 4 → (outcome_of h i xs n ≡ stopped MissingBits → ⊥)
    → part_of (576 * n) (numbers_from 0 (slots_of h i (xs ++ ys)) d) ≡ part_of (576 * n) (numbers_from 0 (slots_of h i xs) d)
unfolding outcome_of
same_numbers h i xs ys n d k l four found =
    let e : length (slots_of h i (xs ++ ys)) ≡ length (slots_of h i xs) = length-slots h i (xs ++ ys) ∙ sym (length-slots h i xs) in
    own_numbers (slots_of h i (xs ++ ys)) n d (omega arith) (omega arith)
    ∙ ap (λ (o : Outcome). own_of o (part_of (576 * n) d)) (same_outcome h i xs ys n found)
    ∙ sym (own_numbers (slots_of h i xs) n d k (omega arith))

-- ---- a slot's outcome is that of its own bits: two main datas that agree there, after granule 0 slots with the
-- same factors, agree on it
pub own_bits : (xs ys : List ℕ) (at bt : ℕ) (g : Setting) (r : SlotRecord) (lost : Bool) (old : List ℕ)
    → at + r.part2_3_length ≤ 8 * length xs → bt + r.part2_3_length ≤ 8 * length ys → bits xs at r.part2_3_length ≡ bits ys bt r.part2_3_length
    → slot_in xs at g r lost old ≡ slot_in ys bt g r lost old
own_bits xs ys at bt g r lost old h k e = slot_in-read xs at g r lost old h ∙ ap (slot_of g r lost old) e ∙ sym (slot_in-read ys bt g r lost old k)

-- ---- what the call comes to
module _ (h : FrameHeader) (i : SideInfo) (s : List ℕ) (n : ℕ) where
  pub few_numbers : n < 2304 → read_slots h i s n ≡ Err UnfitMemory
  unfolding read_slots
  few_numbers k = picked _ (lt-ltb n 2304 k)

  pub made-up_call : 2304 ≤ n → is_header h && is_side h i ≡ false → read_slots h i s n ≡ Err MadeUpRecord
  unfolding read_slots
  made-up_call k e = passed _ (le-ltb n 2304 k) ∙ passed _ e

  pub read-call : 2304 ≤ n → is_header h ≡ true → is_side h i ≡ true → read_slots h i s n ≡ Ok (slots_of h i s)
  unfolding read_slots
  read-call k e f = passed _ (le-ltb n 2304 k) ∙ picked _ (both e f)

pub slots-refused : {d left : List ℤ} {t : Result (List Outcome) Refusal} {r : Result (List SlotAnswer) Refusal} {why : Refusal} → t ≡ Err why
    → r ≡ Err why → left ≡ d → SlotsRead d t r left
unfolding slots_answer told_or numbers_from
slots-refused {d = d} e a l = record {
  answer = a ∙ sym (ap slots_answer e);
  numbers = l ∙ sym (ap (λ (x : Result (List Outcome) Refusal). numbers_from 0 (told_or [] x) d) e);
}

pub slots-told : {d left : List ℤ} {t : Result (List Outcome) Refusal} {os : List Outcome} {r : Result (List SlotAnswer) Refusal} {l : List SlotAnswer} → t ≡ Ok os
    → r ≡ Ok l → (l ≡ slots_told os) × (left ≡ numbers_from 0 os d) → SlotsRead d t r left
unfolding slots_answer told_or
slots-told {d = d} e v a = record {
  answer = v ∙ ap Ok a.0 ∙ sym (ap slots_answer e);
  numbers = a.1 ∙ sym (ap (λ (x : Result (List Outcome) Refusal). numbers_from 0 (told_or [] x) d) e);
}

-- ---- one answer and one state
pub one-slots : {d left gone : List ℤ} {t : Result (List Outcome) Refusal} {r q : Result (List SlotAnswer) Refusal} → SlotsRead d t r left → SlotsRead d t q gone
    → (r ≡ q) × (left ≡ gone)
one-slots a b = (a.answer ∙ sym b.answer, a.numbers ∙ sym b.numbers)

-- ---- what is answered of the n-th slot
told_from : (os : List Outcome) (l : List SlotAnswer) (n : ℕ) (o : Outcome) (z : SlotAnswer) → n < length os
    → get_or (map slot_told os ++ l) n z ≡ slot_told (get_or os n o)
told_from [] l n o z h = absurd (omega arith)
told_from (x ∷ os) l zero o z h = refl
told_from (x ∷ os) l (suc n) o z h = told_from os l n o z (omega arith)

lacking_from : (os : List Outcome) (k n : ℕ) → length os ≤ n → get_or (map slot_told os ++ replicate k Lacking) n Lacking ≡ Lacking
lacking_from [] zero n h = refl
lacking_from [] (suc k) zero h = refl
lacking_from [] (suc k) (suc n) h = lacking_from [] k n (omega arith)
lacking_from (x ∷ os) k zero h = absurd (omega arith)
lacking_from (x ∷ os) k (suc n) h = lacking_from os k n (omega arith)

module _ (l : List SlotAnswer) (os : List Outcome) (e : l ≡ slots_told os) (n : ℕ) where
  at_slot : get_or l n Lacking ≡ get_or (slots_told os) n Lacking
  at_slot = ap (λ (m : List SlotAnswer). get_or m n Lacking) e

  pub told_at : n < length os → get_or l n Lacking ≡ slot_told (get_or os n (stopped MissingBits))
  unfolding slots_told
  told_at h = at_slot ∙ told_from os (replicate (4 - length os) Lacking) n (stopped MissingBits) Lacking h

  pub lacking_at : length os ≤ n → get_or l n Lacking ≡ Lacking
  unfolding slots_told
  lacking_at h = at_slot ∙ lacking_from os (4 - length os) n h

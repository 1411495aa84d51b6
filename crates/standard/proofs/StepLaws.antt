-- What a frame's step can be: refused with nothing told and nothing touched; too short a reservoir, where only the frame's main data is added;
-- or all slots read. So refused frames leave what they must, the reservoir never outgrows 1,931 bytes, and a step knows of the lent bytes only
-- the stated first ones.
use Rattle.std.specs.Prelude.{◌≡◌, refl, Bool, true, false, not, ◌&&◌, ◌||◌, List, ◌++◌, ℕ, zero, suc, ◌+◌, ◌-◌, ◌*◌, ◌≤◌, ◌<◌, ltb, leb, eqb, length, take, drop, Result, Ok, Err}
use Rattle.std.proofs.Common.{sym, ◌∙◌, arith, le-ltb, lt-ltb, ltb-true, leb-true, ne_eqb, length-append, length-take, length-drop}
use Rattle.std.proofs.Math.Path.{ap}
use Rattle.std.proofs.Math.Decide.{dec_le}
use Rattle.standard.specs.Told.{pick}
use Rattle.standard.specs.ToldLaws.{picked, passed, never, both_of, either_way}
use Rattle.standard.specs.Bits.{bits}
use Rattle.standard.specs.Written.{Bytes}
use Rattle.standard.specs.Header.{is_mpeg1, is_two, is_slow, last_bytes, second_byte, header_of, header_size, side_bytes, side_size, main_size, frame_length}
use Rattle.standard.proofs.HeaderBytes.{header-known}
use Rattle.standard.proofs.HeaderLaws.{reservoir-le}
use Rattle.standard.specs.Record.{record_in, record_of, record_width}
use Rattle.standard.specs.SideInfo.{then_records, records_of, then_side, side_in, side_from, side_of}
use Rattle.standard.proofs.SideBytes.{side_known}
use Rattle.standard.proofs.SlotsLaws.{length-slots}
use Rattle.standard.proofs.SlotBounds.{slots-le}
use Rattle.standard.specs.Reservoir.{reaching, adding, turn_of, unfit}
use Rattle.standard.specs.Frame.{Step, no_step, short_step, full_step, step_slots, with_turn, frame_of, frame_call, main_of}
use Rattle.standard.proofs.FrameLaws.{call_few_numbers, frame-no_header, frame-no_side, frame-absent, frame-turn}
use Rattle.standard.specs.declared.FrameHeader.{FrameHeader}
use Rattle.standard.specs.declared.SlotRecord.{SlotRecord}
use Rattle.standard.specs.declared.SideInfo.{SideInfo}
use Rattle.standard.specs.declared.Refusal.TheVariants.{UnfitMemory, AbsentBytes, WrongCrc, ShortReservoir}
use Rattle.standard.specs.declared.Refusal.{Refusal}
use Rattle.standard.specs.Refusals.{number_of}

-- ---- what a reading is refused by: only by numbers that pass a test
unfoldable pub only : {A : Type 0} → (ℕ → Bool) → Result A Refusal → Bool
only p (Err r) = p (number_of r)
only p (Ok a) = true

pick-only : {A : Type 0} (p : ℕ → Bool) (b : Bool) (r : Refusal) (t : Result A Refusal) → p (number_of r) ≡ true → only p t ≡ true
    → only p (pick b (Err r) t) ≡ true
unfolding pick only
pick-only p true r t e f = e
pick-only p false r t e f = f

only-more : {A : Type 0} (p q : ℕ → Bool) → ((n : ℕ) → p n ≡ true → q n ≡ true) → (t : Result A Refusal) → only p t ≡ true → only q t ≡ true
unfolding only
only-more p q f (Err r) e = f (number_of r) e
only-more p q f (Ok a) e = refl

only_of : {A : Type 0} (p : ℕ → Bool) {r : Refusal} {t : Result A Refusal} → t ≡ Err r → only p t ≡ true → p (number_of r) ≡ true
unfolding only
only_of p e f = sym (ap (only p) e) ∙ f

-- the bits of side information by 10 to 12
abbrev of_record : ℕ → Bool
of_record n = leb 10 n && leb n 12

record_only : (mpeg1 slow : Bool) (b : List Bool) → only of_record (record_of mpeg1 slow b) ≡ true
unfolding record_of record_in only
record_only mpeg1 slow b =
    pick-only of_record _ _ _ refl
    (either_way (λ (t : Result SlotRecord Refusal). only of_record t ≡ true) _ _ _ (λ e. refl) (λ e. pick-only of_record _ _ _ refl (pick-only of_record _ _ _ refl refl)))

then_only : (p : ℕ → Bool) (t : Result SlotRecord Refusal) (ts : Result (List SlotRecord) Refusal) → only p t ≡ true → only p ts ≡ true → only p (then_records t ts) ≡ true
unfolding then_records only
then_only p (Err k) ts e f = e
then_only p (Ok r) (Err k) e f = f
then_only p (Ok r) (Ok rs) e f = refl

records-only : (mpeg1 slow : Bool) (n : ℕ) (b : List Bool) → only of_record (records_of mpeg1 slow n b) ≡ true
unfolding records_of only
records-only mpeg1 slow zero b = refl
records-only mpeg1 slow (suc n) b = then_only of_record _ _ (record_only mpeg1 slow _) (records-only mpeg1 slow n (drop (record_width mpeg1) b))

slots-only : (p : ℕ → Bool) (mpeg1 two : Bool) (b : List Bool) (t : Result (List SlotRecord) Refusal) → only p t ≡ true → only p (then_side mpeg1 two b t) ≡ true
unfolding then_side only
slots-only p mpeg1 two b (Err k) e = e
slots-only p mpeg1 two b (Ok rs) e = refl

side_in_only : (mpeg1 two slow : Bool) (b : List Bool) → only of_record (side_in mpeg1 two slow b) ≡ true
unfolding side_in
side_in_only mpeg1 two slow b = slots-only of_record mpeg1 two b _ (records-only mpeg1 slow _ _)

-- neither header nor side information by 13
abbrev pub but : ℕ → ℕ → Bool
but k n = not (eqb n k)

but-is : (k : ℕ) → ltb k 10 || ltb 12 k ≡ true → (n : ℕ) → of_record n ≡ true → but k n ≡ true
but-is k e n f =
    let r = both_of _ _ f in
    let low = leb-true 10 n r.0 in
    let high = leb-true n 12 r.1 in
    ap not (ne_eqb n k (λ g. go (ltb k 10) refl low high g))
  where
    go : (b : Bool) → ltb k 10 ≡ b → 10 ≤ n → n ≤ 12 → n ≡ k → ⊥
    go true h low high g = omega (arith, ltb-true k 10 h)
    go false h low high g = omega (arith, ltb-true 12 k (sym (ap (λ (b : Bool). b || ltb 12 k) h) ∙ e))

-- and before them by 16
pub side_in_but : (k : ℕ) → ltb k 10 || ltb 12 k ≡ true → but k (number_of WrongCrc) ≡ true → (wrong mpeg1 two slow : Bool) (b : List Bool)
    → only (but k) (pick wrong (Err WrongCrc) (side_in mpeg1 two slow b)) ≡ true
side_in_but k e f wrong mpeg1 two slow b =
    pick-only (but k) wrong WrongCrc _ f (only-more of_record (but k) (but-is k e) (side_in mpeg1 two slow b) (side_in_only mpeg1 two slow b))

header-other : (s : List ℕ) → only (but 13) (header_of s) ≡ true
unfolding header_of second_byte last_bytes only
header-other s =
    let p = pick-only {A = FrameHeader} (but 13) in
    p _ _ _ refl (p _ _ _ refl (p _ _ _ refl (p _ _ _ refl (p _ _ _ refl (p _ _ _ refl (p _ _ _ refl (p _ _ _ refl (p _ _ _ refl (p _ _ _ refl
    (p _ _ _ refl (p _ _ _ refl (p _ _ _ refl refl))))))))))))

side_other : (h : FrameHeader) (s : List ℕ) → only (but 13) (side_of h s) ≡ true
unfolding side_of side_from only
side_other h s =
    let mpeg1 = is_mpeg1 h.version in
    let two = is_two h.channels in
    let slow = is_slow h.rate in
    either_way (λ (t : Result SideInfo Refusal). only (but 13) t ≡ true) _ _ _
    (λ e. pick-only (but 13) _ _ _ refl (side_in_but 13 refl refl _ mpeg1 two slow (bits s (8 * header_size h) (8 * side_bytes mpeg1 two)))) (λ e. refl)

-- ---- the three ways
-- a frame all of whose bytes are there
pub record Entire (s : List ℕ) (h : FrameHeader) (i : SideInfo) : Type 0 where
  pub header : header_of s ≡ Ok h
  pub info : side_of h s ≡ Ok i
  pub there : frame_length h ≤ length s

pub data Way (s old : List ℕ) (p : Step) : Type 0 where
  refused_way : (r : Refusal) → (r ≡ ShortReservoir → ⊥) → p ≡ no_step r → Way s old p
  short_way : (h : FrameHeader) (i : SideInfo) → Entire s h i → length old < i.main_data_begin → p ≡ short_step h i (old ++ main_of h s) → Way s old p
  full_way : (h : FrameHeader) (i : SideInfo) → Entire s h i → i.main_data_begin ≤ length old
      → p ≡ full_step h i (drop (length old - i.main_data_begin) old ++ main_of h s) → Way s old p

not_13 : {A : Type 0} (r : Refusal) (t : Result A Refusal) → t ≡ Err r → only (but 13) t ≡ true → r ≡ ShortReservoir → ⊥
not_13 r t e f g = never (sym (ap (λ (q : Refusal). but 13 (number_of q)) g) ∙ only_of (but 13) e f)

module _ (s old : List ℕ) where
  by_turn : (h : FrameHeader) (i : SideInfo) → Entire s h i → Way s old (frame_of s old)
  unfolding turn_of with_turn adding reaching
  by_turn h i w =
      let e = frame-turn s old w.header w.info w.there in
      elim (dec_le i.main_data_begin (length old)) [
        | yes l ↦ full_way h i w l (e ∙ ap (with_turn h i) (passed _ (le-ltb (length old) i.main_data_begin l)))
        | no l ↦ short_way h i w (omega arith) (e ∙ ap (with_turn h i) (picked _ (lt-ltb (length old) i.main_data_begin (omega arith))))
      ]

  by_side : (h : FrameHeader) → header_of s ≡ Ok h → (t : Result SideInfo Refusal) → side_of h s ≡ t → Way s old (frame_of s old)
  by_side h e (Err k) f = refused_way k (not_13 k (side_of h s) f (side_other h s)) (frame-no_side s old e f)
  by_side h e (Ok i) f =
      elim (dec_le (frame_length h) (length s)) [
        | yes l ↦ by_turn h i (record { header = e; info = f; there = l })
        | no l ↦ refused_way (AbsentBytes (length s)) (λ z. let n : ◌≡◌ {A = ℕ} 2 13 = ap number_of z in omega arith) (frame-absent s old e f (omega arith))
      ]

  by_header : (t : Result FrameHeader Refusal) → header_of s ≡ t → Way s old (frame_of s old)
  by_header (Err k) e = refused_way k (not_13 k (header_of s) e (header-other s)) (frame-no_header s old e)
  by_header (Ok h) e = by_side h e (side_of h s) refl

  pub way : Way s old (frame_of s old)
  way = by_header (header_of s) refl

-- the call, whose refusal for the memory is no other
pub call_way : (s lent : List ℕ) (stated d : ℕ) → Way s (take stated lent) (frame_call s lent stated d)
unfolding frame_call
call_way s lent stated d =
    either_way (Way s (take stated lent)) (unfit lent stated || ltb d 2304) _ _
    (λ e. refused_way UnfitMemory (λ z. let n : ◌≡◌ {A = ℕ} 1 13 = ap number_of z in omega arith) refl) (λ e. way s (take stated lent))

-- ---- the slots of a step have room among the numbers
way_slots : {s old : List ℕ} {p : Step} → Way s old p → length (step_slots p) ≤ 4
way_slots (refused_way k n e) = rw e (omega arith)
way_slots (short_way h i w l e) = rw e (omega arith)
way_slots {s} {old} (full_way h i w l e) = rw e (omega (arith, length-slots h i (drop (length old - i.main_data_begin) old ++ main_of h s), slots-le h i))

pub call_room : (s lent : List ℕ) (stated d : ℕ) → 576 * length (step_slots (frame_call s lent stated d)) ≤ d
call_room s lent stated d =
    elim (dec_le 2304 d) [
      | yes k ↦ omega (arith, way_slots (call_way s lent stated d))
      | no k ↦ rw (call_few_numbers s lent stated d (omega arith)) (omega arith)
    ]

-- ---- how long what is kept can be
module _ {s : List ℕ} {h : FrameHeader} {i : SideInfo} (bytes : Bytes s) (w : Entire s h i) where
  main_le : i.main_data_begin + length (main_of h s) ≤ 1931
  main_le =
      let known = header-known s h bytes w.header in
      omega (arith, reservoir-le h i known (side_known h i s known w.info), length-take (main_size h) (drop (header_size h + side_size h) s))

  pub short_le : (old : List ℕ) → length old < i.main_data_begin → length (old ++ main_of h s) ≤ 1931
  short_le old l = omega (arith, main_le, length-append old (main_of h s))

  pub full_le : (old : List ℕ) → i.main_data_begin ≤ length old → length (drop (length old - i.main_data_begin) old ++ main_of h s) ≤ 1931
  full_le old l =
      omega (arith, main_le, length-append (drop (length old - i.main_data_begin) old) (main_of h s), length-drop (length old - i.main_data_begin) old)

-- ---- of the lent bytes a step knows the stated first ones, and whether enough are lent
pub stated-only : (s lent other : List ℕ) (stated d : ℕ) → take stated lent ≡ take stated other → ltb (length lent) 4096 ≡ ltb (length other) 4096
    → frame_call s lent stated d ≡ frame_call s other stated d
unfolding frame_call unfit
stated-only s lent other stated d e f =
    λ j. pick ((f j || ltb 4096 stated) || ltb d 2304) (no_step UnfitMemory) (frame_of s (e j))

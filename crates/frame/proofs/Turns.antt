-- The slots of a frame in turn: what the k slots before came to, what is answered of them, and that the rest of the definition remains.
use mathlib.Core.Path.{◌≡◌, refl, sym, ap, ◌∙◌}
use mathlib.Core.Bool.{Bool, true, false}
use mathlib.Core.List.{List, [], ◌∷◌, ◌++◌, append_assoc, append-nil, map}
use Prim.Native.Nat.{ℕ, suc, ◌+◌, ◌-◌, ◌*◌, ◌≤◌, ◌<◌}
use native.Mathlib.Numerals.{add-one}
use native.Mathlib.Decide.{dec_le}
use native.Mathlib.Omega.{arith}
use borrow.Author.Tests.{lt-ltb, le-ltb}
use borrow.Rule.Slice.PartMut.{mid_of, put_mid, put_same, mid_len}
use lib.IntN.{ℤ}
use lib.ListN.{length, get_or, take, drop, set, replicate, length-append, length-drop, drop_of_length-le, get_or-append, get_or-map, length-map}
use lib.Seq.{drop-drop, drop-cons, get_or-take, length-take-le, set_at}
use Rattle.standard.specs.ToldLaws.{picked, passed}
use Rattle.standard.specs.Header.{granules_in, channels_in, is_mpeg1, is_two, is_slow, granules, channel_count}
use Rattle.standard.specs.Record.{absent}
use Rattle.standard.specs.Numbers.{padded}
use Rattle.standard.specs.Slots.{Outcome, alone, stopped, holds, is_stopped, long_of, setting_of, mate_of, slot_in, then_slots, slots_from, slots_of, slot_told, slots_told, numbers_after, numbers_from, records}
use Rattle.standard.specs.CopyLaws.{paste_whole}
use Rattle.standard.specs.RowsLaws.{get_d_within}
use Rattle.standard.specs.SideInfo.{is_side}
use Rattle.standard.proofs.SideLaws.{four_slots, slot_record, small-record}
use Rattle.standard.proofs.SlotsLaws.{length-after}
use Rattle.standard.specs.declared.FrameHeader.{FrameHeader}
use Rattle.standard.specs.declared.Setting.{Setting}
use Rattle.standard.specs.declared.SideInfo.{SideInfo}
use Rattle.standard.specs.declared.SlotRecord.{SlotRecord}
use Rattle.standard.specs.declared.SlotAnswer.{SlotAnswer}
use Rattle.standard.specs.declared.SlotAnswer.TheVariants.{Lacking}
use Rattle.std.specs.Prelude.{Option, is_none}
use Rattle.frame.specs.Slot.{SlotRead, said_long, no_answer, mate_in, shared_of}

-- ---- the lent numbers
-- a slot's own part put back is the slot's step in all of them
pub part_back : (o : Outcome) (from : ℕ) (d left : List ℤ) → from + 576 ≤ length d → left ≡ numbers_after o 0 (mid_of from 576 d)
    → put_mid from 576 d left ≡ numbers_after o from d
unfolding numbers_after
part_back (stopped r) from d left h e = ap (put_mid from 576 d) e ∙ put_same from 576 d
part_back (holds long short vs) from d left h e =
    let m : length (mid_of from 576 d) ≡ 576 = length-take-le 576 (drop from d) (omega (arith, length-drop from d)) in
    ap (put_mid from 576 d) (e ∙ paste_whole (padded vs) (mid_of from 576 d) 576 m)
    ∙ ap (λ (l : List ℤ). take from d ++ (take 576 (padded vs) ++ l)) (drop-drop 576 from d)
    ∙ sym (append_assoc (take from d) (take 576 (padded vs)) (drop (from + 576) d))

numbers-snoc : (os : List Outcome) (o : Outcome) (at : ℕ) (d : List ℤ)
    → numbers_from at (os ++ (o ∷ [])) d ≡ numbers_after o (at + 576 * length os) (numbers_from at os d)
unfolding numbers_from
numbers-snoc [] o at d = let e : at ≡ at + 576 * 0 = omega arith in ap (λ (n : ℕ). numbers_after o n d) e
numbers-snoc (p ∷ os) o at d =
    let e : at + 576 + 576 * length os ≡ at + 576 * suc (length os) = omega arith in
    numbers-snoc os o (at + 576) (numbers_after p at d) ∙ ap (λ (n : ℕ). numbers_after o n (numbers_from (at + 576) os (numbers_after p at d))) e

-- ---- the answers
map-append : {A B : Type 0} (f : A → B) (l m : List A) → map f (l ++ m) ≡ map f l ++ map f m
map-append f [] m = refl
map-append f (x ∷ l) m = ap (λ (t : List _). f x ∷ t) (map-append f l m)

-- one more of four answers
pub told_turn : (answers : List SlotAnswer) (done : List Outcome) (k : ℕ) (a : SlotAnswer) (o : Outcome) → length done ≡ k → k < 4
    → answers ≡ map slot_told done ++ replicate (4 - k) Lacking → a ≡ slot_told o
    → set answers k a ≡ map slot_told (done ++ (o ∷ [])) ++ replicate (4 - (k + 1)) Lacking
told_turn answers done k a o l h t e =
    let n : 4 - k ≡ suc (4 - (k + 1)) = omega arith in
    (λ j. set ((t ∙ ap (λ (m : ℕ). map slot_told done ++ replicate m Lacking) n) j) k (e j))
    ∙ set_at (map slot_told done) Lacking (replicate (4 - (k + 1)) Lacking) (slot_told o) k (length-map done slot_told ∙ l)
    ∙ sym (ap (λ (x : List SlotAnswer). x ++ replicate (4 - (k + 1)) Lacking) (map-append slot_told done (o ∷ []))
    ∙ append_assoc (map slot_told done) (slot_told o ∷ []) (replicate (4 - (k + 1)) Lacking))

-- ---- the slot of the same channel in granule 0, as its answer tells it
none_said : (o : Outcome) → is_none (said_long (slot_told o)) ≡ is_stopped o
unfolding said_long slot_told is_stopped
none_said (stopped r) = refl
none_said (holds long short vs) = refl

long_said : (o : Outcome) → shared_of (said_long (slot_told o)) ≡ long_of o
unfolding said_long slot_told long_of
long_said (stopped r) = refl
long_said (holds long short vs) = refl

-- an answer before the k-th tells the outcome at its place
told_at : (answers : List SlotAnswer) (done : List Outcome) (k j : ℕ) (z : SlotAnswer) (u : Outcome) → length done ≡ k
    → answers ≡ map slot_told done ++ replicate (4 - k) Lacking → j < k → get_or answers j z ≡ slot_told (get_or done j u)
told_at answers done k j z u l t h =
    let n : length (map slot_told done) ≡ length done = length-map done slot_told in
    ap (λ (x : List SlotAnswer). get_or x j z) t
    ∙ get_or-append (map slot_told done) (replicate (4 - k) Lacking) z j (omega arith)
    ∙ get_d_within (map slot_told done) j z (slot_told u) (omega arith)
    ∙ get_or-map slot_told done j u

pub some_channels : (h : FrameHeader) → 0 < channel_count h
unfolding channel_count
some_channels h = by (is_two h.channels)
  where
    by : (b : Bool) → 0 < channels_in b
    by true = omega arith
    by false = omega arith

mate_told : (h : FrameHeader) (answers : List SlotAnswer) (done : List Outcome) (k : ℕ) → length done ≡ k
    → answers ≡ map slot_told done ++ replicate (4 - k) Lacking
    → mate_in (channel_count h) answers k ≡ said_long (slot_told (mate_of h done))
unfolding mate_in mate_of said_long slot_told alone
mate_told h answers done k l t =
    let c = channel_count h in
    let said = λ (o : Outcome). said_long (slot_told o) in
    elim (dec_le c k) [
      | yes m ↦ passed _ (le-ltb k c m) ∙ ap said_long (told_at answers done k (k - c) no_answer alone l t (omega (arith, some_channels h)))
          ∙ ap (λ (n : ℕ). said (get_or done (n - c) alone)) (sym l) ∙ ap said (sym (passed _ (le-ltb (length done) c (omega arith))))
      | no m ↦ picked _ (lt-ltb k c (omega arith)) ∙ ap said (sym (picked _ (lt-ltb (length done) c (omega arith))))
    ]

-- so the slot comes to what the definition says after the outcomes before it
pub mated_slot : (h : FrameHeader) (i : SideInfo) (s : List ℕ) (at : ℕ) (answers : List SlotAnswer) (done : List Outcome) (k : ℕ) (r : SlotRecord)
    (m : Option (List ℕ)) → length done ≡ k → answers ≡ map slot_told done ++ replicate (4 - k) Lacking → m ≡ mate_in (channel_count h) answers k
    → slot_in s at (setting_of h i k r) r (is_none m) (shared_of m)
    ≡ slot_in s at (setting_of h i (length done) r) r (is_stopped (mate_of h done)) (long_of (mate_of h done))
mated_slot h i s at answers done k r m l t e =
    let mate = e ∙ mate_told h answers done k l t in
    let same_lost = ap is_none mate ∙ none_said (mate_of h done) in
    let same_old = ap shared_of mate ∙ long_said (mate_of h done) in
    λ q. slot_in s at (setting_of h i (sym l q) r) r (same_lost q) (same_old q)

-- ---- the loop
pub record Turning (h : FrameHeader) (i : SideInfo) (s : List ℕ) (d₀ d : List ℤ) (answers : List SlotAnswer) (at k : ℕ) : Type 0 where
  pub done : List Outcome
  pub count : length done ≡ k
  pub near : at ≤ 4095 * k
  pub room : 2304 ≤ length d₀
  pub long : length d ≡ length d₀
  pub rest : slots_of h i s ≡ done ++ slots_from h i s at done (drop k (records h i))
  pub told : answers ≡ map slot_told done ++ replicate (4 - k) Lacking
  pub numbers : d ≡ numbers_from 0 done d₀

pub four_at_most : (h : FrameHeader) → granules h * channel_count h ≤ 4
unfolding granules channel_count
four_at_most h = by (is_mpeg1 h.version) (is_two h.channels)
  where
    by : (a b : Bool) → granules_in a * channels_in b ≤ 4
    by true true = omega arith
    by true false = omega arith
    by false true = omega arith
    by false false = omega arith

pub turning_begin : (h : FrameHeader) (i : SideInfo) (s : List ℕ) (d : List ℤ) (answers : List SlotAnswer) → 2304 ≤ length d → answers ≡ slots_told []
    → Turning h i s d d answers 0 0
unfolding slots_of numbers_from slots_told
turning_begin h i s d answers room t = record {
  done = [];
  count = refl;
  near = omega arith;
  room = room;
  long = refl;
  rest = refl;
  told = t;
  numbers = refl;
}

module _ (h : FrameHeader) (i : SideInfo) (s : List ℕ) (d₀ d : List ℤ) (answers : List SlotAnswer) (at k : ℕ) (w : Turning h i s d₀ d answers at k)
    (four : length i.slots ≡ 4) where
  records-long : length (records h i) ≡ granules h * channel_count h
  records-long = length-take-le (granules h * channel_count h) i.slots (omega (arith, four_at_most h))

  next_record : (r : SlotRecord) → k < granules h * channel_count h → r ≡ get_or i.slots k absent → drop k (records h i) ≡ r ∷ drop (k + 1) (records h i)
  next_record r c e =
      drop-cons (records h i) k absent (omega (arith, records-long))
      ∙ (λ j. (get_or-take (granules h * channel_count h) i.slots k absent c ∙ sym e) j ∷ drop (sym (add-one k) j) (records h i))

  pub turning_turn : (r : SlotRecord) (m : Option (List ℕ)) (a : SlotAnswer) (left : List ℤ) → k < granules h * channel_count h
      → r ≡ get_or i.slots k absent → r.part2_3_length < 4096 → m ≡ mate_in (channel_count h) answers k
      → a ≡ slot_told (slot_in s at (setting_of h i k r) r (is_none m) (shared_of m))
      → left ≡ numbers_after (slot_in s at (setting_of h i k r) r (is_none m) (shared_of m)) (576 * k) d
      → Turning h i s d₀ left (set answers k a) (at + r.part2_3_length) (k + 1)
  unfolding slots_from then_slots
  turning_turn r m a left c e small f t n =
      let o = slot_in s at (setting_of h i k r) r (is_none m) (shared_of m) in
      let few = four_at_most h in
      let p = mated_slot h i s at answers w.done k r m w.count w.told f in
      let q : 576 * k ≡ 0 + 576 * length w.done = omega (arith, w.count) in
      let after = slots_from h i s (at + r.part2_3_length) (w.done ++ (o ∷ [])) (drop (k + 1) (records h i)) in
      record {
        done = w.done ++ (o ∷ []);
        count = length-append w.done (o ∷ []) ∙ ap (λ (x : ℕ). x + 1) w.count;
        near = omega (arith, w.near);
        room = w.room;
        long = ap length n ∙ length-after o (576 * k) d (omega (arith, w.room, w.long)) ∙ w.long;
        rest =
            w.rest
            ∙ ap (λ (l : List SlotRecord). w.done ++ slots_from h i s at w.done l) (next_record r c e)
            ∙ ap (λ (x : Outcome). w.done ++ (x ∷ slots_from h i s (at + r.part2_3_length) (w.done ++ (x ∷ [])) (drop (k + 1) (records h i)))) (sym p)
            ∙ sym (append_assoc w.done (o ∷ []) after);
        told = told_turn answers w.done k a o w.count (omega arith) w.told t;
        numbers = n ∙ (λ j. numbers_after o (q j) (w.numbers j)) ∙ sym (numbers-snoc w.done o 0 d₀);
      }

  pub turning_end : granules h * channel_count h ≤ k → (answers ≡ slots_told (slots_of h i s)) × (d ≡ numbers_from 0 (slots_of h i s) d₀)
  unfolding slots_from slots_told
  turning_end c =
      let none : drop k (records h i) ≡ [] = drop_of_length-le (records h i) {i = k} (omega (arith, records-long)) in
      let all : slots_of h i s ≡ w.done = w.rest ∙ ap (λ (l : List SlotRecord). w.done ++ slots_from h i s at w.done l) none ∙ append-nil w.done in (
        w.told ∙ ap (λ (x : ℕ). map slot_told w.done ++ replicate (4 - x) Lacking) (sym w.count) ∙ sym (ap slots_told all),
        w.numbers ∙ sym (ap (λ (os : List Outcome). numbers_from 0 os d₀) all),
      )

-- ---- one turn as the code takes it: the record read with any default, the slot's own part lent
pub record Reads (h : FrameHeader) (i : SideInfo) (k : ℕ) (r : SlotRecord) : Type 0 where
  pub same : r ≡ get_or i.slots k absent
  pub length-lt : r.part2_3_length < 4096
  pub pairs-le : r.big_values ≤ 288

pub record_at_lem : (h : FrameHeader) (i : SideInfo) → is_side h i ≡ true → (k : ℕ) → k < granules h * channel_count h → (z : SlotRecord)
    → Reads h i k (get_or i.slots k z)
record_at_lem h i e k c z =
    let f = four_slots h i e in
    let p : get_or i.slots k z ≡ get_or i.slots k absent = get_d_within i.slots k z absent (omega (arith, four_at_most h)) in
    let small = small-record (is_mpeg1 h.version) (is_slow h.rate) (get_or i.slots k absent) (slot_record h i e k c) in
    record {
      same = p;
      length-lt = omega (arith, ap (λ (r : SlotRecord). r.part2_3_length) p, small.0);
      pairs-le = omega
          (arith, ap (λ (r : SlotRecord). r.big_values) p, small.1);
    }

pub part_long : (k : ℕ) (d : List ℤ) → 576 * k + 576 ≤ length d → length (mid_of (576 * k) (576 * k + 576 - 576 * k) d) ≡ 576
part_long k d h =
    let e : 576 * k + 576 - 576 * k ≡ 576 = omega arith in
    mid_len (576 * k) (576 * k + 576) d h ∙ e

pub turning_part : (h : FrameHeader) (i : SideInfo) (s : List ℕ) (d₀ d : List ℤ) (answers : List SlotAnswer) (at k : ℕ) (w : Turning h i s d₀ d answers at k)
    → is_side h i ≡ true → (r : SlotRecord) (g : Setting) (m : Option (List ℕ)) (a : SlotAnswer) (left : List ℤ) → k < granules h * channel_count h
    → Reads h i k r → g ≡ setting_of h i k r → m ≡ mate_in (channel_count h) answers k
    → SlotRead (slot_in s at g r (is_none m) (shared_of m)) (mid_of (576 * k) (576 * k + 576 - 576 * k) d) a left
    → Turning h i s d₀ (put_mid (576 * k) (576 * k + 576 - 576 * k) d left) (set answers k a) (at + r.part2_3_length) (k + 1)
turning_part h i s d₀ d answers at k w side r g m a left c q e f t =
    let n : 576 * k + 576 - 576 * k ≡ 576 = omega arith in
    let o = slot_in s at (setting_of h i k r) r (is_none m) (shared_of m) in
    let by_setting = ap (λ (x : Setting). slot_in s at x r (is_none m) (shared_of m)) e in
    let own : left ≡ numbers_after o 0 (mid_of (576 * k) 576 d) = t.numbers ∙ (λ j. numbers_after (by_setting j) 0 (mid_of (576 * k) (n j) d)) in
    turning_turn h i s d₀ d answers at k w (four_slots h i side) r m a _ c q.same q.length-lt f (t.answer ∙ ap slot_told by_setting)
    ((λ j. put_mid (576 * k) (n j) d left) ∙ part_back o (576 * k) d left (omega (arith, w.room, w.long, four_at_most h)) own)

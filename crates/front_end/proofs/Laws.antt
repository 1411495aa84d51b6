-- Rows written piece by piece, and what the exported calls answer at each of their returns.
use Rattle.std.specs.Prelude.{Result, Ok, Err}
use mathlib.Core.Path.{◌≡◌, refl, sym, ap, ◌∙◌, subst}
use mathlib.Core.Bool.{true, false, ◌||◌}
use mathlib.Core.List.{List, [], ◌∷◌, ◌++◌, append_assoc}
use Prim.Native.Nat.{ℕ, suc, ◌+◌, ◌*◌, ◌≤◌, ◌<◌}
use native.Mathlib.Omega.{arith}
use borrow.Author.Tests.{lt-ltb, le-ltb}
use lib.Dec.{ltb}
use lib.IntN.{ℤ}
use lib.ListN.{length, get_or, take, drop, set, replicate, length-append, take-append-drop, drop_of_length-le}
use Rattle.std.specs.Array.{IsFirstChunk}
use lib.Seq.{paste, take-append-le, drop-append-le, drop-cons, drop_at, take_all}
use Rattle.standard.specs.Sizes.{per_frame}
use Rattle.standard.specs.Told.{verdict_of, told_or, Verdict}
use Rattle.standard.specs.ToldLaws.{picked, passed, clash, told_is, either_left, either_right, neither}
use Rattle.standard.specs.Refusals.{Answers}
use Rattle.standard.specs.CopyLaws.{paste_next, paste_whole}
use Rattle.standard.specs.declared.SlotRecord.{SlotRecord}
use Rattle.standard.specs.declared.SlotAnswer.{SlotAnswer}
use Rattle.standard.specs.declared.FrameHeader.{FrameHeader}
use Rattle.standard.specs.declared.SideInfo.{SideInfo}
use Rattle.standard.specs.declared.SlotAnswer.TheVariants.{Read}
use Rattle.standard.specs.declared.Reservoir.{Reservoir}
use Rattle.standard.specs.declared.Frame.{Frame}
use Rattle.standard.specs.declared.FrameRefusal.{FrameRefusal}
use Rattle.standard.specs.declared.FrameRefusal.TheVariants.{Unread, OutOfReach}
use Rattle.standard.specs.declared.Refusal.{Refusal}
use Rattle.standard.specs.declared.Refusal.TheVariants.{UnfitMemory, MadeUpRecord, ShortReservoir}
use Rattle.standard.specs.Slots.{Outcome, slots_told, numbers_from, read_slots, slots_answer, SlotsRead}
use Rattle.standard.specs.Reservoir.{reservoir_after, bytes_after}
use Rattle.standard.specs.Frame.{Step, no_step, short_step, full_step, step_verdict, step_info, step_slots, step_kept, frame_answer, frame_call, FrameRead}
use Rattle.standard.specs.Header.{header_of, granules, channel_count}
use Rattle.standard.specs.SideInfo.{side_of, no_side}
use Rattle.standard.specs.Reorder.{reorder_of}
use Rattle.standard.specs.Record.{past_record}
use Rattle.fields.specs.Values.{scale_values}
use Rattle.frame.proofs.Turns.{four_at_most}
use Rattle.front_end.specs.declared.FrameTold.{FrameTold}
use Rattle.front_end.specs.declared.CallTold.{CallTold}
use Rattle.front_end.specs.Calls.{per_row, per_rows, call_told, unread_in_numbers, head_in_numbers, slot_row, rows_from, rows_after, following, under, reorder_by, reorder_step, ReorderDone, slots_step, records_in, SlotsDone, frame_step, frame_told, FrameDone}

-- ---- rows
abbrev zeros : List ℕ
zeros = replicate per_row 0

scale_length : (r : SlotRecord) → length (scale_values r) ≡ 8
unfolding scale_values
scale_length r = refl

-- the row of a slot that was not read
pub row_blank : (r : SlotRecord) {n x : ℕ} {v : List ℕ} → x ≡ n → v ≡ scale_values r
    → paste (set zeros 0 x) 63 v (length v) ≡ n ∷ 0 ∷ (replicate 22 0 ++ (replicate 39 0 ++ scale_values r))
unfolding scale_values
row_blank r p e = λ j. paste (set zeros 0 (p j)) 63 (e j) (length (e j))

-- a row written in its four pieces
module _ (r : SlotRecord) (count : ℕ) (long short : List ℕ) (l : length long ≡ 22) (s : length short ≡ 39) where
  abbrev row : List ℕ
  row = slot_row r (Read count long short)

  row_length : length row ≡ per_row
  unfolding slot_row
  row_length = simp (length-append, length-append) (omega (arith, l, s, scale_length r))

  row_two : set zeros 1 count ≡ paste zeros 0 row 2
  unfolding slot_row
  row_two = refl

  row_long : paste (paste zeros 0 row 2) 2 long 22 ≡ paste zeros 0 row 24
  unfolding slot_row
  row_long = paste_next row zeros long 0 2 22 (omega arith) (omega (arith, row_length)) (sym (take-append-le 22 long (short ++ scale_values r) (omega (arith, l))))

  row_short : paste (paste zeros 0 row 24) 24 short 39 ≡ paste zeros 0 row 63
  unfolding slot_row
  row_short =
      paste_next row zeros short 0 24 39 (omega arith) (omega (arith, row_length))
      (sym (ap (take 39) (drop_at long (short ++ scale_values r) 22 l) ∙ take-append-le 39 short (scale_values r) (omega (arith, s))))

  row_scale : paste (paste zeros 0 row 63) 63 (scale_values r) 8 ≡ row
  unfolding slot_row
  row_scale =
      let both : length (long ++ short) ≡ 61 = simp length-append (omega (arith, l, s)) in
      paste_next row zeros (scale_values r) 0 63 8 (omega arith) (omega (arith, row_length))
      (sym (ap (λ (x : List ℕ). take 8 (drop 61 x)) (sym (append_assoc long short (scale_values r)))
      ∙ ap (take 8) (drop_at (long ++ short) (scale_values r) 61 both)))
      ∙ paste_whole row zeros per_row refl ∙ take_all per_row row (omega (arith, row_length))

  pub row_put : {v : List ℕ} → v ≡ scale_values r
      → paste (paste (paste (set zeros 1 count) 2 long (length long)) 24 short (length short)) 63 v (length v) ≡ row
  row_put e =
      (λ j. paste (paste (paste (row_two j) 2 long (l j)) 24 short (s j)) 63 (e j) ((ap length e ∙ scale_length r) j))
      ∙ ap (λ (x : List ℕ). paste (paste x 24 short 39) 63 (scale_values r) 8) row_long
      ∙ ap (λ (x : List ℕ). paste x 63 (scale_values r) 8) row_short
      ∙ row_scale

-- a piece pasted before the rest of a list
paste-before : (d x rest : List ℕ) (at n : ℕ) → at + n ≤ length d → paste d at x n ++ rest ≡ paste (d ++ rest) at x n
paste-before d x rest at n h =
    append_assoc (take at d ++ take n x) (drop (at + n) d) rest
    ∙ (λ j. sym (take-append-le at d rest (omega arith)) j ++ take n x ++ sym (drop-append-le (at + n) d rest h) j)

-- the k-th row is written, and those after it remain, whatever stands after them
pub rows-turn : (records : List SlotRecord) (slots : List SlotAnswer) (d rest e : List ℕ) (k : ℕ) (y : SlotRecord) (z : SlotAnswer) {left : List ℕ}
    → length records ≡ 4 → length slots ≡ 4 → k < 4 → length d ≡ per_rows
    → left ≡ paste d (per_row * k) (slot_row (get_or records k y) (get_or slots k z)) per_row
    → rows_from (per_row * k) (drop k records) (drop k slots) (d ++ rest) ≡ e
    → rows_from (per_row * (k + 1)) (drop (k + 1) records) (drop (k + 1) slots) (left ++ rest) ≡ e
unfolding rows_from
rows-turn records slots d rest e k y z l m h n p w =
    let a : per_row * (k + 1) ≡ per_row * k + per_row = omega arith in
    let b : k + 1 ≡ suc k = omega arith in
    let row = slot_row (get_or records k y) (get_or slots k z) in
    let q = ap (λ (x : List ℕ). x ++ rest) p ∙ paste-before d row rest (per_row * k) per_row (omega arith) in
    (λ j. rows_from (a j) (drop (b j) records) (drop (b j) slots) (q j))
    ∙ sym (λ j. rows_from (per_row * k) (drop-cons records k y (omega arith) j) (drop-cons slots k z (omega arith) j) (d ++ rest)) ∙ w

pub rows_end : (records : List SlotRecord) (slots : List SlotAnswer) (d e : List ℕ) (k : ℕ) → length records ≡ 4 → 4 ≤ k
    → rows_from (per_row * k) (drop k records) (drop k slots) d ≡ e → d ≡ e
unfolding rows_from
rows_end records slots d e k l h w =
    sym (ap (λ (x : List SlotRecord). rows_from (per_row * k) x (drop k slots) d) (drop_of_length-le records {i = k} (omega arith))) ∙ w

-- the numbers of the rows, and those past them, are the lent ones
pub rows_back : (d : List ℕ) {piece : List ℕ} → IsFirstChunk d piece per_rows → piece ++ drop per_rows d ≡ d
rows_back d c = ap (λ (x : List ℕ). x ++ drop per_rows d) c.same ∙ take-append-drop per_rows d

-- ---- a frame's header and side information, read before the rest
-- at most four slots, by the sizes at hand
pub four_slots : (h : FrameHeader) {g n : ℕ} → g ≡ granules h → n ≡ channel_count h → g * n ≤ 4
four_slots h e f = subst (λ (x : ℕ). x ≤ 4) (sym (λ j. e j * f j)) (four_at_most h)

module _ {B : Type 0} (s : List ℕ) (f : FrameHeader → SideInfo → Result B Refusal) where
  pub under-no_header : {k : Refusal} → header_of s ≡ Err k → under s f ≡ Err k
  unfolding under following
  under-no_header e = ap (λ (x : Result FrameHeader Refusal). following x (λ (h : FrameHeader). following (side_of h s) (f h))) e

  module _ {h : FrameHeader} (e : header_of s ≡ Ok h) where
    pub under-no_side : {k : Refusal} → side_of h s ≡ Err k → under s f ≡ Err k
    unfolding under following
    under-no_side g =
        ap (λ (x : Result FrameHeader Refusal). following x (λ (y : FrameHeader). following (side_of y s) (f y))) e ∙ ap (λ (x : Result SideInfo Refusal). following x (f h)) g

    pub under-both : {i : SideInfo} → side_of h s ≡ Ok i → under s f ≡ f h i
    unfolding under following
    under-both g =
        ap (λ (x : Result FrameHeader Refusal). following x (λ (y : FrameHeader). following (side_of y s) (f y))) e ∙ ap (λ (x : Result SideInfo Refusal). following x (f h)) g

-- ---- the calls
pub reorder_refused : {d left : List ℤ} {t : Result (List ℤ) Refusal} {r : CallTold} (why : Refusal) → t ≡ Err why → r ≡ call_told (Err why) → left ≡ d
    → ReorderDone d t r left
unfolding verdict_of told_or
reorder_refused {d} why e n l = record {
  answer = n ∙ sym (ap (λ (x : Result (List ℤ) Refusal). call_told (verdict_of x)) e);
  numbers-are = l ∙ sym (ap (told_or d) e);
}

pub reorder_done : {d left : List ℤ} {t u : Result (List ℤ) Refusal} {v : Verdict} {r : CallTold} → u ≡ t → Answers d v left t → r ≡ call_told v → ReorderDone d u r left
reorder_done {d} e a n = record {
  answer = n ∙ ap call_told a.verdict ∙ sym (ap (λ (x : Result (List ℤ) Refusal). call_told (verdict_of x)) e);
  numbers-are = a.value ∙ sym (ap (told_or d) e);
}

module _ (s : List ℕ) (n : ℕ) (d : List ℤ) where
  pub reorder_few : length d < 576 → reorder_step s n d ≡ Err UnfitMemory
  unfolding reorder_step
  reorder_few h = picked _ (lt-ltb (length d) 576 h)

  pub reorder_fits : 576 ≤ length d → reorder_step s n d ≡ under s (λ (h : FrameHeader) (i : SideInfo). reorder_by h i n d)
  unfolding reorder_step
  reorder_fits h = passed _ (le-ltb (length d) 576 h)

  pub reorder_there : (h : FrameHeader) (i : SideInfo) → n < granules h * channel_count h → reorder_by h i n d ≡ reorder_of h (get_or i.slots n past_record) d
  unfolding reorder_by
  reorder_there h i l = picked _ (lt-ltb n (granules h * channel_count h) l)

  pub reorder_lacking : (h : FrameHeader) (i : SideInfo) → granules h * channel_count h ≤ n → reorder_by h i n d ≡ Err MadeUpRecord
  unfolding reorder_by
  reorder_lacking h i l = passed _ (le-ltb n (granules h * channel_count h) l)

-- the slots from given main data
pub slots-refused : {d numbers : List ℤ} {rows left : List ℕ} {rs : List SlotRecord} {t : Result (List Outcome) Refusal} {r : CallTold} (why : Refusal)
    → t ≡ Err why → r ≡ call_told (Err why) → numbers ≡ d → left ≡ rows
    → SlotsDone d rows rs t r numbers left
unfolding verdict_of told_or rows_after numbers_from
slots-refused {d} {rows = rows} {rs = rs} why e n m l = record {
  answer = n ∙ sym (ap (λ (x : Result (List Outcome) Refusal). call_told (verdict_of x)) e);
  numbers-are = m ∙ sym (ap (λ (x : Result (List Outcome) Refusal). numbers_from 0 (told_or [] x) d) e);
  rows_are = l ∙ sym (ap (λ (x : Result (List Outcome) Refusal). rows_after (verdict_of x) rs (slots_told (told_or [] x)) rows) e);
}

module _ (s main : List ℕ) (d room : ℕ) where
  pub slots-no_rows : room < per_rows → slots_step s main d room ≡ Err UnfitMemory
  unfolding slots_step
  slots-no_rows h = picked _ (either_left _ (lt-ltb room per_rows h))

  pub slots-few : d < per_frame → slots_step s main d room ≡ Err UnfitMemory
  unfolding slots_step
  slots-few h = picked _ (either_right _ (lt-ltb d per_frame h))

  pub slots-fit : per_rows ≤ room → per_frame ≤ d → slots_step s main d room ≡ under s (λ (h : FrameHeader) (i : SideInfo). read_slots h i main d)
  unfolding slots_step
  slots-fit rows numbers = passed _ (neither (le-ltb room per_rows rows) (le-ltb d per_frame numbers))

-- the records are those of the side information
pub records-in : (s : List ℕ) {h : FrameHeader} {i : SideInfo} → header_of s ≡ Ok h → side_of h s ≡ Ok i → records_in s ≡ i.slots
unfolding records_in told_or
records-in s e g = ap (λ (x : Result SideInfo Refusal). (told_or no_side x).slots) (under-both s (λ (h : FrameHeader) (i : SideInfo). Ok i) e g)

pub slots-done : {d numbers : List ℤ} {rows left : List ℕ} {rs qs : List SlotRecord} {t u : Result (List Outcome) Refusal} {l : List SlotAnswer}
    → rs ≡ qs → u ≡ t
    → SlotsRead d t (Ok l) numbers
    → left ≡ rows_from 0 qs l rows → SlotsDone d rows rs u (call_told (Ok tt)) numbers left
unfolding rows_after told_or verdict_of slots_answer
slots-done {d} {numbers} {rows} {left} {rs} {qs} {t} {u} {l} same e s w =
    subst (λ (x : Result (List Outcome) Refusal). SlotsDone d rows rs x (call_told (Ok tt)) numbers left) (sym e) (go t s.answer s.numbers)
  where
    go : (t : Result (List Outcome) Refusal) → Ok l ≡ slots_answer t → numbers ≡ numbers_from 0 (told_or [] t) d
        → SlotsDone d rows rs t (call_told (Ok tt)) numbers left
    go (Err k) a n = clash cc
    go (Ok os) a n = record {
      answer = refl;
      numbers-are = n;
      rows_are = w ∙ (λ j. rows_from 0 (sym same j) (told_is a j) rows);
    }

-- and the slots' own refusal
pub slots-not : {d numbers : List ℤ} {rows left : List ℕ} {rs : List SlotRecord} {t u : Result (List Outcome) Refusal} {k : Refusal}
    → u ≡ t
    → SlotsRead d t (Err k) numbers
    → left ≡ rows → SlotsDone d rows rs u (call_told (Err k)) numbers left
unfolding told_or slots_answer numbers_from
slots-not {d} {numbers} {rows} {left} {rs} {t} {u} {k} e s w = go t e s.answer s.numbers
  where
    go : (t : Result (List Outcome) Refusal) → u ≡ t → Err k ≡ slots_answer t → numbers ≡ numbers_from 0 (told_or [] t) d
        → SlotsDone d rows rs u (call_told (Err k)) numbers left
    go (Err j) g a n = let same : j ≡ k = cc in slots-refused k (g ∙ ap (λ (x : Refusal). Err x) same) refl n w
    go (Ok os) g a n = clash cc

-- a frame
module _ (s lent : List ℕ) (stated d room : ℕ) where
  pub room_few : room < per_rows → frame_step s lent stated d room ≡ no_step UnfitMemory
  unfolding frame_step
  room_few h = picked _ (lt-ltb room per_rows h)

  pub room_fits : per_rows ≤ room → frame_step s lent stated d room ≡ frame_call s lent stated d
  unfolding frame_step
  room_fits h = passed _ (le-ltb room per_rows h)

pub frame-few : {lent left rows told_rows : List ℕ} {stated : ℕ} {d numbers : List ℤ} {p : Step} {r : FrameTold} → p ≡ no_step UnfitMemory
    → r ≡ unread_in_numbers UnfitMemory stated → left ≡ lent → numbers ≡ d → told_rows ≡ rows → FrameDone lent stated d rows p r left numbers told_rows
unfolding no_side frame_told reservoir_after bytes_after numbers_from rows_after
frame-few {lent} {left} {rows} {told_rows} {stated} {d} {numbers} {p} {r} e f l m w =
    subst (λ (x : Step). FrameDone lent stated d rows x r left numbers told_rows) (sym e) (record { answer = f; bytes = l; numbers-are = m; rows_are = w })

-- a frame's answer in numbers, and the rows after it
abbrev pub in_numbers : Result Frame FrameRefusal → Reservoir → FrameTold
in_numbers (Ok f) kept = head_in_numbers (Ok tt) f.head kept
in_numbers (Err (OutOfReach h)) kept = head_in_numbers (Err ShortReservoir) h kept
in_numbers (Err (Unread r)) kept = unread_in_numbers r kept.length

abbrev pub rows_of : Result Frame FrameRefusal → List ℕ → List ℕ
rows_of (Ok f) rows = rows_from 0 f.head.info.slots f.slots rows
rows_of (Err e) rows = rows

told_step : (stated : ℕ) (p : Step) → in_numbers (frame_answer p) (reservoir_after (record { length = stated }) (step_kept p)) ≡ frame_told stated p
unfolding frame_answer frame_told no_side
told_step stated (no_step r) = refl
told_step stated (short_step h i bytes) = refl
told_step stated (full_step h i bytes) = refl

rows_step : (p : Step) (rows : List ℕ) → rows_of (frame_answer p) rows ≡ rows_after (step_verdict p) (step_info p).slots (slots_told (step_slots p)) rows
unfolding frame_answer rows_after
rows_step (no_step r) rows = refl
rows_step (short_step h i bytes) rows = refl
rows_step (full_step h i bytes) rows = refl

pub frame-done : {lent left rows told_rows : List ℕ} {stated : ℕ} {d numbers : List ℤ} {p q : Step} {a b : Result Frame FrameRefusal} {kept : Reservoir}
    {r : FrameTold} → q ≡ p → FrameRead lent (record { length = stated }) d p a kept left numbers → a ≡ b → r ≡ in_numbers b kept → told_rows ≡ rows_of b rows
    → FrameDone lent stated d rows q r left numbers told_rows
frame-done {lent} {left} {rows} {told_rows} {stated} {d} {numbers} {p} {q} {r = r} e f is t w =
    let b_is = sym is ∙ f.answer in
    subst (λ (x : Step). FrameDone lent stated d rows x r left numbers told_rows) (sym e)
    (record {
      answer = t ∙ (λ j. in_numbers (b_is j) (f.reservoir j)) ∙ told_step stated p;
      bytes = f.bytes;
      numbers-are = f.numbers-are;
      rows_are = w ∙ ap (λ (x : Result Frame FrameRefusal). rows_of x rows) b_is ∙ rows_step p rows;
    })

-- Worked from bytes: the starred cases of docs/RULES.md are one table with a single statement. In `standard` (Worked) each row is computed from the
-- definition; here each is what a call answers and leaves, whatever was lent, over the promises of process_frame, read_slots and reorder.
use Rattle.std.specs.Prelude.{Result, Ok}
use mathlib.Core.Path.{◌≡◌, sym, ap, ◌∙◌}
use mathlib.Core.Bool.{true}
use mathlib.Core.List.{List, [], ◌∷◌, ◌++◌}
use Prim.Native.Nat.{ℕ, ◌≤◌}
use lib.IntN.{ℤ}
use lib.ListN.{length, take}
use Rattle.standard.specs.Sizes.{per_slot, per_frame, reservoir_bytes}
use Rattle.standard.specs.Told.{told_or, verdict_of, Verdict}
use Rattle.standard.proofs.RefusalsLaws.{unlike}
use Rattle.standard.specs.Written.{Bytes}
use Rattle.standard.specs.Header.{is_header}
use Rattle.standard.specs.SideInfo.{is_record_under, is_side}
use Rattle.standard.specs.Record.{shape_of}
use Rattle.standard.specs.Slots.{Outcome, slots_told, slots_answer, numbers_from, read_slots}
use Rattle.standard.proofs.SlotsLaws.{read-call}
use Rattle.standard.specs.Reservoir.{Kept, reservoir_after, bytes_after as bytesKept}
use Rattle.standard.specs.Frame.{Step, step_verdict, step_header, step_info, step_slots, step_kept, frame_of, frame_call}
use Rattle.standard.proofs.FrameLaws.{call_fits}
use Rattle.standard.proofs.StepLaws.{Way, refused_way, short_way, full_way, way}
use Rattle.standard.specs.Reorder.{first_short, reordered_from}
use Rattle.standard.proofs.ReorderLaws.{in_order}
use Rattle.standard.proofs.Worked.{Row, of_frame, of_main, of_order, table, step, slots_by, ordered, IsSo, AllSo, starred}
use Rattle.standard.specs.declared.SampleRate.{SampleRate}
use Rattle.standard.specs.declared.Shape.{Shape}
use Rattle.demands.proofs.Calls.{verdict_in, header_in, info_in, slots_in, FrameStep, frame, bytes, reservoir, reservoir_left, numbers, bytes_after, numbers_after, SlotsCall, slots_header, slots_info, main_data, slots_numbers, slots_numbers_after, ReorderCall, reorder_header, reorder_record, reorder_numbers, reorder_numbers_after}
use Rattle.demands.proofs.Stored.{verdict_by, header_by, info_by, answers_by}
use Rattle.demands.proofs.Bounds.{entire_known}
use Rattle.standard.specs.declared.Refusal.{Refusal}

-- memory that a frame's call takes, with the reservoir's bytes
pub record Lent (c : FrameStep) (s old : List ℕ) : Type 0 where
  pub frame_is : frame c ≡ s
  pub old_is : take (reservoir c).length (bytes c) ≡ old
  pub bytes-enough : reservoir_bytes ≤ length (bytes c)
  pub stated-fits : (reservoir c).length ≤ reservoir_bytes
  pub numbers-enough : per_frame ≤ length (numbers c)

-- what a row says of any call that has its bytes. A slot's answer and its numbers are told from its outcome by `slots_told` and `numbers_from`
abbrev pub Promised : Row → Type 0
Promised (of_frame s old v os k) =
    (c : FrameStep) → Lent c s old
    → (verdict_in c.answer ≡ v) × (slots_in c.answer ≡ slots_told os) × (numbers_after c ≡ numbers_from 0 os (numbers c))
    × (bytes_after c ≡ bytesKept (bytes c) k) × (reservoir_left c ≡ reservoir_after (reservoir c) k)
Promised (of_main s main os) =
    (b : FrameStep) → Lent b s [] → Bytes s → verdict_in b.answer ≡ Ok tt → (c : SlotsCall) → slots_header c ≡ header_in b.answer
    → slots_info c ≡ info_in b.answer
    → main_data c ≡ main → per_frame ≤ length (slots_numbers c)
    → (c.answer ≡ Ok (slots_told os)) × (slots_numbers_after c ≡ numbers_from 0 os (slots_numbers c))
Promised (of_order rate k before after) =
    (c : ReorderCall) → is_header (reorder_header c) ≡ true → (reorder_header c).rate ≡ rate
    → is_record_under (reorder_header c) (reorder_record c) ≡ true
    → shape_of (reorder_record c) ≡ k → per_slot ≤ length (reorder_numbers c) → (rest : List ℤ) → reorder_numbers c ≡ before ++ rest
    → (c.answer ≡ (Ok tt)) × (take (length after) (reorder_numbers_after c) ≡ after)

-- ---- a frame
step_is : (c : FrameStep) (s old : List ℕ) → Lent c s old → frame_call (frame c) (bytes c) (reservoir c).length (length (numbers c)) ≡ step s old
unfolding step
step_is c s old l =
    call_fits (frame c) (bytes c) (reservoir c).length (length (numbers c)) l.bytes-enough l.stated-fits l.numbers-enough
    ∙ (λ j. frame_of (l.frame_is j) (l.old_is j))

frame-so : (s old : List ℕ) (v : Verdict) (os : List Outcome) (k : Kept) → IsSo (of_frame s old v os k) → Promised (of_frame s old v os k)
frame-so s old v os k so c l =
    let e = step_is c s old l in (
      verdict_by c.promised ∙ ap step_verdict e ∙ so.0,
      answers_by c.promised ∙ ap (λ (p : Step). slots_told (step_slots p)) e ∙ ap slots_told so.1,
      c.promised.numbers-are ∙ ap (λ (p : Step). numbers_from 0 (step_slots p) (numbers c)) e ∙ ap (λ (x : List Outcome). numbers_from 0 x (numbers c)) so.1,
      c.promised.bytes ∙ ap (λ (p : Step). bytesKept (bytes c) (step_kept p)) e ∙ ap (bytesKept (bytes c)) so.2,
      c.promised.reservoir ∙ ap (λ (p : Step). reservoir_after (reservoir c) (step_kept p)) e ∙ ap (reservoir_after (reservoir c)) so.2,
    )

-- ---- slots from other main data: header and side information of a frame that was accepted are such that bytes read to them
pub way_known : {s old : List ℕ} {p : Step} → Bytes s → Way s old p → step_verdict p ≡ Ok tt → (is_header (step_header p) ≡ true)
    × (is_side (step_header p) (step_info p) ≡ true)
way_known b (refused_way k m e) v = unlike (sym (ap step_verdict e) ∙ v)
way_known b (short_way h i w l e) v = unlike (sym (ap step_verdict e) ∙ v)
way_known b (full_way h i w l e) v =
    let k = entire_known b w in
    (ap (λ (x : Step). is_header (step_header x)) e ∙ k.0, ap (λ (x : Step). is_side (step_header x) (step_info x)) e ∙ k.1)

main_so : (s main : List ℕ) (os : List Outcome) → IsSo (of_main s main os) → Promised (of_main s main os)
unfolding step slots_by slots_answer told_or
main_so s main os so b l bs v c same_header same_info same-main enough =
    let e = step_is b s [] l in
    let known = way_known bs (way s []) (sym (verdict_by b.promised ∙ ap step_verdict e) ∙ v) in
    let h = same_header ∙ header_by b.promised ∙ ap step_header e in
    let i = same_info ∙ info_by b.promised ∙ ap step_info e in
    let t = (λ j. read_slots (h j) (i j) (same-main j) (length (slots_numbers c)))
    ∙ read-call (step_header (frame_of s [])) (step_info (frame_of s [])) main (length (slots_numbers c)) enough known.0 known.1
    ∙ ap (λ (x : List Outcome). Ok x) so in (
      c.promised.answer ∙ ap slots_answer t,
      c.promised.numbers ∙ ap (λ (x : Result (List Outcome) Refusal). numbers_from 0 (told_or [] x) (slots_numbers c)) t,
    )

-- ---- the reorder
order_so : (rate : SampleRate) (k : Shape) (before after : List ℤ) → IsSo (of_order rate k before after) → Promised (of_order rate k before after)
unfolding ordered verdict_of told_or
order_so rate k before after so c known same_rate_lem fits shape enough rest first =
    let t = in_order (reorder_header c) (reorder_record c) (reorder_numbers c) enough known fits
    ∙ (λ j. Ok (reordered_from (same_rate_lem j) (first_short (shape j)) (first j))) in (
      c.promised.verdict ∙ ap verdict_of t,
      ap (take (length after)) (c.promised.value ∙ ap (told_or (reorder_numbers c)) t) ∙ so rest,
    )

row_so : (r : Row) → IsSo r → Promised r
row_so (of_frame s old v os k) so = frame-so s old v os k so
row_so (of_main s main os) so = main_so s main os so
row_so (of_order rate k before after) so = order_so rate k before after so

all_so : (rs : List Row) → AllSo IsSo rs → AllSo Promised rs
all_so [] a = tt
all_so (r ∷ rs) a = (row_so r a.0, all_so rs a.1)

-- the statement: every row of the table is what the calls answer
pub worked : AllSo Promised table
worked = all_so table starred

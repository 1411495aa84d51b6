-- A loss never turns into silence: a slot without bits for its numbers (Huffman length 0) is read exactly when none of its pairs falls in a table with
-- codewords, and then its count is 0 and its 576 numbers are zeros; with such a pair it is refused by 24. 22 comes before both.
-- Proved over the promise of read_slots, from QuietLaws of `standard` (quiet_told).
use Rattle.std.specs.Prelude.{Some, Ok, Err}
use mathlib.Core.Path.{◌≡◌, refl, sym, ap, ◌∙◌}
use mathlib.Core.Bool.{true, ◌&&◌}
use mathlib.Core.List.{List, [], ◌∷◌}
use Prim.Native.Nat.{ℕ, suc, ◌*◌, ◌≤◌, ◌<◌}
use native.Mathlib.Omega.{arith}
use lib.IntN.{ℤ, pos}
use lib.ListN.{length, get_or, take, replicate}
use Rattle.standard.specs.Sizes.{per_slot, per_frame}
use Rattle.standard.specs.Told.{pick}
use Rattle.standard.specs.ToldLaws.{clash}
use Rattle.standard.specs.Bits.{bits}
use Rattle.standard.specs.BitsLaws.{length-bits}
use Rattle.standard.specs.Header.{is_header}
use Rattle.standard.specs.Record.{past_record}
use Rattle.standard.specs.SideInfo.{is_side}
use Rattle.standard.specs.Factors.{sources_of, plan_of, plan_bits}
use Rattle.standard.specs.Numbers.{table_of, any_coded, padded}
use Rattle.standard.specs.Slots.{Outcome, stopped, holds, is_stopped, long_of, any_of, setting_of, shares_of, mate_of, slots_of, slot_told, said_of, start_of, records, outcome_of, part_of, own_of}
use Rattle.standard.proofs.SlotsLaws.{start_next, slot_in-read, nth_outcome}
use Rattle.standard.proofs.QuietLaws.{quiet_told}
use Rattle.standard.specs.declared.SlotRecord.{SlotRecord}
use Rattle.standard.specs.declared.Refusal.TheVariants.{LostShare, PairOverrun}
use Rattle.demands.proofs.Calls.{slot_said, slots_of_call, SlotsCall, slots_header, slots_info, main_data, slots_numbers, slots_numbers_after}
use Rattle.demands.proofs.Demand3.{follows, own_said, own_stored}

-- a slot that is said to have no numbers left zeros
zeros-own : (o : Outcome) (d : List ℤ) → said_of (slot_told o) ≡ Some (Ok 0) → own_of o d ≡ replicate per_slot (pos 0)
unfolding said_of slot_told own_of padded
zeros-own (stopped r) d e = clash cc
zeros-own (holds long short []) d e = refl
zeros-own (holds long short (v ∷ vs)) d e = clash cc

module _ (c : SlotsCall) (enough : per_frame ≤ length (slots_numbers c)) (header : is_header (slots_header c) ≡ true)
    (info : is_side (slots_header c) (slots_info c) ≡ true) (n : ℕ) (has : n < length (records (slots_header c) (slots_info c))) where
  -- a count of 0 is 576 zeros
  pub read-zeros : said_of (slot_said (slots_of_call c.answer) n) ≡ Some (Ok 0) → part_of (per_slot * n) (slots_numbers_after c) ≡ replicate per_slot (pos 0)
  read-zeros e =
      let f = follows c enough header info in
      let o = outcome_of (slots_header c) (slots_info c) (main_data c) n in
      own_stored (slots_header c) (slots_info c) (main_data c) f n has
      ∙ zeros-own o (part_of (per_slot * n) (slots_numbers c))
      (sym (ap said_of (own_said (slots_header c) (slots_info c) (main_data c) f n has)) ∙ e)

  -- the slot's record, and its channel's slot in the granule before
  abbrev pub record_at : SlotRecord
  record_at = get_or (records (slots_header c) (slots_info c)) n past_record

  abbrev pub mate_at : Outcome
  mate_at = mate_of (slots_header c) (take n (slots_of (slots_header c) (slots_info c) (main_data c)))

  -- the slot's bits are there, and its factors take all of them
  pub without_bits : start_of (suc n) (records (slots_header c) (slots_info c)) ≤ 8 * length (main_data c)
      → plan_bits (sources_of (plan_of (setting_of (slots_header c) (slots_info c) n record_at) record_at)) ≡ record_at.part2_3_length
      → said_of (slot_said (slots_of_call c.answer) n)
      ≡ pick (any_of (shares_of (slots_header c) (slots_info c) n record_at) && is_stopped mate_at) (Some (Err LostShare))
      (pick (any_coded (table_of (slots_header c).rate record_at) 0 record_at.big_values) (Some (Err PairOverrun)) (Some (Ok 0)))
  unfolding setting_of
  without_bits there spent =
      let h = slots_header c in
      let i = slots_info c in
      let s = main_data c in
      let at = start_of n (records h i) in
      let g = setting_of h i n record_at in
      ap said_of (own_said h i s (follows c enough header info) n has)
      ∙ ap (λ (o : Outcome). said_of (slot_told o))
      (nth_outcome h i s n has
      ∙ slot_in-read s at g record_at (is_stopped mate_at) (long_of mate_at) (omega (arith, there, start_next (records h i) n has)))
      ∙ quiet_told g record_at (is_stopped mate_at) (long_of mate_at) (bits s at record_at.part2_3_length) (length-bits s at record_at.part2_3_length) spent

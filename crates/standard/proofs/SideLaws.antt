-- What accepted side information says of its slots: there are four records, and those of the frame's slots are small.
use Rattle.std.specs.Prelude.{◌≡◌, Bool, true, ◌&&◌, ℕ, ◌*◌, ◌^◌, ◌≤◌, ◌<◌, eqb, ltb, length, get_or}
use Rattle.std.proofs.Common.{eqb-true, ltb-true, leb-true}
use Rattle.standard.specs.ToldLaws.{both_of}
use Rattle.standard.specs.Header.{is_mpeg1, is_slow, is_two, granules, channel_count}
use Rattle.standard.specs.Record.{absent, is_record, is_head}
use Rattle.standard.specs.SideInfo.{are_slots, are_shares, is_side_by, is_record_under, is_side, fit_slots, begin_width, slot_count, share_count}
use Rattle.standard.proofs.SideBytes.{fit_at}
use Rattle.standard.specs.declared.FrameHeader.{FrameHeader}
use Rattle.standard.specs.declared.SlotRecord.{SlotRecord}
use Rattle.standard.specs.declared.SideInfo.{SideInfo}

module _ (h : FrameHeader) (i : SideInfo) (e : is_side h i ≡ true) where
  are_slots_lem : (eqb (length i.slots) 4 ≡ true)
      × (fit_slots (is_mpeg1 h.version) (is_slow h.rate) (slot_count (is_mpeg1 h.version) (is_two h.channels)) i.slots ≡ true)
  unfolding is_side is_side_by are_slots
  are_slots_lem =
      let mpeg1 = is_mpeg1 h.version in
      let two = is_two h.channels in
      let slow = is_slow h.rate in
      both_of (eqb (length i.slots) 4) _
      (both_of (ltb i.main_data_begin (2 ^ begin_width mpeg1) && are_shares (share_count mpeg1 two) i.scfsi)
      (are_slots mpeg1 slow (slot_count mpeg1 two) i.slots) e).1

  pub four_slots : length i.slots ≡ 4
  four_slots = eqb-true _ 4 are_slots_lem.0

  pub slot_record : (n : ℕ) → n < granules h * channel_count h → is_record_under h (get_or i.slots n absent) ≡ true
  unfolding granules channel_count
  slot_record n k = fit_at (is_mpeg1 h.version) (is_slow h.rate) _ i.slots n are_slots_lem.1 k

-- a record that bytes read to
pub small-record : (mpeg1 slow : Bool) (r : SlotRecord) → is_record mpeg1 slow r ≡ true → (r.part2_3_length < 4096) × (r.big_values ≤ 288)
unfolding is_record is_head
small-record mpeg1 slow r e =
    let head = both_of _ _ (both_of _ _ (both_of _ _ e).0).0 in
    let first = both_of _ _ (both_of _ _ head.0).0 in
    (ltb-true _ _ first.0, leb-true _ _ first.1)

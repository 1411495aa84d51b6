-- Under a header that bytes read to, bytes read to side information exactly when `is_side` says so, and these begin with a header that
-- reads to that one; the same of a single record.
-- One way, the bits are written down, the records one after the other, packed into bytes and set after the header's bytes; the other, each
-- part that is read passes its check.
use Rattle.std.specs.Prelude.{◌≡◌, refl, Bool, true, not, ◌&&◌, ◌↔◌, ℕ, zero, suc, ◌+◌, ◌-◌, ◌*◌, ◌^◌, ◌<◌, ◌≤◌, get_or, take, drop, eqb, Result, Ok, Err}
use Rattle.std.proofs.Math.Path.{sym, ap}
use Rattle.std.proofs.Common.{subst, ◌∙◌, add-zero, suc-mul, zero-mul, arith, length-take, length-drop, pow_pos, drop-drop}
use Rattle.std.proofs.Math.Bool.{false}
use mathlib.Core.List.{List, [], ◌∷◌, ◌++◌}
use Rattle.std.proofs.Math.Nat.{suc-sub-suc, sub-zero}
use borrow.Author.Tests.{eqb-true, ltb-true, not-true, lt-ltb, eq-eqb, le-ltb}
use Rattle.std.proofs.Math.ListN.{length, replicate, length-append}
use Rattle.std.proofs.lemmas.List.{length-replicate}
use Rattle.std.proofs.Math.Seq.{take_at, drop_at}
use Rattle.std.specs.Float.{nan}
use Rattle.standard.specs.Told.{pick}
use Rattle.standard.specs.ToldLaws.{picked, passed, never, no_refusal, told_is, both_of, both}
use Rattle.standard.specs.Bits.{bits, field}
use Rattle.standard.specs.BitsLaws.{length-bits, field_lt, bits-after}
use Rattle.standard.specs.Crc.{crc_fits}
use Rattle.standard.specs.Written.{Part, ◌in-bits◌, write, stands, length-write, Bytes, bytes-append, pack, length-pack, bytes-pack, bits-pack}
use Rattle.standard.specs.Header.{is_mpeg1, is_two, is_slow, header_of, is_header, header_size, side_bytes, granules, channel_count}
use Rattle.standard.proofs.HeaderBytes.{header_bytes, length-header, header-back, bytes-header, fitting, fits_after}
use Rattle.standard.specs.Record.{absent, record_of, record_width, is_record, is_unmixed, is_head, is_preflag, is_long_body, is_long, gain_below, below, trio}
use Rattle.standard.proofs.RecordBits.{no_gain_lem, no_gain_is, no_table_is, trio-is, trio-all, three, long-is, bits_of_record, length-record, record_back, record_known}
use Rattle.standard.specs.SideInfo.{begin_width, private_width, share_count, shares_at, slot_count, then_records, records_of, then_side, side_in, side_from, side_of, no_head, no_body, no_tail, is_absent, fit_slots, no_shares, are_shares, are_slots, is_side_by, is_record_under, is_side}
use Rattle.standard.specs.declared.FrameHeader.{FrameHeader}
use Rattle.standard.specs.declared.SlotRecord.{SlotRecord}
use Rattle.standard.specs.declared.SideInfo.{SideInfo}
use Rattle.standard.specs.declared.Refusal.{Refusal}

-- ---- an absent slot
absent-is : (r : SlotRecord) → is_absent r ≡ true → absent ≡ r
unfolding is_absent no_head no_body no_tail absent
absent-is r e =
    let p = both_of _ (no_tail r) e in
    let q = both_of (no_head r) (no_body r) p.0 in
    let u = both_of (eqb r.part2_3_length 0 && eqb r.big_values 0) _ q.0 in
    let u1 = both_of (eqb r.part2_3_length 0) _ u.0 in
    let u2 = both_of (eqb r.global_gain 0) _ u.1 in
    let v = both_of (is_long r.block_type && not r.mixed_block_flag && trio (gain_below 1) (gain_below 1) (gain_below 1) r.subblock_gain) _ q.1 in
    let v0 = both_of (is_long r.block_type && not r.mixed_block_flag) _ v.0 in
    let v1 = both_of (is_long r.block_type) _ v0.0 in
    let w = both_of (eqb r.region0_count 0 && eqb r.region1_count 0) _ p.1 in
    let w1 = both_of (eqb r.region0_count 0) _ w.0 in
    let w2 = both_of (not r.preflag && not r.scalefac_scale) _ w.1 in
    let w3 = both_of (not r.preflag) _ w2.0 in
    let g = trio-is (gain_below 1) (gain_below 1) (gain_below 1) nan r.subblock_gain v0.1 in
    let t = trio-is (below 1) (below 1) (below 1) 0 r.table_select v.1 in
    λ j.
    record {
      part2_3_length = sym (eqb-true r.part2_3_length 0 u1.0) j;
      big_values = sym (eqb-true r.big_values 0 u1.1) j;
      global_gain = sym (eqb-true r.global_gain 0 u2.0) j;
      scalefac_compress = sym (eqb-true r.scalefac_compress 0 u2.1) j;
      block_type = long-is r.block_type v1.0 j;
      mixed_block_flag = sym (not-true r.mixed_block_flag v1.1) j;
      subblock_gain = three (no_gain_is _ g.1) (no_gain_is _ g.2) (no_gain_is _ g.3) g.0 j;
      table_select = three (no_table_is _ t.1) (no_table_is _ t.2) (no_table_is _ t.3) t.0 j;
      region0_count = sym (eqb-true r.region0_count 0 w1.0) j;
      region1_count = sym (eqb-true r.region1_count 0 w1.1) j;
      preflag = sym (not-true r.preflag w3.0) j;
      scalefac_scale = sym (not-true r.scalefac_scale w3.1) j;
      count1table_select = sym (not-true r.count1table_select w2.1) j;
    }

absent-known : is_absent absent ≡ true
unfolding is_absent no_head no_body no_tail absent
absent-known =
    both (both refl
    (both (trio-all (gain_below 1) (gain_below 1) (gain_below 1) _ _ _ no_gain_lem no_gain_lem no_gain_lem) (trio-all (below 1) (below 1) (below 1) 0 0 0 refl refl refl)))
    refl

-- ---- the slots, written and read back
slots_bits : Bool → ℕ → List SlotRecord → List Bool
slots_bits mpeg1 zero rs = []
slots_bits mpeg1 (suc n) [] = []
slots_bits mpeg1 (suc n) (r ∷ rs) = bits_of_record mpeg1 r ++ slots_bits mpeg1 n rs

absents : (mpeg1 slow : Bool) (rs : List SlotRecord) → fit_slots mpeg1 slow 0 rs ≡ true → replicate (length rs) absent ≡ rs
unfolding fit_slots
absents mpeg1 slow [] e = refl
absents mpeg1 slow (r ∷ rs) e = let p = both_of (is_absent r) (fit_slots mpeg1 slow 0 rs) e in λ j. absent-is r p.0 j ∷ absents mpeg1 slow rs p.1 j

slots-whole : (mpeg1 slow : Bool) (n : ℕ) (rs : List SlotRecord) → fit_slots mpeg1 slow n rs ≡ true → take n rs ++ replicate (length rs - n) absent ≡ rs
unfolding fit_slots
slots-whole mpeg1 slow zero rs e = rw sub-zero (absents mpeg1 slow rs e)
slots-whole mpeg1 slow (suc n) [] e = never e
slots-whole mpeg1 slow (suc n) (r ∷ rs) e =
    rw suc-sub-suc (ap (λ (l : List SlotRecord). r ∷ l) (slots-whole mpeg1 slow n rs (both_of (is_record mpeg1 slow r) (fit_slots mpeg1 slow n rs) e).1))

length-slots : (mpeg1 slow : Bool) (n : ℕ) (rs : List SlotRecord) → fit_slots mpeg1 slow n rs ≡ true → length (slots_bits mpeg1 n rs) ≡ n * record_width mpeg1
unfolding fit_slots slots_bits
length-slots mpeg1 slow zero rs e = sym (zero-mul (record_width mpeg1))
length-slots mpeg1 slow (suc n) [] e = never e
length-slots mpeg1 slow (suc n) (r ∷ rs) e =
    simp (length-append, length-record, suc-mul) (omega (arith, length-slots mpeg1 slow n rs (both_of (is_record mpeg1 slow r) (fit_slots mpeg1 slow n rs) e).1))

slots-back : (mpeg1 slow : Bool) (n : ℕ) (rs : List SlotRecord) → fit_slots mpeg1 slow n rs ≡ true
    → records_of mpeg1 slow n (slots_bits mpeg1 n rs) ≡ Ok (take n rs)
unfolding fit_slots slots_bits records_of then_records
slots-back mpeg1 slow zero rs e = refl
slots-back mpeg1 slow (suc n) [] e = never e
slots-back mpeg1 slow (suc n) (r ∷ rs) e =
    let p = both_of (is_record mpeg1 slow r) (fit_slots mpeg1 slow n rs) e in
    λ j.
    then_records
    ((ap (record_of mpeg1 slow) (take_at (bits_of_record mpeg1 r) (slots_bits mpeg1 n rs) (record_width mpeg1) (length-record mpeg1 r))
    ∙ record_back mpeg1 slow r p.0) j)
    ((ap (records_of mpeg1 slow n) (drop_at (bits_of_record mpeg1 r) (slots_bits mpeg1 n rs) (record_width mpeg1) (length-record mpeg1 r))
    ∙ slots-back mpeg1 slow n rs p.1) j)

-- ---- the sharing bits
falses : (l : List Bool) → no_shares 0 l ≡ true → replicate (length l) false ≡ l
unfolding no_shares
falses [] e = refl
falses (x ∷ l) e = let p = both_of (not x) (no_shares 0 l) e in λ j. sym (not-true x p.0) j ∷ falses l p.1 j

shares_whole : (n : ℕ) (l : List Bool) → n ≤ length l → no_shares n l ≡ true → take n l ++ replicate (length l - n) false ≡ l
unfolding no_shares
shares_whole zero l h e = rw sub-zero (falses l e)
shares_whole (suc n) [] h e = absurd (omega arith)
shares_whole (suc n) (x ∷ l) h e = rw suc-sub-suc (ap (λ (k : List Bool). x ∷ k) (shares_whole n l (omega arith) e))

falses_known : (k : ℕ) → no_shares 0 (replicate k false) ≡ true
unfolding no_shares
falses_known zero = refl
falses_known (suc k) = falses_known k

shares_known : (l : List Bool) (k : ℕ) → no_shares (length l) (l ++ replicate k false) ≡ true
unfolding no_shares
shares_known [] k = falses_known k
shares_known (x ∷ l) k = shares_known l k

-- ---- the numbers of each layout
pub record Layout (mpeg1 two : Bool) : Type 0 where
  pub shares : share_count mpeg1 two ≤ 8
  pub slots : slot_count mpeg1 two ≤ 4
  pub some : 0 < slot_count mpeg1 two
  -- every bit of the bytes is used
  pub whole : shares_at mpeg1 two + (share_count mpeg1 two + slot_count mpeg1 two * record_width mpeg1) ≡ 8 * side_bytes mpeg1 two

pub layout : (mpeg1 two : Bool) → Layout mpeg1 two
layout true true = record { shares = omega arith; slots = omega arith; some = omega arith; whole = refl }
layout true false = record { shares = omega arith; slots = omega arith; some = omega arith; whole = refl }
layout false true = record { shares = omega arith; slots = omega arith; some = omega arith; whole = refl }
layout false false = record { shares = omega arith; slots = omega arith; some = omega arith; whole = refl }

-- the sharing bits among those of side information
abbrev shares_in : Bool → Bool → List Bool → List Bool
shares_in mpeg1 two b = take (share_count mpeg1 two) (drop (shares_at mpeg1 two) b)

-- ---- side information, written and read back
module _ (mpeg1 two : Bool) (i : SideInfo) where
  abbrev side_parts : List Part
  side_parts = (i.main_data_begin in-bits begin_width mpeg1) ∷ (0 in-bits private_width mpeg1 two) ∷ []

  side_rest : List Bool
  side_rest = take (share_count mpeg1 two) i.scfsi ++ slots_bits mpeg1 (slot_count mpeg1 two) i.slots

  side_bits : List Bool
  side_bits = write side_parts ++ side_rest

  module _ (slow : Bool) (known : is_side_by mpeg1 two slow i ≡ true) where
    side_is : (i.main_data_begin < 2 ^ begin_width mpeg1) × (length i.scfsi ≡ 8) × (no_shares (share_count mpeg1 two) i.scfsi ≡ true)
        × (length i.slots ≡ 4) × (fit_slots mpeg1 slow (slot_count mpeg1 two) i.slots ≡ true)
    unfolding is_side_by are_shares are_slots
    side_is =
        let p = both_of _ (are_slots mpeg1 slow (slot_count mpeg1 two) i.slots) known in
        let q = both_of _ (are_shares (share_count mpeg1 two) i.scfsi) p.0 in
        let u = both_of (eqb (length i.scfsi) 8) _ q.1 in
        let v = both_of (eqb (length i.slots) 4) _ p.1 in
        (ltb-true _ _ q.0, eqb-true _ _ u.0, u.1, eqb-true _ _ v.0, v.1)

    begin_back : field side_bits 0 (begin_width mpeg1) ≡ i.main_data_begin
    unfolding side_bits
    begin_back = (stands side_parts side_rest (side_is.0, (pow_pos (private_width mpeg1 two), tt))).0

    parts_length : length (write side_parts) ≡ shares_at mpeg1 two
    parts_length = length-write side_parts ∙ ap (λ (n : ℕ). begin_width mpeg1 + n) (add-zero (private_width mpeg1 two))

    rest_at : drop (shares_at mpeg1 two) side_bits ≡ side_rest
    unfolding side_bits
    rest_at = drop_at (write side_parts) side_rest (shares_at mpeg1 two) parts_length

    shares_length : length (take (share_count mpeg1 two) i.scfsi) ≡ share_count mpeg1 two
    shares_length = simp length-take (omega (arith, side_is.1, (layout mpeg1 two).shares))

    shares_at_lem : shares_in mpeg1 two side_bits ≡ take (share_count mpeg1 two) i.scfsi
    unfolding side_rest
    shares_at_lem =
        ap (take (share_count mpeg1 two)) rest_at
        ∙ take_at (take (share_count mpeg1 two) i.scfsi) (slots_bits mpeg1 (slot_count mpeg1 two) i.slots) (share_count mpeg1 two) shares_length

    slots_at : drop (shares_at mpeg1 two + share_count mpeg1 two) side_bits ≡ slots_bits mpeg1 (slot_count mpeg1 two) i.slots
    unfolding side_rest
    slots_at =
        sym (drop-drop (share_count mpeg1 two) (shares_at mpeg1 two) side_bits) ∙ ap (drop (share_count mpeg1 two)) rest_at
        ∙ drop_at (take (share_count mpeg1 two) i.scfsi) (slots_bits mpeg1 (slot_count mpeg1 two) i.slots) (share_count mpeg1 two) shares_length

    side_length : length side_bits ≡ 8 * side_bytes mpeg1 two
    unfolding side_bits side_rest
    side_length =
        length-append (write side_parts) side_rest
        ∙ (λ j. parts_length j +
        (length-append (take (share_count mpeg1 two) i.scfsi) (slots_bits mpeg1 (slot_count mpeg1 two) i.slots)
        ∙ (λ k. shares_length k + length-slots mpeg1 slow (slot_count mpeg1 two) i.slots side_is.4 k)) j)
        ∙ (layout mpeg1 two).whole

    side_back : side_in mpeg1 two slow side_bits ≡ Ok i
    unfolding side_in then_side
    side_back =
        ap (λ (l : List Bool). then_side mpeg1 two side_bits (records_of mpeg1 slow (slot_count mpeg1 two) l)) slots_at
        ∙ ap (then_side mpeg1 two side_bits) (slots-back mpeg1 slow (slot_count mpeg1 two) i.slots side_is.4)
        ∙ (λ j. Ok (record { main_data_begin = begin_back j; scfsi = shares_all j; slots = slots-all j }))
      where
        shares_all : shares_in mpeg1 two side_bits ++ replicate (8 - share_count mpeg1 two) false ≡ i.scfsi
        shares_all =
            (λ j. shares_at_lem j ++ replicate (sym side_is.1 j - share_count mpeg1 two) false)
            ∙ shares_whole (share_count mpeg1 two) i.scfsi (omega (arith, side_is.1, (layout mpeg1 two).shares)) side_is.2

        slots-all : take (slot_count mpeg1 two) i.slots ++ replicate (4 - slot_count mpeg1 two) absent ≡ i.slots
        slots-all =
            ap (λ (n : ℕ). take (slot_count mpeg1 two) i.slots ++ replicate (n - slot_count mpeg1 two) absent) (sym side_is.3)
            ∙ slots-whole mpeg1 slow (slot_count mpeg1 two) i.slots side_is.4

    -- after a header of any length, whose CRC fits if it has one
    side_after : (crc : Bool) (front : List ℕ)
        → crc && not (crc_fits (front ++ pack (side_bytes mpeg1 two) side_bits) (length front + side_bytes mpeg1 two)) ≡ false
        → side_from crc mpeg1 two slow (length front) (front ++ pack (side_bytes mpeg1 two) side_bits) ≡ Ok i
    unfolding side_from
    side_after crc front fits =
        let n = side_bytes mpeg1 two in
        let s = pack n side_bits in
        passed _ (le-ltb (length (front ++ s)) (length front + n) (simp (length-append, length-pack) (omega arith))) ∙ passed _ fits
        ∙ ap (side_in mpeg1 two slow)
        (ap (λ (at : ℕ). bits (front ++ s) at (8 * n)) (sym (add-zero (8 * length front))) ∙ bits-after front s (8 * n) 0 ∙ bits-pack n side_bits side_length)
        ∙ side_back

-- ---- what is read passes the check
absents_known : (mpeg1 slow : Bool) (k : ℕ) → fit_slots mpeg1 slow 0 (replicate k absent) ≡ true
unfolding fit_slots
absents_known mpeg1 slow zero = refl
absents_known mpeg1 slow (suc k) = both absent-known (absents_known mpeg1 slow k)

told_records : (x : Result SlotRecord Refusal) (y : Result (List SlotRecord) Refusal) (rs : List SlotRecord) → then_records x y ≡ Ok rs → (r : SlotRecord)
    × (l : List SlotRecord) × (x ≡ Ok r) × (y ≡ Ok l) × (r ∷ l ≡ rs)
unfolding then_records
told_records (Err k) y rs e = let z : ◌≡◌ {A = ℕ} 0 1 = cc in let w : ⊥ = omega arith in absurd w
told_records (Ok r) (Err k) rs e = let z : ◌≡◌ {A = ℕ} 0 1 = cc in let w : ⊥ = omega arith in absurd w
told_records (Ok r) (Ok l) rs e = (r, l, refl, refl, told_is e)

records-known : (mpeg1 slow : Bool) (n : ℕ) (b : List Bool) (rs : List SlotRecord) (k : ℕ) → records_of mpeg1 slow n b ≡ Ok rs
    → (fit_slots mpeg1 slow n (rs ++ replicate k absent) ≡ true) × (length rs ≡ n)
unfolding records_of fit_slots
records-known mpeg1 slow zero b rs k e =
    subst (λ (l : List SlotRecord). (fit_slots mpeg1 slow 0 (l ++ replicate k absent) ≡ true) × (length l ≡ 0)) (told_is e) (absents_known mpeg1 slow k, refl)
records-known mpeg1 slow (suc n) b rs k e =
    let w = told_records (record_of mpeg1 slow (take (record_width mpeg1) b)) (records_of mpeg1 slow n (drop (record_width mpeg1) b)) rs e in
    let h = records-known mpeg1 slow n (drop (record_width mpeg1) b) w.1 k w.3 in
    subst (λ (l : List SlotRecord). (fit_slots mpeg1 slow (suc n) (l ++ replicate k absent) ≡ true) × (length l ≡ suc n)) w.4
    (both (record_known mpeg1 slow (take (record_width mpeg1) b) w.0 w.2) h.0, ap suc h.1)

told_side : (mpeg1 two : Bool) (b : List Bool) (y : Result (List SlotRecord) Refusal) (i : SideInfo) → then_side mpeg1 two b y ≡ Ok i → (rs : List SlotRecord)
    × (y ≡ Ok rs) × (then_side mpeg1 two b (Ok rs) ≡ Ok i)
unfolding then_side
told_side mpeg1 two b (Err k) i e = let z : ◌≡◌ {A = ℕ} 0 1 = cc in let w : ⊥ = omega arith in absurd w
told_side mpeg1 two b (Ok rs) i e = (rs, refl, e)

in_known : (mpeg1 two slow : Bool) (b : List Bool) (i : SideInfo) → length b ≡ 8 * side_bytes mpeg1 two → side_in mpeg1 two slow b ≡ Ok i
    → is_side_by mpeg1 two slow i ≡ true
unfolding side_in then_side is_side_by are_shares are_slots
in_known mpeg1 two slow b i l e =
    let w = told_side mpeg1 two b (records_of mpeg1 slow (slot_count mpeg1 two) (drop (shares_at mpeg1 two + share_count mpeg1 two) b)) i e in
    let h = records-known mpeg1 slow (slot_count mpeg1 two) (drop (shares_at mpeg1 two + share_count mpeg1 two) b) w.0 (4 - slot_count mpeg1 two) w.1 in
    subst (λ (x : SideInfo). is_side_by mpeg1 two slow x ≡ true) (told_is w.2)
    (both (both (lt-ltb _ _ (field_lt b 0 (begin_width mpeg1)))
    (both (eq-eqb _ _ shares_eight)
    (subst (λ (n : ℕ). no_shares n (shares_in mpeg1 two b ++ replicate (8 - share_count mpeg1 two) false) ≡ true) shares_long
    (shares_known (shares_in mpeg1 two b) (8 - share_count mpeg1 two)))))
    (both (eq-eqb _ _ (slots-four w.0 h.1)) h.0))
  where
    shares_long : length (shares_in mpeg1 two b) ≡ share_count mpeg1 two
    shares_long = simp (length-take, length-drop) (omega (arith, l, (layout mpeg1 two).whole))

    shares_eight : length (shares_in mpeg1 two b ++ replicate (8 - share_count mpeg1 two) false) ≡ 8
    shares_eight =
        length-append (shares_in mpeg1 two b) (replicate (8 - share_count mpeg1 two) false)
        ∙ simp (shares_long, length-replicate) (omega (arith, (layout mpeg1 two).shares))

    slots-four : (rs : List SlotRecord) → length rs ≡ slot_count mpeg1 two → length (rs ++ replicate (4 - slot_count mpeg1 two) absent) ≡ 4
    slots-four rs h = length-append rs (replicate (4 - slot_count mpeg1 two) absent) ∙ simp (h, length-replicate) (omega (arith, (layout mpeg1 two).slots))

from_known : (crc mpeg1 two slow : Bool) (from : ℕ) (s : List ℕ) (i : SideInfo) → side_from crc mpeg1 two slow from s ≡ Ok i
    → is_side_by mpeg1 two slow i ≡ true
unfolding side_from
from_known crc mpeg1 two slow from s i e =
    in_known mpeg1 two slow (bits s (8 * from) (8 * side_bytes mpeg1 two)) i (length-bits s (8 * from) (8 * side_bytes mpeg1 two))
    (no_refusal _ _ _ i (no_refusal _ _ _ i e).1).1

-- ---- the beginning of a frame: the bytes of a header, and then of side information
abbrev bits_under : FrameHeader → SideInfo → List Bool
bits_under h i = side_bits (is_mpeg1 h.version) (is_two h.channels) i

beginning : FrameHeader → SideInfo → List ℕ
beginning h i = header_bytes h (fitting h (bits_under h i)) ++ pack (side_bytes (is_mpeg1 h.version) (is_two h.channels)) (bits_under h i)

beginning_bytes : (h : FrameHeader) (i : SideInfo) → is_header h ≡ true → Bytes (beginning h i)
unfolding beginning
beginning_bytes h i known = bytes-append (header_bytes h (fitting h (bits_under h i))) _ (bytes-header h known _) (bytes-pack _ _)

beginning_header : (h : FrameHeader) (i : SideInfo) → is_header h ≡ true → header_of (beginning h i) ≡ Ok h
unfolding beginning
beginning_header h i known = header-back h known _ _

beginning_side : (h : FrameHeader) (i : SideInfo) → is_header h ≡ true → is_side h i ≡ true → side_of h (beginning h i) ≡ Ok i
unfolding beginning side_of is_side
beginning_side h i known e =
    let m = is_mpeg1 h.version in
    let t = is_two h.channels in
    let w = is_slow h.rate in
    let front = header_bytes h (fitting h (side_bits m t i)) in
    let long : header_size h ≡ length front = sym (length-header h (fitting h (side_bits m t i))) in
    let s = front ++ pack (side_bytes m t) (side_bits m t i) in
    picked _ known ∙ ap (λ (from : ℕ). side_from h.crc m t w from s) long
    ∙ side_after m t i w e h.crc front
    (ap (λ (from : ℕ). h.crc && not (crc_fits s (from + side_bytes m t))) (sym long) ∙ fits_after h (side_bytes m t) (side_bits m t i) (side_length m t i w e))

pub side_known : (h : FrameHeader) (i : SideInfo) (s : List ℕ) → is_header h ≡ true → side_of h s ≡ Ok i → is_side h i ≡ true
unfolding side_of is_side
side_known h i s known e = from_known h.crc (is_mpeg1 h.version) (is_two h.channels) (is_slow h.rate) (header_size h) s i (sym (picked _ known) ∙ e)

-- THE STATEMENT: under a header that bytes read to, side information is accepted exactly when some bytes read to that header and to it
pub side_read : (h : FrameHeader) (i : SideInfo) → is_header h ≡ true
    → (is_side h i ≡ true) ↔ ((s : List ℕ) × Bytes s × (header_of s ≡ Ok h) × (side_of h s ≡ Ok i))
side_read h i known = (
  λ e. (beginning h i, beginning_bytes h i known, beginning_header h i known, beginning_side h i known e),
  λ w. side_known h i w.0 known w.3,
)

-- ---- a slot's record by itself
pub fit_at : (mpeg1 slow : Bool) (n : ℕ) (rs : List SlotRecord) (k : ℕ) → fit_slots mpeg1 slow n rs ≡ true → k < n
    → is_record mpeg1 slow (get_or rs k absent) ≡ true
unfolding fit_slots
fit_at mpeg1 slow zero rs k e h = absurd (omega arith)
fit_at mpeg1 slow (suc n) [] k e h = never e
fit_at mpeg1 slow (suc n) (r ∷ rs) zero e h = (both_of (is_record mpeg1 slow r) (fit_slots mpeg1 slow n rs) e).0
fit_at mpeg1 slow (suc n) (r ∷ rs) (suc k) e h = fit_at mpeg1 slow n rs k (both_of (is_record mpeg1 slow r) (fit_slots mpeg1 slow n rs) e).1 (omega arith)

-- 0 throughout is a record too
absent-record : (mpeg1 slow : Bool) → is_record mpeg1 slow absent ≡ true
unfolding is_record is_head is_preflag is_long_body absent pick
absent-record mpeg1 slow =
    both (both {a = is_head mpeg1 absent} (head mpeg1) (unmixed slow))
    (both (both (both (trio-all (below 32) (below 32) (below 32) 0 0 0 refl refl refl)
    (trio-all (gain_below 1) (gain_below 1) (gain_below 1) _ _ _ no_gain_lem no_gain_lem no_gain_lem)) refl) refl)
  where
    unmixed : (x : Bool) → is_unmixed x absent ≡ true
    unmixed true = refl
    unmixed false = refl

    head : (m : Bool) → is_head m absent ≡ true
    head true = refl
    head false = refl

-- side information with r in its first slot
abbrev with_record : SlotRecord → SideInfo
with_record r = record { main_data_begin = 0; scfsi = replicate 8 false; slots = r ∷ absent ∷ absent ∷ absent ∷ [] }

with-known : (mpeg1 two slow : Bool) (r : SlotRecord) → is_record mpeg1 slow r ≡ true → is_side_by mpeg1 two slow (with_record r) ≡ true
unfolding is_side_by are_shares are_slots no_shares fit_slots
with-known true true slow r e = both e (both (absent-record true slow) (both (absent-record true slow) (both (absent-record true slow) refl)))
with-known true false slow r e = both e (both (absent-record true slow) (both absent-known (both absent-known refl)))
with-known false true slow r e = both e (both (absent-record false slow) (both absent-known (both absent-known refl)))
with-known false false slow r e = both e (both absent-known (both absent-known (both absent-known refl)))

-- THE STATEMENT: under a header that bytes read to, a record is accepted exactly when some bytes read to that header and to side
-- information that has it in a slot of the frame
pub slot_read : (h : FrameHeader) (r : SlotRecord) → is_header h ≡ true
    → (is_record_under h r ≡ true)
    ↔ ((s : List ℕ) × (i : SideInfo) × (n : ℕ) × Bytes s × (n < granules h * channel_count h) × (header_of s ≡ Ok h) × (side_of h s ≡ Ok i)
    × (get_or i.slots n absent ≡ r))
unfolding is_side granules channel_count
slot_read h r known =
    let m = is_mpeg1 h.version in
    let t = is_two h.channels in
    let k = is_slow h.rate in (
      λ e. let w = (side_read h (with_record r) known).0 (with-known m t k r e) in (w.0, with_record r, 0, w.1, (layout m t).some, w.2, w.3, refl),
      λ w. subst (λ (x : SlotRecord). is_record m k x ≡ true) w.7
          (fit_at m k (slot_count m t) w.1.slots w.2 (side_is m t w.1 k (side_known h w.1 w.0 known w.6)).4 w.4),
    )

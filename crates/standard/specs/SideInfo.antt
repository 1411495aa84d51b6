-- A frame's side information (11172-3, 2.4.1.7; 13818-3, 2.4.1.7), from the frame's bytes, and which side information bytes read to
-- under a header. `mpeg1` says whether the version is MPEG-1, `two` whether there are two channels, `slow` whether the rate is 8 kHz.
use Rattle.std.specs.Prelude.{Bool, true, false, not, ◌&&◌, List, [], ◌∷◌, ◌++◌, ℕ, zero, suc, ◌+◌, ◌-◌, ◌*◌, ◌^◌, ltb, eqb, length, take, drop, replicate, Result, Ok, Err}
use Rattle.standard.specs.Told.{pick}
use Rattle.standard.specs.Bits.{bits, field}
use Rattle.standard.specs.Crc.{crc_fits}
use Rattle.standard.specs.Header.{is_mpeg1, is_two, is_slow, is_header, header_size, side_bytes, granules_in, channels_in}
use Rattle.standard.specs.Record.{absent, record_of, record_width, is_record, is_long, gain_below, below, trio}
use Rattle.standard.specs.declared.FrameHeader.{FrameHeader}
use Rattle.standard.specs.declared.SlotRecord.{SlotRecord}
use Rattle.standard.specs.declared.SideInfo.{SideInfo}
use Rattle.standard.specs.declared.Refusal.TheVariants.{MadeUpRecord, AbsentBytes, WrongCrc}
use Rattle.standard.specs.declared.Refusal.{Refusal}

-- ---- the layout
-- main_data_begin
abbrev pub begin_width : Bool → ℕ
begin_width true = 9
begin_width false = 8

-- private_bits, which are skipped
abbrev pub private_width : Bool → Bool → ℕ
private_width true true = 3
private_width true false = 5
private_width false true = 2
private_width false false = 1

-- scfsi: four bits for each channel, in MPEG-1 only
abbrev pub share_count : Bool → Bool → ℕ
share_count true true = 8
share_count true false = 4
share_count false true = 0
share_count false false = 0

abbrev pub shares_at : Bool → Bool → ℕ
shares_at mpeg1 two = begin_width mpeg1 + private_width mpeg1 two

abbrev pub slot_count : Bool → Bool → ℕ
slot_count mpeg1 two = granules_in mpeg1 * channels_in two

-- ---- the slots' records in turn: the first that is refused decides
unfoldable pub then_records : Result SlotRecord Refusal → Result (List SlotRecord) Refusal → Result (List SlotRecord) Refusal
then_records (Err k) y = Err k
then_records (Ok r) (Err k) = Err k
then_records (Ok r) (Ok rs) = Ok (r ∷ rs)

unfoldable pub records_of : Bool → Bool → ℕ → List Bool → Result (List SlotRecord) Refusal
records_of mpeg1 slow zero b = Ok []
records_of mpeg1 slow (suc n) b =
    then_records (record_of mpeg1 slow (take (record_width mpeg1) b)) (records_of mpeg1 slow n (drop (record_width mpeg1) b))

unfoldable pub then_side : Bool → Bool → List Bool → Result (List SlotRecord) Refusal → Result SideInfo Refusal
then_side mpeg1 two b (Err k) = Err k
then_side mpeg1 two b (Ok rs) =
    Ok
    (record {
      main_data_begin = field b 0 (begin_width mpeg1);
      scfsi = take (share_count mpeg1 two) (drop (shares_at mpeg1 two) b) ++ replicate (8 - share_count mpeg1 two) false;
      slots = rs ++ replicate (4 - slot_count mpeg1 two) absent;
    })

-- from exactly the bits of the side information
unfoldable pub side_in : Bool → Bool → Bool → List Bool → Result SideInfo Refusal
side_in mpeg1 two slow b =
    then_side mpeg1 two b (records_of mpeg1 slow (slot_count mpeg1 two) (drop (shares_at mpeg1 two + share_count mpeg1 two) b))

-- of the bytes from a place on, n bytes being there, the first that is absent
unfoldable pub absent_from : ℕ → ℕ → ℕ
absent_from from n = pick (ltb n from) from n

-- the first byte that is needed: of the header's none, or the two that its CRC covers and itself
abbrev pub needed_from : Bool → ℕ → ℕ
needed_from true from = 2
needed_from false from = from

-- from the frame's bytes, of which the header takes the first `from`; `crc` says whether it has a CRC
unfoldable pub side_from : Bool → Bool → Bool → Bool → ℕ → List ℕ → Result SideInfo Refusal
side_from crc mpeg1 two slow from s =
    pick (ltb (length s) (from + side_bytes mpeg1 two)) (Err (AbsentBytes (absent_from (needed_from crc from) (length s))))
    (pick (crc && not (crc_fits s (from + side_bytes mpeg1 two))) (Err WrongCrc)
    (side_in mpeg1 two slow (bits s (8 * from) (8 * side_bytes mpeg1 two))))

-- under a header, whatever it has
abbrev pub side_under : FrameHeader → List ℕ → Result SideInfo Refusal
side_under h s = side_from h.crc (is_mpeg1 h.version) (is_two h.channels) (is_slow h.rate) (header_size h) s

-- and under one that bytes read to
unfoldable pub side_of : FrameHeader → List ℕ → Result SideInfo Refusal
side_of h s = pick (is_header h) (side_under h s) (Err MadeUpRecord)

-- what stands for side information where none is told
unfoldable pub no_side : SideInfo
no_side = record { main_data_begin = 0; scfsi = replicate 8 false; slots = replicate 4 absent }

-- ---- which side information bytes read to
unfoldable pub no_head : SlotRecord → Bool
no_head r = eqb r.part2_3_length 0 && eqb r.big_values 0 && (eqb r.global_gain 0 && eqb r.scalefac_compress 0)

unfoldable pub no_body : SlotRecord → Bool
no_body r =
    is_long r.block_type && not r.mixed_block_flag && trio (gain_below 1) (gain_below 1) (gain_below 1) r.subblock_gain
    && trio (below 1) (below 1) (below 1) r.table_select

unfoldable pub no_tail : SlotRecord → Bool
no_tail r = (eqb r.region0_count 0 && eqb r.region1_count 0) && (not r.preflag && not r.scalefac_scale && not r.count1table_select)

-- the record of a slot that the frame lacks is 0 throughout
unfoldable pub is_absent : SlotRecord → Bool
is_absent r = no_head r && no_body r && no_tail r

-- n records, and then lacking slots
unfoldable pub fit_slots : Bool → Bool → ℕ → List SlotRecord → Bool
fit_slots mpeg1 slow zero [] = true
fit_slots mpeg1 slow zero (r ∷ rs) = is_absent r && fit_slots mpeg1 slow zero rs
fit_slots mpeg1 slow (suc n) [] = false
fit_slots mpeg1 slow (suc n) (r ∷ rs) = is_record mpeg1 slow r && fit_slots mpeg1 slow n rs

-- none from the n-th on is set
unfoldable pub no_shares : ℕ → List Bool → Bool
no_shares n [] = true
no_shares zero (x ∷ l) = not x && no_shares zero l
no_shares (suc n) (x ∷ l) = no_shares n l

unfoldable pub are_shares : ℕ → List Bool → Bool
are_shares n l = eqb (length l) 8 && no_shares n l

unfoldable pub are_slots : Bool → Bool → ℕ → List SlotRecord → Bool
are_slots mpeg1 slow n l = eqb (length l) 4 && fit_slots mpeg1 slow n l

unfoldable pub is_side_by : Bool → Bool → Bool → SideInfo → Bool
is_side_by mpeg1 two slow i =
    ltb i.main_data_begin (2 ^ begin_width mpeg1) && are_shares (share_count mpeg1 two) i.scfsi && are_slots mpeg1 slow (slot_count mpeg1 two) i.slots

-- under a header
abbrev pub is_record_under : FrameHeader → SlotRecord → Bool
is_record_under h r = is_record (is_mpeg1 h.version) (is_slow h.rate) r

unfoldable pub is_side : FrameHeader → SideInfo → Bool
is_side h i = is_side_by (is_mpeg1 h.version) (is_two h.channels) (is_slow h.rate) i

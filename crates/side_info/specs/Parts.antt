-- A slot's record in the parts that are read one by one: what every record has, and the 23 bits of its window, from the flag on.
use Rattle.std.specs.Prelude.{◌≡◌, Bool, List, ◌++◌, ℕ, ◌+◌, ◌-◌, ◌*◌, replicate, Result, Ok, Err}
use Rattle.standard.specs.Bits.{bits, field, field_at, flag}
use Rattle.standard.specs.Header.{is_mpeg1, is_two, is_slow, header_size, side_bytes}
use Rattle.standard.specs.Record.{absent, compress_width, record_width, preflag_of, scale_at, count1_at}
use Rattle.standard.specs.SideInfo.{side_in}
use Rattle.standard.specs.declared.FrameHeader.{FrameHeader}
use Rattle.standard.specs.declared.SlotRecord.{SlotRecord}
use Rattle.standard.specs.declared.SideInfo.{SideInfo}
use Rattle.side_info.specs.declared.record.Common.{Common}
use Rattle.standard.specs.declared.Refusal.{Refusal}

unfoldable pub common_of : Bool → List Bool → Common
common_of mpeg1 b =
    record {
      part2_3_length = field b 0 12;
      big_values = field b 12 9;
      global_gain = field b 21 8;
      scalefac_compress = field b 29 (compress_width mpeg1);
      preflag = preflag_of mpeg1 b;
      scalefac_scale = flag b (scale_at mpeg1);
      count1table_select = flag b (count1_at mpeg1);
    }

-- the bits of a record, from a place of the bytes s on
abbrev pub record_bits : Bool → List ℕ → ℕ → List Bool
record_bits mpeg1 s at = bits s at (record_width mpeg1)

-- the parts of the record at a place
pub record PartsAt (mpeg1 : Bool) (s : List ℕ) (at : ℕ) (k : Common) (w : ℕ) : Type 0 where
  pub common : k ≡ common_of mpeg1 (record_bits mpeg1 s at)
  pub window : w ≡ field_at s (at + 29 + compress_width mpeg1) 23

-- the records of n slots among four, the rest lacking
abbrev pub filled : ℕ → Result (List SlotRecord) Refusal → Result (List SlotRecord) Refusal
filled n (Err k) = Err k
filled n (Ok rs) = Ok (rs ++ replicate (4 - n) absent)

-- what the bits after a header spell
abbrev pub side_after : FrameHeader → List ℕ → Result SideInfo Refusal
side_after h s =
    side_in (is_mpeg1 h.version) (is_two h.channels) (is_slow h.rate)
    (bits s (8 * header_size h) (8 * side_bytes (is_mpeg1 h.version) (is_two h.channels)))

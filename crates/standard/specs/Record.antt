-- A slot's record (11172-3, 2.4.1.7 and 2.4.2.7; 13818-3, 2.4.1.7), from its own bits, and which records bits read to.
-- `mpeg1` says whether the version is MPEG-1, `slow` whether the rate is 8 kHz.
use Rattle.std.specs.Prelude.{Bool, true, false, not, ◌&&◌, List, [], ◌∷◌, ℕ, ◌+◌, ◌*◌, ◌^◌, ltb, leb, eqb, pos, Float, get_or, Result, Ok, Err}
use Rattle.std.specs.Bool.{beq}
use Rattle.std.specs.Float.{binary32}
use Rattle.std.specs.Float.Ieee.{of_int}
use Rattle.standard.specs.Sizes.{most_big_values}
use Rattle.standard.specs.Told.{pick}
use Rattle.standard.specs.Rows.{place}
use Rattle.standard.specs.Same.{same_float}
use Rattle.standard.specs.Bits.{field, flag}
use Rattle.standard.specs.declared.BlockType.{BlockType}
use Rattle.standard.specs.declared.BlockType.TheVariants.{Long, Start, Short, End}
use Rattle.standard.specs.declared.SlotRecord.{SlotRecord}
use Rattle.standard.specs.declared.Shape.{Shape}
use Rattle.standard.specs.declared.Shape.TheVariants.{AllLong, AllShort, LongThenShort}
use Rattle.standard.specs.declared.Refusal.TheVariants.{TooManyPairs, ForbiddenBlock, MixedBlock}
use Rattle.standard.specs.declared.Refusal.{Refusal}

-- ---- what the parts of a record are
-- a gain of 3 bits is kept as the single-precision float of its number
abbrev pub gain_of : ℕ → Float
gain_of n = of_int binary32 (pos n)

-- scalefac_compress has 4 bits, or 9
abbrev pub compress_width : Bool → ℕ
compress_width true = 4
compress_width false = 9

abbrev pub record_width : Bool → ℕ
record_width true = 59
record_width false = 63

unfoldable pub block_of : ℕ → BlockType
block_of t = get_or (Long ∷ Start ∷ Short ∷ End ∷ []) t Long

abbrev pub is_long : BlockType → Bool
is_long Long = true
is_long Start = false
is_long Short = false
is_long End = false

-- which bands a slot is of, by its block_type and mixed_block_flag. Every rule that differs for short blocks is a clause for each shape
abbrev pub shape_by : BlockType → Bool → Shape
shape_by Long mixed = AllLong
shape_by Start mixed = AllLong
shape_by Short false = AllShort
shape_by Short true = LongThenShort
shape_by End mixed = AllLong

abbrev pub shape_of : SlotRecord → Shape
shape_of r = shape_by r.block_type r.mixed_block_flag

abbrev pub is_mixed : Shape → Bool
is_mixed AllLong = false
is_mixed AllShort = false
is_mixed LongThenShort = true

-- the region counts that a switched block is given
abbrev pub region0_of : Shape → ℕ
region0_of AllLong = 7
region0_of AllShort = 8
region0_of LongThenShort = 7

abbrev pub region1_of : Shape → ℕ
region1_of AllLong = 13
region1_of AllShort = 12
region1_of LongThenShort = 13

-- ---- the fields in order, each where the one before it ends (11172-3, 2.4.1.7):
--   part2_3_length 12 bits, big_values 9, global_gain 8, scalefac_compress c, window_switching_flag 1,
--   switched: block_type 2, mixed_block_flag 1, table_select twice 5, subblock_gain three times 3,
--   not switched: table_select three times 5, region0_count 4, region1_count 3,
--   then preflag 1 (in MPEG-1), scalefac_scale 1, count1table_select 1.
-- From the flag on, a place is told without the c bits of scalefac_compress, which are added to it
abbrev big_values_at : ℕ
big_values_at = 12

abbrev global_gain_at : ℕ
global_gain_at = big_values_at + 9

abbrev compress_at : ℕ
compress_at = global_gain_at + 8

abbrev switching_at : ℕ
switching_at = compress_at

abbrev type_at : ℕ
type_at = switching_at + 1

abbrev mixed_at : ℕ
mixed_at = type_at + 2

abbrev switched_tables_at : ℕ
switched_tables_at = mixed_at + 1

abbrev gains_at : ℕ
gains_at = switched_tables_at + 2 * 5

abbrev tables_at : ℕ
tables_at = switching_at + 1

abbrev region0_at : ℕ
region0_at = tables_at + 3 * 5

abbrev region1_at : ℕ
region1_at = region0_at + 4

abbrev after_window : ℕ
after_window = region1_at + 3

-- preflag is read in MPEG-1 only, where c is 4; else it goes by scalefac_compress, of 9 bits
unfoldable pub preflag_of : Bool → List Bool → Bool
preflag_of true b = flag b (after_window + 4)
preflag_of false b = leb 500 (field b compress_at 9)

abbrev pub scale_at : Bool → ℕ
scale_at true = after_window + 4 + 1
scale_at false = after_window + 9

abbrev pub count1_at : Bool → ℕ
count1_at true = scale_at true + 1
count1_at false = scale_at false + 1

-- ---- the record where its window is not switched, c being the bits of scalefac_compress
unfoldable pub long_of : Bool → ℕ → List Bool → SlotRecord
long_of mpeg1 c b =
    record {
      part2_3_length = field b 0 12;
      big_values = field b big_values_at 9;
      global_gain = field b global_gain_at 8;
      scalefac_compress = field b compress_at c;
      block_type = Long;
      mixed_block_flag = false;
      subblock_gain = gain_of 0 ∷ gain_of 0 ∷ gain_of 0 ∷ [];
      table_select = field b (tables_at + c) 5 ∷ field b (tables_at + 5 + c) 5 ∷ field b (tables_at + 10 + c) 5 ∷ [];
      region0_count = field b (region0_at + c) 4;
      region1_count = field b (region1_at + c) 3;
      preflag = preflag_of mpeg1 b;
      scalefac_scale = flag b (scale_at mpeg1);
      count1table_select = flag b (count1_at mpeg1);
    }

-- and where it is
unfoldable pub switched_of : Bool → ℕ → BlockType → Bool → List Bool → SlotRecord
switched_of mpeg1 c t mixed b =
    record {
      part2_3_length = field b 0 12;
      big_values = field b big_values_at 9;
      global_gain = field b global_gain_at 8;
      scalefac_compress = field b compress_at c;
      block_type = t;
      mixed_block_flag = mixed;
      subblock_gain = gain_of (field b (gains_at + c) 3) ∷ gain_of (field b (gains_at + 3 + c) 3) ∷ gain_of (field b (gains_at + 6 + c) 3) ∷ [];
      table_select = field b (switched_tables_at + c) 5 ∷ field b (switched_tables_at + 5 + c) 5 ∷ 0 ∷ [];
      region0_count = region0_of (shape_by t mixed);
      region1_count = region1_of (shape_by t mixed);
      preflag = preflag_of mpeg1 b;
      scalefac_scale = flag b (scale_at mpeg1);
      count1table_select = flag b (count1_at mpeg1);
    }

-- big_values above 288; in a switched window block type 0, and then a mixed short block where the rate is 8 kHz: there short band 3 does not start
-- where the long bands of a mixed block end
unfoldable pub record_in : Bool → Bool → ℕ → List Bool → Result SlotRecord Refusal
record_in mpeg1 slow c b =
    pick (ltb most_big_values (field b big_values_at 9)) (Err TooManyPairs)
    (pick (not (flag b (switching_at + c))) (Ok (long_of mpeg1 c b))
    (pick (eqb (field b (type_at + c) 2) 0) (Err ForbiddenBlock)
    (pick (slow && is_mixed (shape_by (block_of (field b (type_at + c) 2)) (flag b (mixed_at + c)))) (Err MixedBlock)
    (Ok (switched_of mpeg1 c (block_of (field b (type_at + c) 2)) (flag b (mixed_at + c)) b)))))

unfoldable pub record_of : Bool → Bool → List Bool → Result SlotRecord Refusal
record_of mpeg1 slow b = record_in mpeg1 slow (compress_width mpeg1) b

-- the record of a slot that the frame lacks
unfoldable pub absent : SlotRecord
absent =
    record {
      part2_3_length = 0;
      big_values = 0;
      global_gain = 0;
      scalefac_compress = 0;
      block_type = Long;
      mixed_block_flag = false;
      subblock_gain = gain_of 0 ∷ gain_of 0 ∷ gain_of 0 ∷ [];
      table_select = 0 ∷ 0 ∷ 0 ∷ [];
      region0_count = 0;
      region1_count = 0;
      preflag = false;
      scalefac_scale = false;
      count1table_select = false;
    }

-- ---- which records bits read to
-- the eight gains
unfoldable pub gains_row : List Float
gains_row = gain_of 0 ∷ gain_of 1 ∷ gain_of 2 ∷ gain_of 3 ∷ gain_of 4 ∷ gain_of 5 ∷ gain_of 6 ∷ gain_of 7 ∷ []

-- the number of a gain: its place in the row, 8 where it is none of them
unfoldable pub gain_number : Float → ℕ
gain_number g = place same_float g gains_row

abbrev pub gain_below : ℕ → Float → Bool
gain_below n g = ltb (gain_number g) n

-- a list of three, each with its test
unfoldable pub trio : {A : Type 0} → (A → Bool) → (A → Bool) → (A → Bool) → List A → Bool
trio p q r [] = false
trio p q r (x ∷ []) = false
trio p q r (x ∷ y ∷ []) = false
trio p q r (x ∷ y ∷ z ∷ []) = p x && q y && r z
trio p q r (x ∷ y ∷ z ∷ w ∷ l) = false

abbrev pub below : ℕ → ℕ → Bool
below m n = ltb n m

unfoldable pub is_long_body : SlotRecord → Bool
is_long_body r =
    trio (below 32) (below 32) (below 32) r.table_select && trio (gain_below 1) (gain_below 1) (gain_below 1) r.subblock_gain
    && (ltb r.region0_count 16 && ltb r.region1_count 8) && not r.mixed_block_flag

unfoldable pub is_switched_body : SlotRecord → Bool
is_switched_body r =
    trio (below 32) (below 32) (below 1) r.table_select && trio (gain_below 8) (gain_below 8) (gain_below 8) r.subblock_gain
    && (eqb r.region0_count (region0_of (shape_of r)) && eqb r.region1_count (region1_of (shape_of r)))

unfoldable pub is_preflag : Bool → SlotRecord → Bool
is_preflag true r = true
is_preflag false r = beq r.preflag (leb 500 r.scalefac_compress)

unfoldable pub is_head : Bool → SlotRecord → Bool
is_head mpeg1 r =
    ltb r.part2_3_length 4096 && leb r.big_values most_big_values &&
    (ltb r.global_gain 256 && ltb r.scalefac_compress (2 ^ compress_width mpeg1))
    && is_preflag mpeg1 r

-- at 8 kHz no mixed short block
abbrev pub is_unmixed : Bool → SlotRecord → Bool
is_unmixed slow r = not (slow && is_mixed (shape_of r))

unfoldable pub is_record : Bool → Bool → SlotRecord → Bool
is_record mpeg1 slow r = is_head mpeg1 r && is_unmixed slow r && pick (is_long r.block_type) (is_long_body r) (is_switched_body r)

-- what stands past the end of a list of records
abbrev pub past_record : SlotRecord
past_record =
    record {
      part2_3_length = 0;
      big_values = 0;
      global_gain = 0;
      scalefac_compress = 0;
      block_type = Long;
      mixed_block_flag = false;
      subblock_gain = [];
      table_select = [];
      region0_count = 0;
      region1_count = 0;
      preflag = false;
      scalefac_scale = false;
      count1table_select = false;
    }

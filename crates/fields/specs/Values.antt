-- The fields of a header, of side information and of a slot's record as numbers, in the order of the bits that they are read from.
use Rattle.std.specs.Prelude.{Bool, true, false, List, [], ◌∷◌, ℕ, get_or, Float, Option, Some, None, Result, Ok, Err}
use Rattle.std.specs.Float.{nan}
use Rattle.standard.specs.Header.{bps, hz, is_intensity}
use Rattle.standard.specs.Record.{gain_number}
use Rattle.standard.specs.declared.MpegVersion.{MpegVersion}
use Rattle.standard.specs.declared.MpegVersion.TheVariants.{Mpeg1, Mpeg2, Mpeg25}
use Rattle.standard.specs.declared.Channels.{Channels}
use Rattle.standard.specs.declared.Channels.TheVariants.{Mono, DualMono, Stereo, JointStereo}
use Rattle.standard.specs.declared.Emphasis.{Emphasis}
use Rattle.standard.specs.declared.Emphasis.TheVariants.{NoEmphasis, FiftyFifteen, CcitJ17}
use Rattle.standard.specs.declared.BlockType.{BlockType}
use Rattle.standard.specs.declared.BlockType.TheVariants.{Long, Start, Short, End}
use Rattle.standard.specs.declared.FrameHeader.{FrameHeader}
use Rattle.standard.specs.declared.SideInfo.{SideInfo}
use Rattle.standard.specs.declared.SlotRecord.{SlotRecord}
use Rattle.standard.specs.declared.FrameHead.{FrameHead}
use Rattle.standard.specs.declared.Frame.{Frame}
use Rattle.standard.specs.declared.FrameRefusal.{FrameRefusal}
use Rattle.standard.specs.declared.FrameRefusal.TheVariants.{Unread, OutOfReach}

abbrev pub bit_of : Bool → ℕ
bit_of true = 1
bit_of false = 0

-- 25 stands for MPEG-2.5
abbrev pub version_number : MpegVersion → ℕ
version_number Mpeg1 = 1
version_number Mpeg2 = 2
version_number Mpeg25 = 25

abbrev pub mode_number : Channels → ℕ
mode_number Mono = 3
mode_number DualMono = 2
mode_number Stereo = 0
mode_number (JointStereo intensity mid_side) = 1

abbrev pub is_mid_side : Channels → Bool
is_mid_side Mono = false
is_mid_side DualMono = false
is_mid_side Stereo = false
is_mid_side (JointStereo intensity mid_side) = mid_side

abbrev pub emphasis_number : Emphasis → ℕ
emphasis_number NoEmphasis = 0
emphasis_number FiftyFifteen = 1
emphasis_number CcitJ17 = 3

abbrev pub block_number : BlockType → ℕ
block_number Long = 0
block_number Start = 1
block_number Short = 2
block_number End = 3

unfoldable pub header_values : FrameHeader → List ℕ
header_values h =
    version_number h.version ∷ bit_of h.crc ∷ bps h.bitrate ∷ hz h.rate ∷ bit_of h.padding
    ∷ mode_number h.channels ∷ bit_of (is_mid_side h.channels) ∷ bit_of (is_intensity h.channels)
    ∷ bit_of h.copyright ∷ bit_of h.original ∷ emphasis_number h.emphasis ∷ []

-- main_data_begin, and the sharing bits of channel 0 and channel 1
unfoldable pub side_values : SideInfo → List ℕ
side_values i =
    i.main_data_begin ∷ bit_of (get_or i.scfsi 0 false) ∷ bit_of (get_or i.scfsi 1 false) ∷ bit_of (get_or i.scfsi 2 false)
    ∷ bit_of (get_or i.scfsi 3 false) ∷ bit_of (get_or i.scfsi 4 false) ∷ bit_of (get_or i.scfsi 5 false)
    ∷ bit_of (get_or i.scfsi 6 false) ∷ bit_of (get_or i.scfsi 7 false) ∷ []

-- what stands past the end of a list of gains
abbrev no_gain : Float
no_gain = nan

-- a gain is told by its number, 0 to 7
unfoldable pub record_values : SlotRecord → List ℕ
record_values r =
    r.part2_3_length ∷ r.big_values ∷ r.global_gain ∷ r.scalefac_compress ∷ block_number r.block_type ∷ bit_of r.mixed_block_flag
    ∷ gain_number (get_or r.subblock_gain 0 no_gain) ∷ gain_number (get_or r.subblock_gain 1 no_gain) ∷ gain_number (get_or r.subblock_gain 2 no_gain)
    ∷ get_or r.table_select 0 0 ∷ get_or r.table_select 1 0 ∷ get_or r.table_select 2 0
    ∷ r.region0_count ∷ r.region1_count ∷ bit_of r.preflag ∷ bit_of r.scalefac_scale ∷ bit_of r.count1table_select ∷ []

-- what a slot's numbers are scaled by (11172-3, 2.4.3.4.7.1)
unfoldable pub scale_values : SlotRecord → List ℕ
scale_values r =
    block_number r.block_type ∷ r.global_gain
    ∷ gain_number (get_or r.subblock_gain 0 no_gain) ∷ gain_number (get_or r.subblock_gain 1 no_gain) ∷ gain_number (get_or r.subblock_gain 2 no_gain)
    ∷ bit_of r.scalefac_scale ∷ bit_of r.preflag ∷ bit_of r.mixed_block_flag ∷ []

-- ---- what a frame's answer tells, and where the next try begins
-- header, side information and length are told of a frame that was read, and of one that only reaches too far back
unfoldable pub head_told : Result Frame FrameRefusal → Option FrameHead
head_told (Ok f) = Some f.head
head_told (Err (OutOfReach h)) = Some h
head_told (Err (Unread r)) = None

unfoldable pub length_or_one : Option FrameHead → ℕ
length_or_one (Some h) = h.length
length_or_one None = 1

-- after such a frame; otherwise one byte further
unfoldable pub step_of : Result Frame FrameRefusal → ℕ
step_of a = length_or_one (head_told a)

-- A frame's header, from its first bytes (11172-3, 2.4.1.3 and 2.4.2.3; 13818-3, 2.4.2.3), which headers bytes read to, and the sizes
-- that follow from one.
use Rattle.std.specs.Prelude.{Bool, true, false, not, ◌&&◌, List, [], ◌∷◌, ℕ, ◌+◌, ◌-◌, ◌*◌, ◌/◌, ◌%◌, ltb, leb, eqb, length, get_or, Result, Ok, Err}
use Rattle.standard.specs.Told.{pick}
use Rattle.standard.specs.Bits.{one}
use Rattle.standard.specs.Rows.{member}
use Rattle.standard.specs.declared.MpegVersion.{MpegVersion}
use Rattle.standard.specs.declared.MpegVersion.TheVariants.{Mpeg1, Mpeg2, Mpeg25}
use Rattle.standard.specs.declared.Channels.{Channels}
use Rattle.standard.specs.declared.Channels.TheVariants.{Mono, DualMono, Stereo, JointStereo}
use Rattle.standard.specs.declared.Emphasis.{Emphasis}
use Rattle.standard.specs.declared.Emphasis.TheVariants.{NoEmphasis, FiftyFifteen, CcitJ17}
use Rattle.standard.specs.declared.BitRate.{BitRate}
use Rattle.standard.specs.declared.BitRate.TheVariants.{Kbps8, Kbps16, Kbps24, Kbps32, Kbps40, Kbps48, Kbps56, Kbps64, Kbps80, Kbps96, Kbps112, Kbps128, Kbps144, Kbps160, Kbps192, Kbps224, Kbps256, Kbps320}
use Rattle.standard.specs.declared.SampleRate.{SampleRate}
use Rattle.standard.specs.declared.SampleRate.TheVariants.{Hz8000, Hz11025, Hz12000, Hz16000, Hz22050, Hz24000, Hz32000, Hz44100, Hz48000}
use Rattle.standard.specs.declared.FrameHeader.{FrameHeader}
use Rattle.standard.specs.declared.Refusal.TheVariants.{AbsentBytes, NoSync, ReservedVersion, ReservedLayer, OtherLayer, FreeBitrate, ForbiddenBitrate, ReservedRate, ReservedEmphasis}
use Rattle.standard.specs.declared.Refusal.{Refusal}

-- ---- the tables of the header's fields
-- bits for a second
abbrev pub bps : BitRate → ℕ
bps Kbps8 = 8000
bps Kbps16 = 16000
bps Kbps24 = 24000
bps Kbps32 = 32000
bps Kbps40 = 40000
bps Kbps48 = 48000
bps Kbps56 = 56000
bps Kbps64 = 64000
bps Kbps80 = 80000
bps Kbps96 = 96000
bps Kbps112 = 112000
bps Kbps128 = 128000
bps Kbps144 = 144000
bps Kbps160 = 160000
bps Kbps192 = 192000
bps Kbps224 = 224000
bps Kbps256 = 256000
bps Kbps320 = 320000

-- samples for a second
abbrev pub hz : SampleRate → ℕ
hz Hz8000 = 8000
hz Hz11025 = 11025
hz Hz12000 = 12000
hz Hz16000 = 16000
hz Hz22050 = 22050
hz Hz24000 = 24000
hz Hz32000 = 32000
hz Hz44100 = 44100
hz Hz48000 = 48000

-- Layer III of bitrate_index 1 to 14 (11172-3, 2.4.2.3; 13818-3, 2.4.2.3)
abbrev low_bitrates : List BitRate
low_bitrates = Kbps8 ∷ Kbps16 ∷ Kbps24 ∷ Kbps32 ∷ Kbps40 ∷ Kbps48 ∷ Kbps56 ∷ Kbps64 ∷ Kbps80 ∷ Kbps96 ∷ Kbps112 ∷ Kbps128 ∷ Kbps144 ∷ Kbps160 ∷ []

unfoldable pub bitrates : MpegVersion → List BitRate
bitrates Mpeg1 = Kbps32 ∷ Kbps40 ∷ Kbps48 ∷ Kbps56 ∷ Kbps64 ∷ Kbps80 ∷ Kbps96 ∷ Kbps112 ∷ Kbps128 ∷ Kbps160 ∷ Kbps192 ∷ Kbps224 ∷ Kbps256 ∷ Kbps320 ∷ []
bitrates Mpeg2 = low_bitrates
bitrates Mpeg25 = low_bitrates

-- sampling_frequency 0 to 2
unfoldable pub rates : MpegVersion → List SampleRate
rates Mpeg1 = Hz44100 ∷ Hz48000 ∷ Hz32000 ∷ []
rates Mpeg2 = Hz22050 ∷ Hz24000 ∷ Hz16000 ∷ []
rates Mpeg25 = Hz11025 ∷ Hz12000 ∷ Hz8000 ∷ []

-- ---- the bits of the four bytes, by name (11172-3, 2.4.1.3)
-- the first byte is sync, and so are the top three bits of the second; MPEG-2.5 takes the twelfth bit of sync for its version
abbrev pub sync_byte : ℕ
sync_byte = 0xFF

abbrev pub sync_least : ℕ
sync_least = 0xE0

-- the second byte: ID, with the bit before it; layer; protection_bit
abbrev pub ID : ℕ → ℕ
ID b1 = b1 / 8 % 4

abbrev pub layer : ℕ → ℕ
layer b1 = b1 / 2 % 4

abbrev pub protection_bit : ℕ → ℕ
protection_bit b1 = b1 % 2

-- the third: bitrate_index, sampling_frequency, padding_bit (and private_bit, which is skipped)
abbrev pub bitrate_index : ℕ → ℕ
bitrate_index b2 = b2 / 16

abbrev pub sampling_frequency : ℕ → ℕ
sampling_frequency b2 = b2 / 4 % 4

abbrev padding_bit : ℕ → ℕ
padding_bit b2 = b2 / 2 % 2

-- the fourth: mode, mode_extension (mid/side, then intensity), copyright, original, emphasis
abbrev mode : ℕ → ℕ
mode b3 = b3 / 64

abbrev mid_side_bit : ℕ → ℕ
mid_side_bit b3 = b3 / 32 % 2

abbrev intensity_bit : ℕ → ℕ
intensity_bit b3 = b3 / 16 % 2

abbrev copyright_bit : ℕ → ℕ
copyright_bit b3 = b3 / 8 % 2

abbrev original_bit : ℕ → ℕ
original_bit b3 = b3 / 4 % 2

abbrev pub emphasis_bits : ℕ → ℕ
emphasis_bits b3 = b3 % 4

-- ---- what they say
unfoldable pub version_of : ℕ → MpegVersion
version_of v = pick (eqb v 3) Mpeg1 (pick (eqb v 2) Mpeg2 Mpeg25)

unfoldable pub emphasis_of : ℕ → Emphasis
emphasis_of v = pick (eqb v 0) NoEmphasis (pick (eqb v 1) FiftyFifteen CcitJ17)

-- mode and, for joint stereo, mode_extension: of the fourth byte
unfoldable pub channels_of : ℕ → Channels
channels_of b =
    pick (eqb (mode b) 0) Stereo
    (pick (eqb (mode b) 1) (JointStereo (eqb (intensity_bit b) 1) (eqb (mid_side_bit b) 1))
    (pick (eqb (mode b) 2) DualMono Mono))

-- the header that a second, third and fourth byte spell, where they pass every test
unfoldable pub fields : ℕ → ℕ → ℕ → FrameHeader
fields b1 b2 b3 =
    record {
      version = version_of (ID b1);
      crc = eqb (protection_bit b1) 0;
      bitrate = get_or (bitrates (version_of (ID b1))) (bitrate_index b2 - 1) Kbps8;
      rate = get_or (rates (version_of (ID b1))) (sampling_frequency b2) Hz8000;
      padding = eqb (padding_bit b2) 1;
      channels = channels_of b3;
      copyright = eqb (copyright_bit b3) 1;
      original = eqb (original_bit b3) 1;
      emphasis = emphasis_of (emphasis_bits b3);
    }

-- ---- reading a header, byte by byte: the first fault decides. Its bytes are needed from the first on, so the first absent one stands where
-- those that are there end
-- the third and fourth byte, needed together
unfoldable pub last_bytes : List ℕ → Result FrameHeader Refusal
last_bytes s =
    pick (eqb (bitrate_index (get_or s 2 0)) 0) (Err FreeBitrate)
    (pick (eqb (bitrate_index (get_or s 2 0)) 15) (Err ForbiddenBitrate)
    (pick (eqb (sampling_frequency (get_or s 2 0)) 3) (Err ReservedRate)
    (pick (eqb (emphasis_bits (get_or s 3 0)) 2) (Err ReservedEmphasis)
    (pick (eqb (protection_bit (get_or s 1 0)) 0 && leb (length s) 5) (Err (AbsentBytes (length s)))
    (Ok (fields (get_or s 1 0) (get_or s 2 0) (get_or s 3 0)))))))

unfoldable pub second_byte : List ℕ → Result FrameHeader Refusal
second_byte s =
    pick (ltb (get_or s 1 0) sync_least) (Err NoSync)
    (pick (eqb (ID (get_or s 1 0)) 1) (Err ReservedVersion)
    (pick (eqb (layer (get_or s 1 0)) 0) (Err ReservedLayer)
    (pick (not (eqb (layer (get_or s 1 0)) 1)) (Err OtherLayer)
    (pick (leb (length s) 3) (Err (AbsentBytes (length s))) (last_bytes s)))))

unfoldable pub header_of : List ℕ → Result FrameHeader Refusal
header_of s =
    pick (leb (length s) 0) (Err (AbsentBytes (length s)))
    (pick (not (eqb (get_or s 0 0) sync_byte)) (Err NoSync)
    (pick (leb (length s) 1) (Err (AbsentBytes (length s))) (second_byte s)))

-- ---- which headers bytes read to: those whose bitrate and rate are their version's
unfoldable pub same_bitrate : BitRate → BitRate → Bool
same_bitrate x y = eqb (bps x) (bps y)

unfoldable pub same_rate : SampleRate → SampleRate → Bool
same_rate x y = eqb (hz x) (hz y)

unfoldable pub is_header : FrameHeader → Bool
is_header h = member same_bitrate h.bitrate (bitrates h.version) && member same_rate h.rate (rates h.version)

-- ---- the sizes that follow from a header
abbrev pub is_mpeg1 : MpegVersion → Bool
is_mpeg1 Mpeg1 = true
is_mpeg1 Mpeg2 = false
is_mpeg1 Mpeg25 = false

abbrev pub is_two : Channels → Bool
is_two Mono = false
is_two DualMono = true
is_two Stereo = true
is_two (JointStereo i m) = true

abbrev pub is_intensity : Channels → Bool
is_intensity Mono = false
is_intensity DualMono = false
is_intensity Stereo = false
is_intensity (JointStereo i m) = i

-- 8 kHz, the one rate at which short band 3 does not start at number 36
abbrev pub is_slow : SampleRate → Bool
is_slow Hz8000 = true
is_slow Hz11025 = false
is_slow Hz12000 = false
is_slow Hz16000 = false
is_slow Hz22050 = false
is_slow Hz24000 = false
is_slow Hz32000 = false
is_slow Hz44100 = false
is_slow Hz48000 = false

-- a frame lasts 1,152 samples, or 576: at b bits a second and r samples a second it has 1,152 b / r bits, which are 144 b / r bytes
abbrev pub slot_bytes : MpegVersion → ℕ
slot_bytes Mpeg1 = 144
slot_bytes Mpeg2 = 72
slot_bytes Mpeg25 = 72

-- the header itself, with the CRC
unfoldable pub header_size : FrameHeader → ℕ
header_size h = 4 + 2 * one h.crc

-- what follows the header (11172-3, 2.4.3.1, with the padding byte)
unfoldable pub data_size : FrameHeader → ℕ
data_size h = slot_bytes h.version * bps h.bitrate / hz h.rate + one h.padding - header_size h

unfoldable pub frame_length : FrameHeader → ℕ
frame_length h = header_size h + data_size h

-- side information: 32 bytes for MPEG-1 in two channels, 9 for the others in one, else 17
abbrev pub side_bytes : Bool → Bool → ℕ
side_bytes true true = 32
side_bytes true false = 17
side_bytes false true = 17
side_bytes false false = 9

unfoldable pub side_size : FrameHeader → ℕ
side_size h = side_bytes (is_mpeg1 h.version) (is_two h.channels)

unfoldable pub main_size : FrameHeader → ℕ
main_size h = data_size h - side_size h

abbrev pub granules_in : Bool → ℕ
granules_in true = 2
granules_in false = 1

abbrev pub channels_in : Bool → ℕ
channels_in true = 2
channels_in false = 1

unfoldable pub granules : FrameHeader → ℕ
granules h = granules_in (is_mpeg1 h.version)

unfoldable pub channel_count : FrameHeader → ℕ
channel_count h = channels_in (is_two h.channels)

-- what stands for a header where none is told
unfoldable pub no_header : FrameHeader
no_header =
    record {
      version = Mpeg1;
      crc = false;
      bitrate = Kbps8;
      rate = Hz8000;
      padding = false;
      channels = Mono;
      copyright = false;
      original = false;
      emphasis = NoEmphasis;
    }

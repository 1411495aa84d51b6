-- Laws of a header: no two bitrates and no two rates have one number, and how large a frame and its parts can be.
-- The sizes rest on two computed tests, one over all bitrates and rates and one over those of a version.
use Rattle.std.specs.Prelude.{◌≡◌, refl, Bool, true, false, ◌&&◌, List, [], ◌∷◌, map, ℕ, ◌+◌, ◌*◌, ◌/◌, ◌^◌, ◌≤◌, ◌<◌, leb, eqb, length, get_or}
use Rattle.std.proofs.Common.{sym, ap, subst, ◌∙◌, arith, eqb-true, eq-eqb, ltb-true, leb-true}
use Rattle.standard.specs.ToldLaws.{both_of}
use Rattle.standard.specs.Bits.{one}
use Rattle.standard.specs.BitsLaws.{one-le}
use Rattle.standard.specs.Rows.{member, later, place}
use Rattle.standard.specs.RowsLaws.{every, every-at, every-member}
use Rattle.standard.specs.Header.{bps, hz, bitrates, rates, same_bitrate, same_rate, is_header, is_mpeg1, is_two, slot_bytes, header_size, data_size, frame_length, side_bytes, side_size, main_size}
use Rattle.standard.specs.SideInfo.{begin_width, is_side_by, is_side}
use Rattle.standard.specs.declared.MpegVersion.{MpegVersion}
use Rattle.standard.specs.declared.MpegVersion.TheVariants.{Mpeg1, Mpeg2, Mpeg25}
use Rattle.standard.specs.declared.BitRate.{BitRate}
use Rattle.standard.specs.declared.BitRate.TheVariants.{Kbps8, Kbps16, Kbps24, Kbps32, Kbps40, Kbps48, Kbps56, Kbps64, Kbps80, Kbps96, Kbps112, Kbps128, Kbps144, Kbps160, Kbps192, Kbps224, Kbps256, Kbps320}
use Rattle.standard.specs.declared.SampleRate.{SampleRate}
use Rattle.standard.specs.declared.SampleRate.TheVariants.{Hz8000, Hz11025, Hz12000, Hz16000, Hz22050, Hz24000, Hz32000, Hz44100, Hz48000}
use Rattle.standard.specs.declared.FrameHeader.{FrameHeader}
use Rattle.standard.specs.declared.SideInfo.{SideInfo}

-- ---- all bitrates and all rates, each found again by its number
bitrate_all : List BitRate
bitrate_all =
    Kbps8 ∷ Kbps16 ∷ Kbps24 ∷ Kbps32 ∷ Kbps40 ∷ Kbps48 ∷ Kbps56 ∷ Kbps64 ∷ Kbps80 ∷ Kbps96 ∷ Kbps112 ∷
    Kbps128 ∷ Kbps144 ∷ Kbps160 ∷ Kbps192 ∷ Kbps224 ∷ Kbps256 ∷ Kbps320 ∷ []

rate_all : List SampleRate
rate_all = Hz8000 ∷ Hz11025 ∷ Hz12000 ∷ Hz16000 ∷ Hz22050 ∷ Hz24000 ∷ Hz32000 ∷ Hz44100 ∷ Hz48000 ∷ []

bitrate_from : ℕ → BitRate
bitrate_from n = get_or bitrate_all (place eqb n (map bps bitrate_all)) Kbps8

rate_from : ℕ → SampleRate
rate_from n = get_or rate_all (place eqb n (map hz rate_all)) Hz8000

bitrate_back : (b : BitRate) → bitrate_from (bps b) ≡ b
unfolding bitrate_from bitrate_all place later
bitrate_back Kbps8 = refl
bitrate_back Kbps16 = refl
bitrate_back Kbps24 = refl
bitrate_back Kbps32 = refl
bitrate_back Kbps40 = refl
bitrate_back Kbps48 = refl
bitrate_back Kbps56 = refl
bitrate_back Kbps64 = refl
bitrate_back Kbps80 = refl
bitrate_back Kbps96 = refl
bitrate_back Kbps112 = refl
bitrate_back Kbps128 = refl
bitrate_back Kbps144 = refl
bitrate_back Kbps160 = refl
bitrate_back Kbps192 = refl
bitrate_back Kbps224 = refl
bitrate_back Kbps256 = refl
bitrate_back Kbps320 = refl

rate_back : (r : SampleRate) → rate_from (hz r) ≡ r
unfolding rate_from rate_all place later
rate_back Hz8000 = refl
rate_back Hz11025 = refl
rate_back Hz12000 = refl
rate_back Hz16000 = refl
rate_back Hz22050 = refl
rate_back Hz24000 = refl
rate_back Hz32000 = refl
rate_back Hz44100 = refl
rate_back Hz48000 = refl

-- ---- the tests for equality are right both ways
pub same_bitrate_lem : (x y : BitRate) → same_bitrate x y ≡ true → x ≡ y
unfolding same_bitrate
same_bitrate_lem x y e = sym (bitrate_back x) ∙ ap bitrate_from (eqb-true (bps x) (bps y) e) ∙ bitrate_back y

pub same_rate_lem : (x y : SampleRate) → same_rate x y ≡ true → x ≡ y
unfolding same_rate
same_rate_lem x y e = sym (rate_back x) ∙ ap rate_from (eqb-true (hz x) (hz y) e) ∙ rate_back y

pub bitrate_self : (x : BitRate) → same_bitrate x x ≡ true
unfolding same_bitrate
bitrate_self x = eq-eqb (bps x) (bps x) refl

pub rate_self : (x : SampleRate) → same_rate x x ≡ true
unfolding same_rate
rate_self x = eq-eqb (hz x) (hz x) refl

-- ---- a test that all pass is passed by each
every-bitrate : (p : BitRate → Bool) → every p bitrate_all ≡ true → (b : BitRate) → p b ≡ true
unfolding every bitrate_all bitrate_from
every-bitrate p e b =
    subst (λ (x : BitRate). p x ≡ true) (bitrate_back b) (every-at p Kbps8 bitrate_all (both_of (p Kbps8) _ e).0 e (place eqb (bps b) (map bps bitrate_all)))

every-rate : (p : SampleRate → Bool) → every p rate_all ≡ true → (r : SampleRate) → p r ≡ true
unfolding every rate_all rate_from
every-rate p e r =
    subst (λ (x : SampleRate). p x ≡ true) (rate_back r) (every-at p Hz8000 rate_all (both_of (p Hz8000) _ e).0 e (place eqb (hz r) (map hz rate_all)))

-- ---- the rows have one length in every version
pub bitrate_count : (v : MpegVersion) → length (bitrates v) ≡ 14
unfolding bitrates
bitrate_count Mpeg1 = refl
bitrate_count Mpeg2 = refl
bitrate_count Mpeg25 = refl

pub rate_count : (v : MpegVersion) → length (rates v) ≡ 3
unfolding rates
rate_count Mpeg1 = refl
rate_count Mpeg2 = refl
rate_count Mpeg25 = refl

-- ---- a frame's bytes, without the padding byte: of any bitrate and rate, and of a version's own
abbrev bytes_in : MpegVersion → BitRate → SampleRate → ℕ
bytes_in v b r = slot_bytes v * bps b / hz r

abbrev between : ℕ → ℕ → MpegVersion → BitRate → SampleRate → Bool
between low high v b r = leb low (bytes_in v b r) && leb (bytes_in v b r) high

abbrev between_at : ℕ → ℕ → MpegVersion → List SampleRate → BitRate → Bool
between_at low high v rs b = every (between low high v b) rs

between_is : (low high : ℕ) (v : MpegVersion) (b : BitRate) (r : SampleRate) → between low high v b r ≡ true → (low ≤ bytes_in v b r) × (bytes_in v b r ≤ high)
between_is low high v b r e = let k = both_of _ _ e in (leb-true _ _ k.0, leb-true _ _ k.1)

any_test : (v : MpegVersion) → every (between_at 12 5760 v rate_all) bitrate_all ≡ true
unfolding every rate_all bitrate_all
any_test Mpeg1 = refl
any_test Mpeg2 = refl
any_test Mpeg25 = refl

pub any_size : (v : MpegVersion) (b : BitRate) (r : SampleRate) → (12 ≤ bytes_in v b r) × (bytes_in v b r ≤ 5760)
any_size v b r = between_is 12 5760 v b r (every-rate (between 12 5760 v b) (every-bitrate (between_at 12 5760 v rate_all) (any_test v) b) r)

-- a header with CRC, the longer side information and a byte
abbrev least : MpegVersion → ℕ
least v = 6 + side_bytes (is_mpeg1 v) true + 1

own_test : (v : MpegVersion) → every (between_at (least v) 1440 v (rates v)) (bitrates v) ≡ true
unfolding every bitrates rates
own_test Mpeg1 = refl
own_test Mpeg2 = refl
own_test Mpeg25 = refl

own_size : (h : FrameHeader) → is_header h ≡ true → (least h.version ≤ bytes_in h.version h.bitrate h.rate)
    × (bytes_in h.version h.bitrate h.rate ≤ 1440)
unfolding is_header
own_size h e =
    let v = h.version in
    let k = both_of (member same_bitrate h.bitrate (bitrates v)) _ e in
    let p = every-member (between_at (least v) 1440 v (rates v)) same_bitrate same_bitrate_lem h.bitrate (bitrates v) (own_test v) k.0 in
    between_is (least v) 1440 v h.bitrate h.rate (every-member (between (least v) 1440 v h.bitrate) same_rate same_rate_lem h.rate (rates v) p k.1)

-- ---- of every header, made-up ones too
pub header-size : (h : FrameHeader) → (4 ≤ header_size h) × (header_size h ≤ 6)
unfolding header_size
header-size h = let k = one-le h.crc in (omega arith, omega arith)

-- so the header, of 6 bytes at most, never takes more than there is
pub size-from : (h : FrameHeader) → 12 ≤ slot_bytes h.version * bps h.bitrate / hz h.rate
size-from h = (any_size h.version h.bitrate h.rate).0

pub frame-length_is : (h : FrameHeader) → frame_length h ≡ slot_bytes h.version * bps h.bitrate / hz h.rate + one h.padding
unfolding frame_length data_size
frame-length_is h = omega (arith, size-from h, header-size h)

pub frame-length_any : (h : FrameHeader) → frame_length h ≤ 5761
frame-length_any h = omega (arith, frame-length_is h, any_size h.version h.bitrate h.rate, one-le h.padding)

side_least : (mpeg1 two : Bool) → (9 ≤ side_bytes mpeg1 two) × (side_bytes mpeg1 two ≤ side_bytes mpeg1 true)
side_least true true = (omega arith, omega arith)
side_least true false = (omega arith, omega arith)
side_least false true = (omega arith, omega arith)
side_least false false = (omega arith, omega arith)

pub side_size_lem : (h : FrameHeader) → 9 ≤ side_size h
unfolding side_size
side_size_lem h = (side_least (is_mpeg1 h.version) (is_two h.channels)).0

-- ---- of a header that bytes read to
module _ (h : FrameHeader) (known : is_header h ≡ true) where
  pub frame-length_le : frame_length h ≤ 1441
  frame-length_le = omega (arith, frame-length_is h, own_size h known, one-le h.padding)

  -- side information and a byte are there
  data_room : side_size h + 1 ≤ data_size h
  unfolding data_size side_size
  data_room = omega (arith, own_size h known, header-size h, side_least (is_mpeg1 h.version) (is_two h.channels))

  pub main_size_from : 1 ≤ main_size h
  unfolding main_size
  main_size_from = omega (arith, data_room)

  pub main_and_side : main_size h + side_size h ≡ data_size h
  unfolding main_size
  main_and_side = omega (arith, data_room)

  -- all of the longest frame but the header and the side information
  main_size_by : main_size h + side_size h ≤ 1437
  unfolding data_size
  main_size_by = omega (arith, main_and_side, own_size h known, header-size h, one-le h.padding)

  pub main_size_le : main_size h ≤ 1428
  unfolding side_size
  main_size_le = omega (arith, main_size_by, side_least (is_mpeg1 h.version) (is_two h.channels))

-- ---- and of side information under it
begin_lt : (h : FrameHeader) (i : SideInfo) → is_side h i ≡ true → i.main_data_begin < 2 ^ begin_width (is_mpeg1 h.version)
unfolding is_side is_side_by
begin_lt h i e = ltb-true _ _ (both_of _ _ (both_of _ _ e).0).0

-- the longest reservoir that a frame leaves
pub reservoir-le : (h : FrameHeader) (i : SideInfo) → is_header h ≡ true → is_side h i ≡ true → i.main_data_begin + main_size h ≤ 1931
unfolding side_size
reservoir-le h i known e = go (is_mpeg1 h.version) (is_two h.channels) (begin_lt h i e) (main_size_by h known)
  where
    go : (mpeg1 two : Bool) → i.main_data_begin < 2 ^ begin_width mpeg1 → main_size h + side_bytes mpeg1 two ≤ 1437 → i.main_data_begin + main_size h ≤ 1931
    go true true l m = omega arith
    go true false l m = omega arith
    go false true l m = omega arith
    go false false l m = omega arith

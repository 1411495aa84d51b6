-- A version's rows are ranges, and what goes by the version is told by whether it is MPEG-1.
use Rattle.std.specs.Prelude.{◌≡◌, refl, Bool, true, false, not, ◌&&◌, ℕ, ◌*◌, ◌≤◌, leb, eqb}
use Rattle.std.proofs.Common.{sym, mul-le-mul, arith}
use Rattle.standard.specs.ToldLaws.{never}
use Rattle.standard.specs.Rows.{member}
use Rattle.standard.specs.Header.{bps, hz, bitrates, rates, same_bitrate, same_rate, is_mpeg1, slot_bytes}
use Rattle.standard.specs.declared.MpegVersion.{MpegVersion}
use Rattle.standard.specs.declared.MpegVersion.TheVariants.{Mpeg1, Mpeg2, Mpeg25}
use Rattle.standard.specs.declared.BitRate.{BitRate}
use Rattle.standard.specs.declared.BitRate.TheVariants.{Kbps8, Kbps16, Kbps24, Kbps32, Kbps40, Kbps48, Kbps56, Kbps64, Kbps80, Kbps96, Kbps112, Kbps128, Kbps144, Kbps160, Kbps192, Kbps224, Kbps256, Kbps320}
use Rattle.standard.specs.declared.SampleRate.{SampleRate}
use Rattle.standard.specs.declared.SampleRate.TheVariants.{Hz8000, Hz11025, Hz12000, Hz16000, Hz22050, Hz24000, Hz32000, Hz44100, Hz48000}

-- what goes by the version is told by whether it is MPEG-1, where MPEG-2.5 is like MPEG-2
pub as_mpeg1 : {A : Type 0} (f : MpegVersion → A) (v : MpegVersion) → is_mpeg1 v ≡ true → f v ≡ f Mpeg1
as_mpeg1 f Mpeg1 e = refl
as_mpeg1 f Mpeg2 e = never e
as_mpeg1 f Mpeg25 e = never e

pub as_mpeg2 : {A : Type 0} (f : MpegVersion → A) → f Mpeg25 ≡ f Mpeg2 → (v : MpegVersion) → is_mpeg1 v ≡ false → f v ≡ f Mpeg2
as_mpeg2 f s Mpeg1 e = never (sym e)
as_mpeg2 f s Mpeg2 e = refl
as_mpeg2 f s Mpeg25 e = s

-- ---- a version's rows are ranges: what stands in one is what lies between its ends, but for 144 kbit/s in MPEG-1
abbrev pub between : ℕ → ℕ → ℕ → Bool
between n least most = leb least n && leb n most

pub bitrate_rows : (b : BitRate) → (member same_bitrate b (bitrates Mpeg1) ≡ between (bps b) 32000 320000 && not (eqb (bps b) 144000))
    × (member same_bitrate b (bitrates Mpeg2) ≡ between (bps b) 8000 160000)
unfolding member same_bitrate bitrates
bitrate_rows Kbps8 = (refl, refl)
bitrate_rows Kbps16 = (refl, refl)
bitrate_rows Kbps24 = (refl, refl)
bitrate_rows Kbps32 = (refl, refl)
bitrate_rows Kbps40 = (refl, refl)
bitrate_rows Kbps48 = (refl, refl)
bitrate_rows Kbps56 = (refl, refl)
bitrate_rows Kbps64 = (refl, refl)
bitrate_rows Kbps80 = (refl, refl)
bitrate_rows Kbps96 = (refl, refl)
bitrate_rows Kbps112 = (refl, refl)
bitrate_rows Kbps128 = (refl, refl)
bitrate_rows Kbps144 = (refl, refl)
bitrate_rows Kbps160 = (refl, refl)
bitrate_rows Kbps192 = (refl, refl)
bitrate_rows Kbps224 = (refl, refl)
bitrate_rows Kbps256 = (refl, refl)
bitrate_rows Kbps320 = (refl, refl)

pub rate_rows : (f : SampleRate) → (member same_rate f (rates Mpeg1) ≡ between (hz f) 32000 48000)
    × (member same_rate f (rates Mpeg2) ≡ between (hz f) 16000 24000) × (member same_rate f (rates Mpeg25) ≡ between (hz f) 8000 12000)
unfolding member same_rate rates
rate_rows Hz8000 = (refl, refl, refl)
rate_rows Hz11025 = (refl, refl, refl)
rate_rows Hz12000 = (refl, refl, refl)
rate_rows Hz16000 = (refl, refl, refl)
rate_rows Hz22050 = (refl, refl, refl)
rate_rows Hz24000 = (refl, refl, refl)
rate_rows Hz32000 = (refl, refl, refl)
rate_rows Hz44100 = (refl, refl, refl)
rate_rows Hz48000 = (refl, refl, refl)

-- ---- ranges of any header
pub bps-range : (b : BitRate) → (8000 ≤ bps b) × (bps b ≤ 320000)
bps-range Kbps8 = omega arith
bps-range Kbps16 = omega arith
bps-range Kbps24 = omega arith
bps-range Kbps32 = omega arith
bps-range Kbps40 = omega arith
bps-range Kbps48 = omega arith
bps-range Kbps56 = omega arith
bps-range Kbps64 = omega arith
bps-range Kbps80 = omega arith
bps-range Kbps96 = omega arith
bps-range Kbps112 = omega arith
bps-range Kbps128 = omega arith
bps-range Kbps144 = omega arith
bps-range Kbps160 = omega arith
bps-range Kbps192 = omega arith
bps-range Kbps224 = omega arith
bps-range Kbps256 = omega arith
bps-range Kbps320 = omega arith

pub hz-range : (f : SampleRate) → (8000 ≤ hz f) × (hz f ≤ 48000)
hz-range Hz8000 = omega arith
hz-range Hz11025 = omega arith
hz-range Hz12000 = omega arith
hz-range Hz16000 = omega arith
hz-range Hz22050 = omega arith
hz-range Hz24000 = omega arith
hz-range Hz32000 = omega arith
hz-range Hz44100 = omega arith
hz-range Hz48000 = omega arith

slot_bytes-range : (v : MpegVersion) → (72 ≤ slot_bytes v) × (slot_bytes v ≤ 144)
slot_bytes-range Mpeg1 = omega arith
slot_bytes-range Mpeg2 = omega arith
slot_bytes-range Mpeg25 = omega arith

pub product_range : (v : MpegVersion) (b : BitRate) → (72 * 8000 ≤ slot_bytes v * bps b) × (slot_bytes v * bps b ≤ 144 * 320000)
product_range v b = let p = slot_bytes-range v in let q = bps-range b in (mul-le-mul p.0 q.0, mul-le-mul p.1 q.1)

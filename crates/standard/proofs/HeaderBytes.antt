-- Bytes read to a header exactly when its bitrate and its sample rate are its version's.
-- One way, the header's own bytes are written down and read back field by field, whatever follows them; the other, each of the fourteen
-- and three places that a field can name holds a member.
use Rattle.std.specs.Prelude.{◌≡◌, Bool, ◌&&◌, ◌↔◌, length, replicate, Ok}
use Rattle.std.proofs.Math.Path.{refl, sym, ap}
use Rattle.std.proofs.Common.{subst, ◌∙◌}
use Rattle.std.proofs.Math.Bool.{true, false, not}
use mathlib.Core.List.{List, [], ◌∷◌, ◌++◌}
use Prim.Native.Nat.{ℕ, zero, suc, ◌+◌, ◌-◌, ◌*◌, ◌/◌, ◌%◌, ◌<◌, ◌≤◌}
use native.Mathlib.Omega.{arith}
use borrow.Author.Tests.{eqb-false, ne_eqb, eq-eqb, le-ltb, lt-leb}
use Rattle.std.proofs.Math.ListN.{get_or, length-append}
use Rattle.std.proofs.Math.Dec.{leb, eqb}
use Rattle.standard.specs.Told.{pick}
use Rattle.standard.specs.ToldLaws.{passed, no_refusal, told_is, both_of, both}
use Rattle.standard.specs.Bits.{one, bit_at, bits, between, value, field_at}
use Rattle.standard.specs.BitsLaws.{one-le, one-is, bits-after}
use Rattle.standard.specs.Crc.{check_word, covered, crc_fits}
use Rattle.standard.specs.CrcLaws.{fed-long}
use Rattle.standard.specs.Rows.{member, place}
use Rattle.standard.specs.RowsLaws.{member-at, place_at}
use Rattle.standard.specs.Header.{same_bitrate, same_rate, bitrates, rates, version_of, emphasis_of, channels_of, fields, last_bytes, second_byte, header_of, is_header, header_size}
use Rattle.standard.proofs.HeaderLaws.{same_bitrate_lem, same_rate_lem, bitrate_self, rate_self, bitrate_count, rate_count}
use Rattle.standard.specs.Written.{Bytes, bytes-append, pack, length-pack, bytes-pack, bits-pack}
use Rattle.standard.specs.declared.MpegVersion.{MpegVersion}
use Rattle.standard.specs.declared.MpegVersion.TheVariants.{Mpeg1, Mpeg2, Mpeg25}
use Rattle.standard.specs.declared.Channels.{Channels}
use Rattle.standard.specs.declared.Channels.TheVariants.{Mono, DualMono, Stereo, JointStereo}
use Rattle.standard.specs.declared.Emphasis.{Emphasis}
use Rattle.standard.specs.declared.Emphasis.TheVariants.{NoEmphasis, FiftyFifteen, CcitJ17}
use Rattle.standard.specs.declared.BitRate.TheVariants.{Kbps8}
use Rattle.standard.specs.declared.SampleRate.TheVariants.{Hz8000}
use Rattle.standard.specs.declared.FrameHeader.{FrameHeader}

-- ---- the numbers of the fields
version_bits : MpegVersion → ℕ
version_bits Mpeg1 = 3
version_bits Mpeg2 = 2
version_bits Mpeg25 = 0

emphasis_bits : Emphasis → ℕ
emphasis_bits NoEmphasis = 0
emphasis_bits FiftyFifteen = 1
emphasis_bits CcitJ17 = 3

mode : Channels → ℕ
mode Stereo = 0
mode (JointStereo i m) = 1
mode DualMono = 2
mode Mono = 3

intensity : Channels → ℕ
intensity Stereo = 0
intensity (JointStereo i m) = one i
intensity DualMono = 0
intensity Mono = 0

mid_side : Channels → ℕ
mid_side Stereo = 0
mid_side (JointStereo i m) = one m
mid_side DualMono = 0
mid_side Mono = 0

-- ---- each is in its range, is not refused, and is read back
one-not : (b : Bool) → eqb (one (not b)) 0 ≡ b
one-not true = refl
one-not false = refl

version_le : (v : MpegVersion) → version_bits v ≤ 3
unfolding version_bits
version_le Mpeg1 = omega arith
version_le Mpeg2 = omega arith
version_le Mpeg25 = omega arith

version_ok : (v : MpegVersion) → eqb (version_bits v) 1 ≡ false
unfolding version_bits
version_ok Mpeg1 = refl
version_ok Mpeg2 = refl
version_ok Mpeg25 = refl

version_back : (v : MpegVersion) → version_of (version_bits v) ≡ v
unfolding version_bits version_of pick
version_back Mpeg1 = refl
version_back Mpeg2 = refl
version_back Mpeg25 = refl

emphasis_le : (v : Emphasis) → emphasis_bits v ≤ 3
unfolding emphasis_bits
emphasis_le NoEmphasis = omega arith
emphasis_le FiftyFifteen = omega arith
emphasis_le CcitJ17 = omega arith

emphasis_ok : (v : Emphasis) → eqb (emphasis_bits v) 2 ≡ false
unfolding emphasis_bits
emphasis_ok NoEmphasis = refl
emphasis_ok FiftyFifteen = refl
emphasis_ok CcitJ17 = refl

emphasis_back : (v : Emphasis) → emphasis_of (emphasis_bits v) ≡ v
unfolding emphasis_bits emphasis_of pick
emphasis_back NoEmphasis = refl
emphasis_back FiftyFifteen = refl
emphasis_back CcitJ17 = refl

mode-le : (ch : Channels) → (mode ch ≤ 3) × (mid_side ch ≤ 1) × (intensity ch ≤ 1)
unfolding mode mid_side intensity
mode-le Stereo = (omega arith, omega arith, omega arith)
mode-le (JointStereo i m) = (omega arith, one-le m, one-le i)
mode-le DualMono = (omega arith, omega arith, omega arith)
mode-le Mono = (omega arith, omega arith, omega arith)

channels_from : (b : ℕ) (ch : Channels) → b / 64 ≡ mode ch → b / 32 % 2 ≡ mid_side ch → b / 16 % 2 ≡ intensity ch → channels_of b ≡ ch
unfolding channels_of pick mode mid_side intensity
channels_from b Stereo e f g = rw e
channels_from b (JointStereo i m) e f g = rw (e, f, g) (λ j. JointStereo (one-is i j) (one-is m j))
channels_from b DualMono e f g = rw e
channels_from b Mono e f g = rw e

-- ---- the bytes of a header
abbrev bitrate_in : FrameHeader → ℕ
bitrate_in h = place same_bitrate h.bitrate (bitrates h.version)

abbrev rate_in : FrameHeader → ℕ
rate_in h = place same_rate h.rate (rates h.version)

second : FrameHeader → ℕ
second h = 226 + 8 * version_bits h.version + one (not h.crc)

third : FrameHeader → ℕ
third h = 16 * suc (bitrate_in h) + 4 * rate_in h + 2 * one h.padding

fourth : FrameHeader → ℕ
fourth h =
    64 * mode h.channels + 32 * mid_side h.channels + 16 * intensity h.channels + 8 * one h.copyright + 4 * one h.original
    + emphasis_bits h.emphasis

-- a CRC of the sixteen bits w, where there is one
crc_bytes : Bool → List Bool → List ℕ
crc_bytes true w = pack 2 w
crc_bytes false w = []

pub header_bytes : FrameHeader → List Bool → List ℕ
header_bytes h w = 255 ∷ second h ∷ third h ∷ fourth h ∷ crc_bytes h.crc w

crc_length : (b : Bool) (w : List Bool) → length (crc_bytes b w) ≡ 2 * one b
unfolding crc_bytes
crc_length true w = length-pack 2 w
crc_length false w = refl

pub length-header : (h : FrameHeader) (w : List Bool) → length (header_bytes h w) ≡ header_size h
unfolding header_bytes header_size
length-header h w = omega (arith, crc_length h.crc w)

crc_bytes_lem : (b : Bool) (w : List Bool) → Bytes (crc_bytes b w)
unfolding crc_bytes
crc_bytes_lem true w = bytes-pack 2 w
crc_bytes_lem false w = λ i. omega arith

-- so many bytes are there
header-there : (h : FrameHeader) (w : List Bool) (rest : List ℕ) (k : ℕ) → k < 4 → leb (length (header_bytes h w ++ rest)) k ≡ false
unfolding header_bytes
header-there h w rest k l = lt-leb (length (header_bytes h w ++ rest)) k (simp length-append (omega arith))

-- and the CRC where it is asked for
crc_there : (b : Bool) (n : ℕ) → 4 + 2 * one b ≤ n → b && leb n 5 ≡ false
crc_there true n h = lt-leb n 5 (omega arith)
crc_there false n h = refl

-- ---- written, a header is read back
module _ (h : FrameHeader) (known : is_header h ≡ true) where
  bitrate_place : (get_or (bitrates h.version) (bitrate_in h) Kbps8 ≡ h.bitrate) × (bitrate_in h < 14)
  unfolding is_header
  bitrate_place =
      let w = place_at same_bitrate same_bitrate_lem Kbps8 h.bitrate (bitrates h.version) (both_of _ _ known).0 in
      (w.0, rw (bitrate_count h.version) at w.1)

  rate_place : (get_or (rates h.version) (rate_in h) Hz8000 ≡ h.rate) × (rate_in h < 3)
  unfolding is_header
  rate_place =
      let w = place_at same_rate same_rate_lem Hz8000 h.rate (rates h.version)
      (both_of (member same_bitrate h.bitrate (bitrates h.version)) _ known).1 in
      (w.0, rw (rate_count h.version) at w.1)

  second_is : (second h / 8 % 4 ≡ version_bits h.version) × (second h / 2 % 4 ≡ 1) × (second h % 2 ≡ one (not h.crc)) × (224 ≤ second h) × (second h < 256)
  unfolding second
  second_is = let v = version_le h.version in let b = one-le (not h.crc) in (omega arith, omega arith, omega arith, omega arith, omega arith)

  third_is : (third h / 16 ≡ suc (bitrate_in h)) × (third h / 4 % 4 ≡ rate_in h) × (third h / 2 % 2 ≡ one h.padding) × (third h < 256)
  unfolding third
  third_is = let v = bitrate_place.1 in let w = rate_place.1 in let b = one-le h.padding in (omega arith, omega arith, omega arith, omega arith)

  fourth_is : (fourth h / 64 ≡ mode h.channels) × (fourth h / 32 % 2 ≡ mid_side h.channels) × (fourth h / 16 % 2 ≡ intensity h.channels)
      × (fourth h / 8 % 2 ≡ one h.copyright) × (fourth h / 4 % 2 ≡ one h.original) × (fourth h % 4 ≡ emphasis_bits h.emphasis) × (fourth h < 256)
  unfolding fourth
  fourth_is =
      let m = mode-le h.channels in
      let c = one-le h.copyright in
      let o = one-le h.original in
      let e = emphasis_le h.emphasis in
      (omega arith, omega arith, omega arith, omega arith, omega arith, omega arith, omega arith)

  fields_back : fields (second h) (third h) (fourth h) ≡ h
  unfolding fields
  fields_back =
      rw (second_is.0, version_back h.version, second_is.2, third_is.0, third_is.1, third_is.2, fourth_is.3, fourth_is.4, fourth_is.5)
      (λ j.
      record {
        version = h.version;
        crc = one-not h.crc j;
        bitrate = (ap (λ (n : ℕ). get_or (bitrates h.version) n Kbps8) one_less ∙ bitrate_place.0) j;
        rate = rate_place.0 j;
        padding = one-is h.padding j;
        channels = channels_from (fourth h) h.channels fourth_is.0 fourth_is.1 fourth_is.2 j;
        copyright = one-is h.copyright j;
        original = one-is h.original j;
        emphasis = emphasis_back h.emphasis j;
      })
    where
      one_less : suc (bitrate_in h) - 1 ≡ bitrate_in h
      one_less = omega arith

  -- whatever its CRC is, and whatever follows the header
  pub header-back : (w : List Bool) (rest : List ℕ) → header_of (header_bytes h w ++ rest) ≡ Ok h
  unfolding header_of second_byte last_bytes header_bytes
  header-back w rest =
      passed _ (header-there h w rest 0 (omega arith))
      ∙ (passed _ refl
      ∙ (passed _ (header-there h w rest 1 (omega arith))
      ∙ (passed _ (le-ltb (second h) 224 second_is.3)
      ∙ (passed _ (ap (λ (n : ℕ). eqb n 1) second_is.0 ∙ version_ok h.version)
      ∙ (passed _ (ap (λ (n : ℕ). eqb n 0) second_is.1)
      ∙ (passed _ (ap (λ (n : ℕ). not (eqb n 1)) second_is.1)
      ∙ (passed _ (header-there h w rest 3 (omega arith))
      ∙ (passed _ (ne_eqb (third h / 16) 0 (λ e. omega (arith, third_is)))
      ∙ (passed _ (ne_eqb (third h / 16) 15 (λ e. omega (arith, bitrate_place, third_is)))
      ∙ (passed _ (ne_eqb (third h / 4 % 4) 3 (λ e. omega (arith, rate_place, third_is)))
      ∙ (passed _ (ap (λ (n : ℕ). eqb n 2) fourth_is.5 ∙ emphasis_ok h.emphasis)
      ∙ (passed _
      (ap (λ (b : Bool). b && leb (length (header_bytes h w ++ rest)) 5) (ap (λ (n : ℕ). eqb n 0) second_is.2 ∙ one-not h.crc)
      ∙ crc_there h.crc (length (header_bytes h w ++ rest)) (simp length-append (omega (arith, crc_length h.crc w))))
      ∙ ap Ok fields_back))))))))))))

  pub bytes-header : (w : List Bool) → Bytes (header_bytes h w)
  unfolding header_bytes
  bytes-header w zero = omega arith
  bytes-header w (suc zero) = second_is.4
  bytes-header w (suc (suc zero)) = third_is.3
  bytes-header w (suc (suc (suc zero))) = fourth_is.6
  bytes-header w (suc (suc (suc (suc i)))) = crc_bytes_lem h.crc w i

-- ---- the CRC that fits, where the bits b of the side information follow
pub fitting : FrameHeader → List Bool → List Bool
fitting h b = check_word (bits (third h ∷ fourth h ∷ []) 0 16 ++ b)

module _ (h : FrameHeader) (n : ℕ) (b : List Bool) (l : length b ≡ 8 * n) where
  abbrev front : List ℕ
  front = 255 ∷ second h ∷ third h ∷ fourth h ∷ pack 2 (fitting h b)

  covered-is : covered (front ++ pack n b) (6 + n) ≡ bits (third h ∷ fourth h ∷ []) 0 16 ++ b
  unfolding covered between bits bit_at pack
  covered-is =
      let k : 8 * (6 + n) - 48 ≡ 8 * n = omega arith in
      ap (λ (x : List Bool). bits (third h ∷ fourth h ∷ []) 0 16 ++ x)
      (ap (bits (front ++ pack n b) 48) k ∙ bits-after front (pack n b) (8 * n) 0 ∙ bits-pack n b l)

  word_is : field_at (front ++ pack n b) 32 16 ≡ value (fitting h b)
  unfolding field_at bits bit_at pack fitting check_word
  word_is = ap value (bits-pack 2 (fitting h b) (fed-long (replicate 16 true) _ refl))

  front_fits : crc_fits (front ++ pack n b) (6 + n) ≡ true
  unfolding crc_fits fitting
  front_fits = eq-eqb _ _ (ap (λ (x : List Bool). value (check_word x)) covered-is ∙ sym word_is)

  -- so there is none that does not
  pub fits_after : h.crc && not (crc_fits (header_bytes h (fitting h b) ++ pack n b) (header_size h + n)) ≡ false
  unfolding header_bytes header_size crc_bytes
  fits_after = go h.crc
    where
      go : (c : Bool) → c && not (crc_fits ((255 ∷ second h ∷ third h ∷ fourth h ∷ crc_bytes c (fitting h b)) ++ pack n b) (4 + 2 * one c + n)) ≡ false
      go false = refl
      go true = ap not front_fits

-- ---- what is read has its version's bitrate and sample rate
fields-known : (b1 b2 b3 : ℕ) → b2 < 256 → (b2 / 16 ≡ 0 → ⊥) → (b2 / 16 ≡ 15 → ⊥) → (b2 / 4 % 4 ≡ 3 → ⊥) → is_header (fields b1 b2 b3) ≡ true
unfolding is_header fields
fields-known b1 b2 b3 l p q r =
    let v = version_of (b1 / 8 % 4) in
    let h : b2 / 16 - 1 < 14 = omega arith in
    let k : b2 / 4 % 4 < 3 = omega arith in
    both (member-at same_bitrate bitrate_self Kbps8 (bitrates v) (b2 / 16 - 1) (rw (bitrate_count v) h))
    (member-at same_rate rate_self Hz8000 (rates v) (b2 / 4 % 4) (rw (rate_count v) k))

last_known : (s : List ℕ) (h : FrameHeader) → Bytes s → last_bytes s ≡ Ok h → is_header h ≡ true
unfolding last_bytes
last_known s h b e =
    let p = no_refusal (eqb (get_or s 2 0 / 16) 0) _ _ h e in
    let q = no_refusal (eqb (get_or s 2 0 / 16) 15) _ _ h p.1 in
    let r = no_refusal (eqb (get_or s 2 0 / 4 % 4) 3) _ _ h q.1 in
    let u = (no_refusal _ _ _ h (no_refusal _ _ _ h r.1).1).1 in
    subst (λ (x : FrameHeader). is_header x ≡ true) (told_is u)
    (fields-known (get_or s 1 0) (get_or s 2 0) (get_or s 3 0) (b 2) (eqb-false _ _ p.0) (eqb-false _ _ q.0) (eqb-false _ _ r.0))

second_known : (s : List ℕ) (h : FrameHeader) → Bytes s → second_byte s ≡ Ok h → is_header h ≡ true
unfolding second_byte
second_known s h b e =
    let e1 = (no_refusal _ _ _ h e).1 in
    let e2 = (no_refusal _ _ _ h e1).1 in
    let e3 = (no_refusal _ _ _ h e2).1 in
    let e4 = (no_refusal _ _ _ h e3).1 in
    last_known s h b (no_refusal _ _ _ h e4).1

pub header-known : (s : List ℕ) (h : FrameHeader) → Bytes s → header_of s ≡ Ok h → is_header h ≡ true
unfolding header_of
header-known s h b e =
    let e1 = (no_refusal _ _ _ h e).1 in
    let e2 = (no_refusal _ _ _ h e1).1 in
    second_known s h b (no_refusal _ _ _ h e2).1

-- THE STATEMENT: a header is accepted exactly when some bytes read to it
pub header_read : (h : FrameHeader) → (is_header h ≡ true) ↔ ((s : List ℕ) × Bytes s × (header_of s ≡ Ok h))
header_read h = (
  λ e. (header_bytes h [] ++ [], bytes-append (header_bytes h []) [] (bytes-header h e []) (λ i. omega arith), header-back h e [] []),
  λ w. header-known w.0 h w.1 w.2,
)

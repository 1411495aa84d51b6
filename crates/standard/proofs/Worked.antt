-- Worked from bytes (docs/RULES.md, Frame F): the starred rows in one table with a single statement, and the others, computed from the definition.
use Rattle.std.specs.Prelude.{◌≡◌, refl, List, [], ◌∷◌, ◌++◌, ℕ, zero, suc, ◌*◌, ℤ, pos, negsuc, length, take, replicate, set, Ok, Err}
use Rattle.standard.specs.Told.{pick, told_or, Verdict}
use Rattle.standard.specs.Bits.{bit_at, bits, between, value_from, value, field, flag, field_at}
use Rattle.standard.specs.Rows.{member, later, place}
use Rattle.standard.specs.Crc.{differ, added, taps, feed, fed, check_word, covered, crc_fits}
use Rattle.standard.specs.Codes.{low_bits, pair, quad, starts, first, begun, decode, silent, table1, table_b, codes, published, word_of, escapes, escape_width}
use Rattle.standard.specs.Bands.{long_rows, short_rows, long_start, short_start}
use Rattle.standard.specs.Lengths.{slen_rows, slen1, slen2, range_in, low_range, ordinary_lengths, intensity_lengths, low_lengths, long_counts, short_counts, mixed_counts, intensity_long_counts, intensity_short_counts, intensity_mixed_counts, low_counts}
use Rattle.standard.specs.Header.{bitrates, rates, version_of, emphasis_of, channels_of, fields, last_bytes, second_byte, header_of, same_bitrate, same_rate, is_header, header_size, data_size, frame_length, side_size, main_size, granules, channel_count, no_header}
use Rattle.standard.specs.Record.{block_of, preflag_of, long_of, switched_of, record_in, record_of, absent}
use Rattle.standard.specs.SideInfo.{then_records, records_of, then_side, side_in, absent_from, side_from, side_of, no_side}
use Rattle.standard.specs.Factors.{plan_by, plan_of, group, groups_from, plan_bits, factors_from, long_factors, short_factors}
use Rattle.standard.specs.Numbers.{escaped, magnitude_of, sign_of, signed, further, then_sign, number_in, two_last, two_first, two_of, pair_after, pair_word, pair_of, quad_last, quad_first, quad_word, quad_of, regions_by, table_at, prepend, then_pairs, pairs, then_quads, quads, then_rest, numbers_by, quiet, numbers_of, padded}
use Rattle.standard.specs.Slots.{Outcome, stopped, holds, is_stopped, long_of as longFactorsOf, any_of, with_factors, slot_by, slot_of, shares_of, setting_of, alone, mate_of, slot_in, then_slots, slots_from, slots_of}
use Rattle.standard.specs.Reservoir.{Kept, untouched, keeping, reaching, adding, turn_of}
use Rattle.standard.specs.Frame.{Step, step_verdict, step_header, step_info, step_slots, step_kept, with_turn, with_side, with_header, frame_of}
use Rattle.standard.specs.Reorder.{band_order, order_from, order_of, gathered, first_short, reordered_from}
use Rattle.standard.specs.declared.SampleRate.{SampleRate}
use Rattle.standard.specs.declared.SampleRate.TheVariants.{Hz44100}
use Rattle.standard.specs.declared.Shape.{Shape}
use Rattle.standard.specs.declared.Shape.TheVariants.{AllShort, LongThenShort}
use Rattle.standard.specs.declared.Refusal.TheVariants.{MissingBits, FactorOverrun, LostShare, PairOverrun, ShortReservoir, ReservedVersion, ReservedLayer, OtherLayer, FreeBitrate, ForbiddenBitrate, ReservedRate, AbsentBytes, WrongCrc, TooManyPairs, MixedBlock}
use Rattle.standard.specs.declared.Refusal.{Refusal}

-- ---- frame F and its neighbours
abbrev pub frame_f : List ℕ
frame_f = 0xFF ∷ 0xF3 ∷ 0x14 ∷ 0xC0 ∷ 0x00 ∷ 0x00 ∷ 0x40 ∷ 0x07 ∷ 0x48 ∷ 0x00 ∷ 0x08 ∷ 0x00 ∷ 0x01 ∷ 0x7A ∷ replicate 10 0x00

-- F with part2_3_length n, which is below 32: the first five bits of the byte that is 40 in F
abbrev pub long : ℕ → List ℕ
long n = set frame_f 6 (8 * n)

-- and with scalefac_compress 16
abbrev pub long16 : ℕ → List ℕ
long16 n = set (long n) 9 0x20

-- a slot whose factors are all 0
abbrev pub read : List ℤ → Outcome
read vs = holds (replicate 22 0) (replicate 39 0) vs

abbrev pub numbers_f : List ℤ
numbers_f = negsuc 0 ∷ pos 0 ∷ pos 0 ∷ pos 0 ∷ pos 1 ∷ pos 0 ∷ []

-- n numbers, each one more than the one before it
unfoldable pub up_from : ℕ → ℕ → List ℤ
up_from k zero = []
up_from k (suc n) = pos k ∷ up_from (suc k) n

-- main_data_begin is the byte after the header
abbrev pub main_f : List ℕ
main_f = 0x7A ∷ replicate 10 0x00

abbrev pub reaching_back : ℕ → List ℕ
reaching_back n = set frame_f 4 n

-- ---- a frame's step from its bytes and the reservoir's, and its parts
unfoldable pub step : List ℕ → List ℕ → Step
unfolding pick bit_at bits between value_from value field flag field_at member later place low_bits pair quad starts first begun decode silent table1 table_b codes published word_of escapes escape_width long_rows short_rows long_start short_start slen_rows slen1 slen2 range_in low_range ordinary_lengths intensity_lengths low_lengths long_counts short_counts mixed_counts intensity_long_counts intensity_short_counts intensity_mixed_counts low_counts bitrates rates version_of emphasis_of channels_of fields last_bytes second_byte header_of same_bitrate same_rate is_header header_size data_size frame_length side_size main_size granules channel_count no_header block_of preflag_of long_of switched_of record_in record_of absent then_records records_of then_side side_in absent_from side_from side_of no_side differ added taps feed fed check_word covered crc_fits plan_by plan_of group groups_from plan_bits factors_from long_factors short_factors escaped magnitude_of sign_of signed further then_sign number_in two_last two_first two_of pair_after pair_word pair_of quad_last quad_first quad_word quad_of regions_by table_at prepend then_pairs pairs then_quads quads then_rest numbers_by quiet numbers_of padded is_stopped longFactorsOf any_of with_factors slot_by slot_of shares_of setting_of alone mate_of slot_in then_slots slots_from slots_of reaching adding turn_of with_turn with_side with_header frame_of
step s old = frame_of s old

unfoldable pub verdict : List ℕ → Verdict
unfolding step
verdict s = step_verdict (step s [])

unfoldable pub slots : List ℕ → List Outcome
unfolding step
slots s = step_slots (step s [])

-- ---- the starred rows
pub data Row : Type 0 where
  -- a frame's bytes and the reservoir's: its verdict, its slots, and the bytes that are in the reservoir after it
  of_frame : List ℕ → List ℕ → Verdict → List Outcome → Kept → Row
  -- the slots of a frame from other main data than its own
  of_main : List ℕ → List ℕ → List Outcome → Row
  -- the reorder at a rate: the first numbers of a slot of a shape before it and after it
  of_order : SampleRate → Shape → List ℤ → List ℤ → Row

-- a frame read from an empty reservoir, and one refused
abbrev wholly : List ℕ → Outcome → Row
wholly s o = of_frame s [] (Ok tt) (o ∷ []) (keeping main_f)

abbrev refused_for : List ℕ → Refusal → Row
refused_for s r = of_frame s [] (Err r) [] untouched

abbrev plain_table : List Row
plain_table =
    wholly frame_f (read numbers_f) ∷
    -- the first quad ends outside the slot and is dropped; so it is where only its codeword's first bits are there
    wholly (long 7) (read (negsuc 0 ∷ pos 0 ∷ [])) ∷
    wholly (long 3) (read (negsuc 0 ∷ pos 0 ∷ [])) ∷
    wholly (long 2) (stopped PairOverrun) ∷
    -- a pair is promised, and there is no bit for its codeword; so it is where the factors leave none
    wholly (long 0) (stopped PairOverrun) ∷
    wholly (long 16) (read (numbers_f ++ pos 1 ∷ pos 1 ∷ pos 1 ∷ pos 1 ∷ [])) ∷
    of_main frame_f [] (stopped MissingBits ∷ []) ∷
    of_main frame_f (0x7A ∷ []) (read numbers_f ∷ []) ∷
    wholly (long16 4) (stopped FactorOverrun) ∷
    wholly (long16 5) (stopped PairOverrun) ∷
    refused_for (set frame_f 2 0x04) FreeBitrate ∷
    refused_for (set frame_f 2 0xF4) ForbiddenBitrate ∷
    refused_for (set frame_f 2 0x1C) ReservedRate ∷
    refused_for (set frame_f 1 0xEB) ReservedVersion ∷
    refused_for (set frame_f 1 0xF1) ReservedLayer ∷
    refused_for (set frame_f 1 0xF5) OtherLayer ∷
    of_frame (reaching_back 1) [] (Err ShortReservoir) [] (keeping main_f) ∷
    of_order Hz44100 AllShort (up_from 1 12)
    (pos 1 ∷ pos 5 ∷ pos 9 ∷ pos 2 ∷ pos 6 ∷ pos 10 ∷ pos 3 ∷ pos 7 ∷ pos 11 ∷ pos 4 ∷ pos 8 ∷ pos 12 ∷ []) ∷
    []

-- ---- and those of regions that run off the end, and of mixed blocks
-- F's header with other side information and main data
abbrev frame_with : List ℕ → List ℕ → List ℕ
frame_with side main = 0xFF ∷ 0xF3 ∷ 0x14 ∷ 0xC0 ∷ (side ++ main)

abbrev with : List ℕ → List ℕ → List Outcome → Row
with s main os = of_frame s [] (Ok tt) os (keeping main)

-- F's main data with another first byte
abbrev main_by : ℕ → List ℕ
main_by n = n ∷ replicate 10 0x00

-- 117 pairs, tables 0 and 1, region counts 15 and 7
abbrev side_off : List ℕ
side_off = 0x00 ∷ 0x00 ∷ 0x19 ∷ 0xD7 ∷ 0x48 ∷ 0x00 ∷ 0x00 ∷ 0x47 ∷ 0xFD ∷ []

-- a frame of MPEG-1 at 48 kHz, of 32,000 bits a second and one channel
abbrev frame1_with : List ℕ → List ℕ → List ℕ
frame1_with side main = 0xFF ∷ 0xFB ∷ 0x14 ∷ 0xC0 ∷ (side ++ main)

-- 19 pairs of which the first 18 are in table 0, where the tables change at 36; t is the byte of block_type and mixed_block_flag
abbrev nineteen : ℕ → List ℕ
nineteen t = 0x00 ∷ 0x00 ∷ 0x18 ∷ 0x4F ∷ 0x48 ∷ 0x01 ∷ t ∷ 0x08 ∷ 0x01 ∷ []

-- 33 factors of 60 bits: six of one bit, and three times nine of two, three and one
abbrev side33 : List ℕ
side33 = 0x00 ∷ 0x01 ∷ 0xE0 ∷ 0x03 ∷ 0x48 ∷ 0xFB ∷ 0xA0 ∷ 0x00 ∷ 0x01 ∷ []

abbrev main33 : List ℕ
main33 = 0xA9 ∷ 0xB6 ∷ 0xDB ∷ 0x29 ∷ 0xCB ∷ 0xB8 ∷ 0x35 ∷ 0x50 ∷ 0x00 ∷ 0x00 ∷ 0x00 ∷ []

-- MPEG-1: eight long factors and nine short ones of four bits, 1 to 15 and then 0 and 1, and eighteen of three
abbrev side35 : List ℕ
side35 = 0x00 ∷ 0x00 ∷ 0x01 ∷ 0xE8 ∷ 0x01 ∷ 0xA5 ∷ 0xFA ∷ 0x00 ∷ 0x00 ∷ 0x08 ∷ 0x00 ∷ 0x00 ∷ 0x34 ∷ 0x80 ∷ 0x00 ∷ 0x00 ∷ 0x01 ∷ []

abbrev main35 : List ℕ
main35 =
    0x12 ∷ 0x34 ∷ 0x56 ∷ 0x78 ∷ 0x9A ∷ 0xBC ∷ 0xDE ∷ 0xF0 ∷ 0x14 ∷ 0xE5 ∷ 0xDC ∷ 0x14 ∷ 0xE5 ∷ 0xDC ∷ 0x14 ∷ 0xC0 ∷ replicate 59 0x00

-- granule 0 has too few bits for its factors; granule 1 is mixed, and its sharing bits are set
abbrev side_shared : List ℕ
side_shared = 0x00 ∷ 0x03 ∷ 0xC0 ∷ 0x00 ∷ 0x01 ∷ 0xA4 ∷ 0x20 ∷ 0x00 ∷ 0x00 ∷ 0x08 ∷ 0x04 ∷ 0x00 ∷ 0x34 ∷ 0x83 ∷ 0x40 ∷ 0x00 ∷ 0x01 ∷ []

abbrev added_table : List Row
added_table =
    -- region counts 15 and 7: the second table begins at 232, and there is no third region
    with (frame_with side_off (main_by 0x60)) (main_by 0x60) (read (replicate 232 (pos 0) ++ negsuc 0 ∷ pos 0 ∷ []) ∷ []) ∷
    wholly (set (set frame_f 9 0x01) 10 0xA1) (read numbers_f) ∷
    with (frame_with (nineteen 0xA0) (main_by 0x60)) (main_by 0x60) (read (replicate 36 (pos 0) ++ negsuc 0 ∷ pos 0 ∷ []) ∷ []) ∷
    -- a start block with the flag is read as without it: its first region ends at 54
    with (frame_with (nineteen 0x60) (main_by 0x60)) (main_by 0x60) (read (replicate 38 (pos 0)) ∷ []) ∷
    with (frame_with side33 main33) main33
    (holds (1 ∷ 0 ∷ 1 ∷ 0 ∷ 1 ∷ replicate 17 0)
    (replicate 9 0 ++ 1 ∷ 2 ∷ 3 ∷ 1 ∷ 2 ∷ 3 ∷ 1 ∷ 2 ∷ 3 ∷ 1 ∷ 2 ∷ 3 ∷ 4 ∷ 5 ∷ 6 ∷ 7 ∷ 0 ∷ 1 ∷ 1 ∷ 0 ∷ 1 ∷ 0 ∷ 1 ∷ 0 ∷ 1 ∷ 0 ∷ 1 ∷ 0 ∷ 0 ∷ 0 ∷ [])
    [] ∷ []) ∷
    with (frame1_with side35 main35) main35
    (holds (1 ∷ 2 ∷ 3 ∷ 4 ∷ 5 ∷ 6 ∷ 7 ∷ 8 ∷ replicate 14 0)
    (replicate 9 0 ++ 9 ∷ 10 ∷ 11 ∷ 12 ∷ 13 ∷ 14 ∷ 15 ∷ 0 ∷ 1 ∷ 2 ∷ 3 ∷ 4 ∷ 5 ∷ 6 ∷ 7 ∷ 0 ∷ 1 ∷ 2 ∷ 3 ∷ 4 ∷ 5 ∷ 6 ∷ 7 ∷ 0 ∷ 1 ∷ 2 ∷ 3 ∷ 0 ∷ 0 ∷ 0 ∷ [])
    [] ∷ read [] ∷ []) ∷
    -- a mixed slot shares nothing, whatever its sharing bits
    with (frame1_with side_shared (replicate 75 0x00)) (replicate 75 0x00) (stopped FactorOverrun ∷ read (replicate 4 (pos 1)) ∷ []) ∷
    -- at 8 kHz there is none
    refused_for (0xFF ∷ 0xE3 ∷ 0x18 ∷ 0xC0 ∷ 0x00 ∷ 0x00 ∷ 0x00 ∷ 0x03 ∷ 0x48 ∷ 0x01 ∷ 0xA0 ∷ 0x00 ∷ 0x01 ∷ replicate 59 0x00) MixedBlock ∷
    of_order Hz44100 LongThenShort (up_from 1 48)
    (up_from 1 36 ++ pos 37 ∷ pos 41 ∷ pos 45 ∷ pos 38 ∷ pos 42 ∷ pos 46 ∷ pos 39 ∷ pos 43 ∷ pos 47 ∷ pos 40 ∷ pos 44 ∷ pos 48 ∷ []) ∷
    []

-- ---- and those of promised pairs without bits
-- F with length 0, the first table 0, and the bytes of big_values and of the second table
abbrev quiet_by : ℕ → ℕ → List ℕ
quiet_by pairs second = set (set (set (long 0) 7 pairs) 10 0x00) 11 second

-- granule 0 has too few bits for its factors; granule 1 has none, a sharing bit and a pair in table 1
abbrev side_lost : List ℕ
side_lost = 0x00 ∷ 0x00 ∷ 0x80 ∷ 0x00 ∷ 0x01 ∷ 0xA4 ∷ 0x20 ∷ 0x00 ∷ 0x00 ∷ 0x08 ∷ 0x00 ∷ 0x00 ∷ 0x74 ∷ 0x80 ∷ 0x10 ∷ 0x00 ∷ 0x01 ∷ []

abbrev quiet_table : List Row
quiet_table =
    -- 40 pairs in table 0
    wholly (quiet_by 0xA3 0x00) (read []) ∷
    -- tables 0 and 1, which change at 6: three pairs, and four
    wholly (quiet_by 0x0F 0x40) (read []) ∷
    wholly (quiet_by 0x13 0x40) (stopped PairOverrun) ∷
    -- 22 comes first
    with (frame1_with side_lost (replicate 75 0x00)) (replicate 75 0x00) (stopped FactorOverrun ∷ stopped LostShare ∷ []) ∷
    []

-- ---- and those of the CRC
-- F with a CRC, other side information and main data
abbrev checked_f : ℕ → ℕ → List ℕ → List ℕ → List ℕ
checked_f c d side main = 0xFF ∷ 0xF2 ∷ 0x14 ∷ 0xC0 ∷ c ∷ d ∷ (side ++ main)

abbrev side_f : List ℕ
side_f = 0x00 ∷ 0x00 ∷ 0x40 ∷ 0x07 ∷ 0x48 ∷ 0x00 ∷ 0x08 ∷ 0x00 ∷ 0x01 ∷ []

-- what a CRC leaves of F's main data
abbrev main_checked : List ℕ
main_checked = 0x7A ∷ replicate 8 0x00

-- 289 pairs
abbrev side289 : List ℕ
side289 = 0x00 ∷ 0x00 ∷ 0x44 ∷ 0x87 ∷ 0x48 ∷ 0x00 ∷ 0x00 ∷ 0x00 ∷ 0x01 ∷ []

-- MPEG-1 in two channels: 32 bytes of side information, the last of them n
abbrev stereo : ℕ → List ℕ
stereo n =
    0xFF ∷ 0xFA ∷ 0x90 ∷ 0x00 ∷ 0xFF ∷ 0x17 ∷
    (0x00 ∷ 0x00 ∷ 0x00 ∷ 0x00 ∷ 0x00 ∷ 0x69 ∷ 0x00 ∷ 0x00 ∷ 0x00 ∷ 0x02 ∷ 0x00 ∷ 0x00 ∷ 0x0D ∷ 0x20 ∷ 0x00 ∷ 0x00 ∷
    0x00 ∷ 0x40 ∷ 0x00 ∷ 0x01 ∷ 0xA4 ∷ 0x00 ∷ 0x00 ∷ 0x00 ∷ 0x08 ∷ 0x00 ∷ 0x00 ∷ 0x34 ∷ 0x80 ∷ 0x00 ∷ 0x00 ∷ n ∷ replicate 379 0x00)

abbrev crc_table : List Row
crc_table =
    with (checked_f 0x5F 0xB1 side_f main_checked) main_checked (read numbers_f ∷ []) ∷
    refused_for (checked_f 0x00 0x00 side_f main_checked) WrongCrc ∷
    with (stereo 0x01) (replicate 379 0x00) (read [] ∷ read [] ∷ read [] ∷ read [] ∷ []) ∷
    refused_for (stereo 0x00) WrongCrc ∷
    -- before 10, whose side information is read only where the CRC fits; before 13; and before the main data is found absent
    refused_for (checked_f 0xDB 0xDB side289 main_checked) WrongCrc ∷
    refused_for (checked_f 0xDB 0xDA side289 main_checked) TooManyPairs ∷
    refused_for (checked_f 0xD9 0xD3 (set side_f 0 0x01) main_checked) WrongCrc ∷
    refused_for (checked_f 0x5F 0xB2 side_f []) WrongCrc ∷
    -- after the bytes that it covers
    refused_for (checked_f 0x5F 0xB2 (take 8 side_f) []) (AbsentBytes 14) ∷
    []

abbrev pub table : List Row
table = plain_table ++ added_table ++ quiet_table ++ crc_table

-- F's slot from other main data than its own
unfoldable pub slots_by : List ℕ → List ℕ → List Outcome
unfolding step
slots_by s main = slots_of (step_header (step s [])) (step_info (step s [])) main

unfoldable pub ordered : SampleRate → Shape → List ℤ → List ℤ
unfolding reordered_from gathered order_of order_from band_order short_rows short_start
ordered rate k d = reordered_from rate (first_short k) d

-- a row is so
abbrev pub IsSo : Row → Type 0
IsSo (of_frame s old v os k) = (step_verdict (step s old) ≡ v) × (step_slots (step s old) ≡ os) × (step_kept (step s old) ≡ k)
IsSo (of_main s main os) = slots_by s main ≡ os
IsSo (of_order rate k before after) = (rest : List ℤ) → take (length after) (ordered rate k (before ++ rest)) ≡ after

-- and all of them are
abbrev pub AllSo : (Row → Type 0) → List Row → Type 0
AllSo P [] = Unit {0}
AllSo P (r ∷ rs) = P r × AllSo P rs

all_append : (P : Row → Type 0) (rs ss : List Row) → AllSo P rs → AllSo P ss → AllSo P (rs ++ ss)
all_append P [] ss a b = b
all_append P (r ∷ rs) ss a b = (a.0, all_append P rs ss a.1 b)

plain_so : AllSo IsSo plain_table
unfolding step slots_by ordered up_from
plain_so = (
  (refl, refl, refl),
  (
    (refl, refl, refl),
    (
      (refl, refl, refl),
      (
        (refl, refl, refl),
        (
          (refl, refl, refl),
          (
            (refl, refl, refl),
            (
              refl,
              (
                refl,
                (
                  (refl, refl, refl),
                  (
                    (refl, refl, refl),
                    (
                      (refl, refl, refl),
                      (
                        (refl, refl, refl),
                        ((refl, refl, refl), ((refl, refl, refl), ((refl, refl, refl), ((refl, refl, refl), ((refl, refl, refl), (λ rest. refl, tt)))))),
                      ),
                    ),
                  ),
                ),
              ),
            ),
          ),
        ),
      ),
    ),
  ),
)

added-so : AllSo IsSo added_table
unfolding step ordered up_from
added-so = (
  (refl, refl, refl),
  (
    (refl, refl, refl),
    (
      (refl, refl, refl),
      (
        (refl, refl, refl),
        ((refl, refl, refl), ((refl, refl, refl), ((refl, refl, refl), ((refl, refl, refl), (λ rest. refl, tt))))),
      ),
    ),
  ),
)

quiet-so : AllSo IsSo quiet_table
unfolding step
quiet-so = ((refl, refl, refl), ((refl, refl, refl), ((refl, refl, refl), ((refl, refl, refl), tt))))

crc_so : AllSo IsSo crc_table
unfolding step
crc_so = (
  (refl, refl, refl),
  (
    (refl, refl, refl),
    (
      (refl, refl, refl),
      (
        (refl, refl, refl),
        ((refl, refl, refl), ((refl, refl, refl), ((refl, refl, refl), ((refl, refl, refl), ((refl, refl, refl), tt))))),
      ),
    ),
  ),
)

pub starred : AllSo IsSo table
starred =
    all_append IsSo (plain_table ++ added_table ++ quiet_table) crc_table
    (all_append IsSo (plain_table ++ added_table) quiet_table (all_append IsSo plain_table added_table plain_so added-so) quiet-so) crc_so

-- the check words that are published for this polynomial so started: of the nine digits 1 to 9 in ASCII, and of none
pub nine_digits : value (check_word (bits (0x31 ∷ 0x32 ∷ 0x33 ∷ 0x34 ∷ 0x35 ∷ 0x36 ∷ 0x37 ∷ 0x38 ∷ 0x39 ∷ []) 0 72)) ≡ 0xAEE7
unfolding value value_from bits bit_at check_word fed feed added taps differ
nine_digits = refl

pub no_bits : value (check_word []) ≡ 0xFFFF
unfolding value value_from check_word fed
no_bits = refl

-- ---- the other rows: after the frame that was refused by 13
pub then_begin_11 : step_slots (step (reaching_back 11) main_f) ≡ read numbers_f ∷ []
unfolding step
then_begin_11 = refl

pub then_begin_12 : step_verdict (step (reaching_back 12) main_f) ≡ Err ShortReservoir
unfolding step
then_begin_12 = refl

-- of a longer reservoir it is the last bytes that count
pub begin_11_of_12 : step_slots (step (reaching_back 11) (0xFF ∷ main_f)) ≡ read numbers_f ∷ []
unfolding step
begin_11_of_12 = refl

-- a header alone: its frame length and main data size
unfoldable pub sizes : List ℕ → ℕ × ℕ
unfolding step told_or
sizes s = (frame_length (told_or no_header (header_of s)), main_size (told_or no_header (header_of s)))

pub fffb9000 : sizes (0xFF ∷ 0xFB ∷ 0x90 ∷ 0x00 ∷ []) ≡ (417, 381)
unfolding sizes
fffb9000 = refl

-- big_values: the last three bits of byte 6 and the first six of byte 7
pub big_values_288 : verdict (set (set frame_f 6 0x44) 7 0x83) ≡ Ok tt
unfolding verdict
big_values_288 = refl

pub big_values_289 : verdict (set (set frame_f 6 0x44) 7 0x87) ≡ Err TooManyPairs
unfolding verdict
big_values_289 = refl

-- region0_count 15, the last bit of byte 11 and the first three of byte 12; then region1_count 5 and 6
pub regions_20 : slots (set (set frame_f 11 0x01) 12 0xF5) ≡ read numbers_f ∷ []
unfolding slots
regions_20 = refl

pub regions_21 : slots (set (set frame_f 11 0x01) 12 0xF9) ≡ read numbers_f ∷ []
unfolding slots
regions_21 = refl

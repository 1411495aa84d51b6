-- A slot's scale factors (11172-3, 2.4.1.7 and 2.4.2.7; 13818-3, 2.4.3.2), from exactly its own bits. A plan says of each factor in turn
-- where it comes from; one rule reads any plan.
use Rattle.std.specs.Prelude.{Bool, true, false, List, [], ◌∷◌, ◌++◌, ℕ, zero, suc, ◌+◌, ◌-◌, ◌%◌, get_or, take, drop, replicate}
use Rattle.standard.specs.Told.{pick}
use Rattle.standard.specs.Bits.{value}
use Rattle.standard.specs.Lengths.{slen1, slen2, low_lengths, low_counts}
use Rattle.standard.specs.Record.{shape_of}
use Rattle.standard.specs.declared.SlotRecord.{SlotRecord}
use Rattle.standard.specs.declared.Setting.{Setting}
use Rattle.standard.specs.declared.Group.{Group}
use Rattle.standard.specs.declared.Plan.{Plan}
use Rattle.standard.specs.declared.Shape.{Shape}
use Rattle.standard.specs.declared.Shape.TheVariants.{AllLong, AllShort, LongThenShort}

-- a factor is granule 0's (scfsi), or has so many bits of the slot
pub data Source : Type 0 where
  shared : Source
  coded : ℕ → Source

-- the bits that it takes
abbrev pub width_of : Source → ℕ
width_of shared = 0
width_of (coded w) = w

-- its factor: granule 0's, or the number that the next bits spell
abbrev pub factor_by : Source → ℕ → List Bool → ℕ
factor_by shared old b = old
factor_by (coded w) old b = value (take w b)

-- ---- the plan of a slot: four groups in turn, the g-th of the g-th count, length and sharing bit
abbrev pub group_at : List ℕ → List ℕ → List Bool → ℕ → Group
group_at ns ws xs g = record { count = get_or ns g 0; length = get_or ws g 0; shared = get_or xs g false }

abbrev pub planned : List ℕ → List ℕ → List Bool → Plan
planned ns ws xs = record { groups = group_at ns ws xs 0 ∷ group_at ns ws xs 1 ∷ group_at ns ws xs 2 ∷ group_at ns ws xs 3 ∷ [] }

-- MPEG-1: scfsi_band 0 to 3 are the long factors from 0, 6, 11 and 16 on; short bands 0 to 5 have the first length, 6 to 11 the second; a mixed block
-- has eight long factors and bands 3 to 5 of the first length, and 6 to 11 of the second.
-- `intensity` says whether this is the second channel under intensity stereo, of MPEG-2, where nothing is shared. There scalefac_compress has 9
-- bits: only those are looked at, so that a made-up record, whose number may have 16, has lengths of at most 5 bits too
unfoldable pub plan_by : Bool → Bool → List Bool → Shape → ℕ → Plan
plan_by true intensity shares AllLong c = planned (6 ∷ 5 ∷ 5 ∷ 5 ∷ []) (slen1 c ∷ slen1 c ∷ slen2 c ∷ slen2 c ∷ []) shares
plan_by true intensity shares AllShort c = planned (18 ∷ 18 ∷ 0 ∷ 0 ∷ []) (slen1 c ∷ slen2 c ∷ 0 ∷ 0 ∷ []) (replicate 4 false)
plan_by true intensity shares LongThenShort c = planned (8 ∷ 9 ∷ 18 ∷ 0 ∷ []) (slen1 c ∷ slen1 c ∷ slen2 c ∷ 0 ∷ []) (replicate 4 false)
plan_by false intensity shares k c = planned (low_counts intensity k (c % 512)) (low_lengths intensity (c % 512)) (replicate 4 false)

unfoldable pub plan_of : Setting → SlotRecord → Plan
plan_of g r = plan_by g.mpeg1 g.intensity g.shares (shape_of r) r.scalefac_compress

-- only slots of long bands alone share with granule 0 (scfsi)
abbrev pub may_share : Shape → Bool
may_share AllLong = true
may_share AllShort = false
may_share LongThenShort = false

-- where each factor comes from: so many from one source for each group
abbrev pub source_of : Group → Source
source_of g = pick g.shared shared (coded g.length)

unfoldable pub group : Group → List Source
group g = replicate g.count (source_of g)

-- groups in turn
unfoldable pub groups_from : List Group → List Source
groups_from [] = []
groups_from (g ∷ gs) = group g ++ groups_from gs

abbrev pub sources_of : Plan → List Source
sources_of p = groups_from p.groups

-- the bits of a plan (part2_length)
unfoldable pub plan_bits : List Source → ℕ
plan_bits [] = 0
plan_bits (shared ∷ ps) = plan_bits ps
plan_bits (coded w ∷ ps) = w + plan_bits ps

-- the factors of a plan, granule 0's being `old`
unfoldable pub factors_from : List Source → List ℕ → List Bool → List ℕ
factors_from [] old b = []
factors_from (shared ∷ ps) old b = get_or old 0 0 ∷ factors_from ps (drop 1 old) b
factors_from (coded w ∷ ps) old b = value (take w b) ∷ factors_from ps (drop 1 old) (drop w b)

-- ---- 22 long factors and 39 short ones, three to a band; what isn't read is 0
-- the long factors of a mixed block: those of the bands before number 36, of which MPEG-1 has more
abbrev mixed_long : Bool → ℕ
mixed_long true = 8
mixed_long false = 6

-- how many are long, in either version: they are read first
abbrev pub long_count : Bool → Shape → ℕ
long_count mpeg1 AllLong = 21
long_count mpeg1 AllShort = 0
long_count mpeg1 LongThenShort = mixed_long mpeg1

-- how many are short, and the place of the first of them: bands 0 to 11, and in a mixed block 3 to 11
abbrev pub short_count : Shape → ℕ
short_count AllLong = 0
short_count AllShort = 36
short_count LongThenShort = 27

abbrev pub short_from : Shape → ℕ
short_from AllLong = 0
short_from AllShort = 0
short_from LongThenShort = 9

-- so many in all
abbrev pub factor_count : Bool → Shape → ℕ
factor_count mpeg1 k = long_count mpeg1 k + short_count k

unfoldable pub long_factors : Bool → Shape → List ℕ → List ℕ
long_factors mpeg1 k fs = take (long_count mpeg1 k) fs ++ replicate (22 - long_count mpeg1 k) 0

unfoldable pub short_factors : Bool → Shape → List ℕ → List ℕ
short_factors mpeg1 k fs = replicate (short_from k) 0 ++ drop (long_count mpeg1 k) fs ++ replicate (39 - (short_from k + short_count k)) 0

-- n bands of three windows
unfoldable pub bands_of : ℕ → List ℕ → List (List ℕ)
bands_of zero fs = []
bands_of (suc n) fs = take 3 fs ∷ bands_of n (drop 3 fs)

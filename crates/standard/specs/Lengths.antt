-- How many bits a scale factor has, and how many factors have so many (11172-3, 2.4.2.7, scalefac_compress; 13818-3, 2.4.3.2).
use Rattle.std.specs.Prelude.{Bool, true, false, List, [], ◌∷◌, ℕ, ◌-◌, ◌/◌, ◌%◌, ltb, get_or}
use Rattle.standard.specs.Told.{pick}
use Rattle.standard.specs.declared.Shape.{Shape}
use Rattle.standard.specs.declared.Shape.TheVariants.{AllLong, AllShort, LongThenShort}

-- MPEG-1: slen1 and slen2 of scalefac_compress 0 to 15
unfoldable pub slen_rows : List (List ℕ)
slen_rows =
    (0 ∷ 0 ∷ []) ∷
    (0 ∷ 1 ∷ []) ∷
    (0 ∷ 2 ∷ []) ∷
    (0 ∷ 3 ∷ []) ∷
    (3 ∷ 0 ∷ []) ∷
    (1 ∷ 1 ∷ []) ∷
    (1 ∷ 2 ∷ []) ∷
    (1 ∷ 3 ∷ []) ∷
    (2 ∷ 1 ∷ []) ∷
    (2 ∷ 2 ∷ []) ∷
    (2 ∷ 3 ∷ []) ∷
    (3 ∷ 1 ∷ []) ∷
    (3 ∷ 2 ∷ []) ∷
    (3 ∷ 3 ∷ []) ∷
    (4 ∷ 2 ∷ []) ∷
    (4 ∷ 3 ∷ []) ∷
    []

-- 0 for a number that has no line
unfoldable pub slen1 : ℕ → ℕ
slen1 c = get_or (get_or slen_rows c []) 0 0

unfoldable pub slen2 : ℕ → ℕ
slen2 c = get_or (get_or slen_rows c []) 1 0

-- MPEG-2: a number falls into three ranges
unfoldable pub range_in : ℕ → ℕ → ℕ → ℕ
range_in first second c = pick (ltb c first) 0 (pick (ltb c second) 1 2)

-- the range of scalefac_compress. The second channel under intensity stereo goes by half of it
unfoldable pub low_range : Bool → ℕ → ℕ
low_range false c = range_in 400 500 c
low_range true c = range_in 180 244 (c / 2)

-- the four lengths slen1 to slen4
unfoldable pub ordinary_lengths : ℕ → List ℕ
ordinary_lengths c =
    pick (ltb c 400) (c / 80 ∷ c / 16 % 5 ∷ c % 16 / 4 ∷ c % 4 ∷ [])
    (pick (ltb c 500) ((c - 400) / 20 ∷ (c - 400) / 4 % 5 ∷ (c - 400) % 4 ∷ 0 ∷ [])
    ((c - 500) / 3 ∷ (c - 500) % 3 ∷ 0 ∷ 0 ∷ []))

unfoldable pub intensity_lengths : ℕ → List ℕ
intensity_lengths c =
    pick (ltb c 180) (c / 36 ∷ c % 36 / 6 ∷ c % 6 ∷ 0 ∷ [])
    (pick (ltb c 244) ((c - 180) % 64 / 16 ∷ (c - 180) % 16 / 4 ∷ (c - 180) % 4 ∷ 0 ∷ [])
    ((c - 244) / 3 ∷ (c - 244) % 3 ∷ 0 ∷ 0 ∷ []))

unfoldable pub low_lengths : Bool → ℕ → List ℕ
low_lengths false c = ordinary_lengths c
low_lengths true c = intensity_lengths (c / 2)

-- ---- how many factors have each of the four lengths, a line for each range of scalefac_compress
unfoldable pub long_counts : List (List ℕ)
long_counts =
    (6 ∷ 5 ∷ 5 ∷ 5 ∷ []) ∷
    (6 ∷ 5 ∷ 7 ∷ 3 ∷ []) ∷
    (11 ∷ 10 ∷ 0 ∷ 0 ∷ []) ∷
    []

-- three windows to each short band
unfoldable pub short_counts : List (List ℕ)
short_counts =
    (9 ∷ 9 ∷ 9 ∷ 9 ∷ []) ∷
    (9 ∷ 9 ∷ 12 ∷ 6 ∷ []) ∷
    (18 ∷ 18 ∷ 0 ∷ 0 ∷ []) ∷
    []

-- six long ones and the nine short bands from the fourth on, in turn: a group may have both
unfoldable pub mixed_counts : List (List ℕ)
mixed_counts =
    (6 ∷ 9 ∷ 9 ∷ 9 ∷ []) ∷
    (6 ∷ 9 ∷ 12 ∷ 6 ∷ []) ∷
    (15 ∷ 18 ∷ 0 ∷ 0 ∷ []) ∷
    []

-- and for the second channel under intensity stereo
unfoldable pub intensity_long_counts : List (List ℕ)
intensity_long_counts =
    (7 ∷ 7 ∷ 7 ∷ 0 ∷ []) ∷
    (6 ∷ 6 ∷ 6 ∷ 3 ∷ []) ∷
    (8 ∷ 8 ∷ 5 ∷ 0 ∷ []) ∷
    []

unfoldable pub intensity_short_counts : List (List ℕ)
intensity_short_counts =
    (12 ∷ 12 ∷ 12 ∷ 0 ∷ []) ∷
    (12 ∷ 9 ∷ 9 ∷ 6 ∷ []) ∷
    (15 ∷ 12 ∷ 9 ∷ 0 ∷ []) ∷
    []

unfoldable pub intensity_mixed_counts : List (List ℕ)
intensity_mixed_counts =
    (6 ∷ 15 ∷ 12 ∷ 0 ∷ []) ∷
    (6 ∷ 12 ∷ 9 ∷ 6 ∷ []) ∷
    (6 ∷ 18 ∷ 9 ∷ 0 ∷ []) ∷
    []

abbrev pub count_rows : Bool → Shape → List (List ℕ)
count_rows false AllLong = long_counts
count_rows false AllShort = short_counts
count_rows false LongThenShort = mixed_counts
count_rows true AllLong = intensity_long_counts
count_rows true AllShort = intensity_short_counts
count_rows true LongThenShort = intensity_mixed_counts

unfoldable pub low_counts : Bool → Shape → ℕ → List ℕ
low_counts intensity k c = get_or (count_rows intensity k) (low_range intensity c) []

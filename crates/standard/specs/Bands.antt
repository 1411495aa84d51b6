-- Where the scale factor bands start: 11172-3, Table B.8 (44.1, 48 and 32 kHz); 13818-3, Table B.2 (22.05, 24 and 16 kHz); the Rust's rows
-- for MPEG-2.5 (11.025, 12 and 8 kHz).
use Rattle.std.specs.Prelude.{List, [], ◌∷◌, ℕ, get_or}
use Rattle.standard.specs.declared.SampleRate.{SampleRate}
use Rattle.standard.specs.declared.SampleRate.TheVariants.{Hz8000, Hz11025, Hz12000, Hz16000, Hz22050, Hz24000, Hz32000, Hz44100, Hz48000}

-- the row of a rate, in the order of the sampling_frequency field, version by version
abbrev pub row_of : SampleRate → ℕ
row_of Hz44100 = 0
row_of Hz48000 = 1
row_of Hz32000 = 2
row_of Hz22050 = 3
row_of Hz24000 = 4
row_of Hz16000 = 5
row_of Hz11025 = 6
row_of Hz12000 = 7
row_of Hz8000 = 8

-- long blocks: 22 bands, and where the last ends
unfoldable pub long_rows : List (List ℕ)
long_rows =
    (0 ∷ 4 ∷ 8 ∷ 12 ∷ 16 ∷ 20 ∷ 24 ∷ 30 ∷ 36 ∷ 44 ∷ 52 ∷ 62 ∷ 74 ∷ 90 ∷ 110 ∷ 134 ∷ 162 ∷ 196 ∷ 238 ∷ 288 ∷ 342 ∷ 418 ∷ 576 ∷ []) ∷
    (0 ∷ 4 ∷ 8 ∷ 12 ∷ 16 ∷ 20 ∷ 24 ∷ 30 ∷ 36 ∷ 42 ∷ 50 ∷ 60 ∷ 72 ∷ 88 ∷ 106 ∷ 128 ∷ 156 ∷ 190 ∷ 230 ∷ 276 ∷ 330 ∷ 384 ∷ 576 ∷ []) ∷
    (0 ∷ 4 ∷ 8 ∷ 12 ∷ 16 ∷ 20 ∷ 24 ∷ 30 ∷ 36 ∷ 44 ∷ 54 ∷ 66 ∷ 82 ∷ 102 ∷ 126 ∷ 156 ∷ 194 ∷ 240 ∷ 296 ∷ 364 ∷ 448 ∷ 550 ∷ 576 ∷ []) ∷
    (0 ∷ 6 ∷ 12 ∷ 18 ∷ 24 ∷ 30 ∷ 36 ∷ 44 ∷ 54 ∷ 66 ∷ 80 ∷ 96 ∷ 116 ∷ 140 ∷ 168 ∷ 200 ∷ 238 ∷ 284 ∷ 336 ∷ 396 ∷ 464 ∷ 522 ∷ 576 ∷ []) ∷
    (0 ∷ 6 ∷ 12 ∷ 18 ∷ 24 ∷ 30 ∷ 36 ∷ 44 ∷ 54 ∷ 66 ∷ 80 ∷ 96 ∷ 114 ∷ 136 ∷ 162 ∷ 194 ∷ 232 ∷ 278 ∷ 332 ∷ 394 ∷ 464 ∷ 540 ∷ 576 ∷ []) ∷
    (0 ∷ 6 ∷ 12 ∷ 18 ∷ 24 ∷ 30 ∷ 36 ∷ 44 ∷ 54 ∷ 66 ∷ 80 ∷ 96 ∷ 116 ∷ 140 ∷ 168 ∷ 200 ∷ 238 ∷ 284 ∷ 336 ∷ 396 ∷ 464 ∷ 522 ∷ 576 ∷ []) ∷
    (0 ∷ 6 ∷ 12 ∷ 18 ∷ 24 ∷ 30 ∷ 36 ∷ 44 ∷ 54 ∷ 66 ∷ 80 ∷ 96 ∷ 116 ∷ 140 ∷ 168 ∷ 200 ∷ 238 ∷ 284 ∷ 336 ∷ 396 ∷ 464 ∷ 522 ∷ 576 ∷ []) ∷
    (0 ∷ 6 ∷ 12 ∷ 18 ∷ 24 ∷ 30 ∷ 36 ∷ 44 ∷ 54 ∷ 66 ∷ 80 ∷ 96 ∷ 116 ∷ 140 ∷ 168 ∷ 200 ∷ 238 ∷ 284 ∷ 336 ∷ 396 ∷ 464 ∷ 522 ∷ 576 ∷ []) ∷
    (0 ∷ 12 ∷ 24 ∷ 36 ∷ 48 ∷ 60 ∷ 72 ∷ 88 ∷ 108 ∷ 132 ∷ 160 ∷ 192 ∷ 232 ∷ 280 ∷ 336 ∷ 400 ∷ 476 ∷ 566 ∷ 568 ∷ 570 ∷ 572 ∷ 574 ∷ 576 ∷ []) ∷
    []

-- short blocks: 13 bands of one window, and where the last ends
unfoldable pub short_rows : List (List ℕ)
short_rows =
    (0 ∷ 4 ∷ 8 ∷ 12 ∷ 16 ∷ 22 ∷ 30 ∷ 40 ∷ 52 ∷ 66 ∷ 84 ∷ 106 ∷ 136 ∷ 192 ∷ []) ∷
    (0 ∷ 4 ∷ 8 ∷ 12 ∷ 16 ∷ 22 ∷ 28 ∷ 38 ∷ 50 ∷ 64 ∷ 80 ∷ 100 ∷ 126 ∷ 192 ∷ []) ∷
    (0 ∷ 4 ∷ 8 ∷ 12 ∷ 16 ∷ 22 ∷ 30 ∷ 42 ∷ 58 ∷ 78 ∷ 104 ∷ 138 ∷ 180 ∷ 192 ∷ []) ∷
    (0 ∷ 4 ∷ 8 ∷ 12 ∷ 18 ∷ 24 ∷ 32 ∷ 42 ∷ 56 ∷ 74 ∷ 100 ∷ 132 ∷ 174 ∷ 192 ∷ []) ∷
    (0 ∷ 4 ∷ 8 ∷ 12 ∷ 18 ∷ 26 ∷ 36 ∷ 48 ∷ 62 ∷ 80 ∷ 104 ∷ 136 ∷ 180 ∷ 192 ∷ []) ∷
    (0 ∷ 4 ∷ 8 ∷ 12 ∷ 18 ∷ 26 ∷ 36 ∷ 48 ∷ 62 ∷ 80 ∷ 104 ∷ 134 ∷ 174 ∷ 192 ∷ []) ∷
    (0 ∷ 4 ∷ 8 ∷ 12 ∷ 18 ∷ 26 ∷ 36 ∷ 48 ∷ 62 ∷ 80 ∷ 104 ∷ 134 ∷ 174 ∷ 192 ∷ []) ∷
    (0 ∷ 4 ∷ 8 ∷ 12 ∷ 18 ∷ 26 ∷ 36 ∷ 48 ∷ 62 ∷ 80 ∷ 104 ∷ 134 ∷ 174 ∷ 192 ∷ []) ∷
    (0 ∷ 8 ∷ 16 ∷ 24 ∷ 36 ∷ 52 ∷ 72 ∷ 96 ∷ 124 ∷ 160 ∷ 162 ∷ 164 ∷ 166 ∷ 192 ∷ []) ∷
    []

-- the start of the i-th band; past the last, where the last ends
unfoldable pub long_start : SampleRate → ℕ → ℕ
long_start r i = get_or (get_or long_rows (row_of r) []) i 576

unfoldable pub short_start : SampleRate → ℕ → ℕ
short_start r i = get_or (get_or short_rows (row_of r) []) i 192

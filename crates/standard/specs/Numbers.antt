-- A slot's numbers (11172-3, 2.4.1.7 and 2.4.2.7: big_values, count1, linbits, signs; 2.4.3.4), from exactly the bits after its factors.
-- Readers tell how many bits they used; what is left is the rest after so many. `word` reads a codeword of a table: in the definition it is
-- `word_of`, the published code.
use Rattle.std.specs.Prelude.{Bool, true, false, ◌||◌, List, [], ◌∷◌, ◌++◌, ℕ, zero, suc, ◌+◌, ◌-◌, ◌*◌, ◌/◌, ◌%◌, ltb, leb, eqb, ℤ, pos, neg_ℤ, Option, Some, None, Result, Ok, Err, length, get_or, take, drop, replicate}
use Rattle.standard.specs.Sizes.{per_slot}
use Rattle.standard.specs.Told.{pick}
use Rattle.standard.specs.Bits.{value}
use Rattle.standard.specs.Codes.{Codeword, taken, has_codewords, escape_width}
use Rattle.standard.specs.Bands.{long_start}
use Rattle.standard.specs.Record.{shape_of}
use Rattle.standard.specs.declared.SampleRate.{SampleRate}
use Rattle.standard.specs.declared.SlotRecord.{SlotRecord}
use Rattle.standard.specs.declared.Shape.{Shape}
use Rattle.standard.specs.declared.Shape.TheVariants.{AllLong, AllShort, LongThenShort}
use Rattle.standard.specs.declared.Refusal.{Refusal}
use Rattle.standard.specs.declared.Refusal.TheVariants.{PairOverrun, NoCodeword}
use Rattle.standard.specs.declared.Taken.{Taken}
use Rattle.standard.specs.declared.Unread.{Unread}
use Rattle.standard.specs.declared.Unread.TheVariants.{Cut, Alien}
use Rattle.standard.specs.declared.Regions.{Regions}

abbrev pub Reader : Type 0
Reader = ℕ → List Bool → Codeword

-- how large a number is, with the escape bits that say so; or the bits end within them
abbrev pub Magnitude : Type 0
Magnitude = Option (Taken ℕ)

-- a number with its escape and sign bits; or the bits end within them
abbrev pub Number : Type 0
Number = Option (Taken ℤ)

-- a pair with all of its bits, or why the slot is refused there
abbrev pub Pair : Type 0
Pair = Result (Taken (ℤ × ℤ)) Refusal

-- a quad with all of its bits; or one that they cut; or bits that start no quad
abbrev pub Quad : Type 0
Quad = Result (Taken (List ℤ)) Unread

-- ---- 2.4.1.7, Huffmancodebits, has for each pair: hcod; linbitsx where |x| is 15 and the table escapes; signx where x is not 0; linbitsy;
-- signy. For each quad: hcod, then signv, signw, signx, signy, each where its number is not 0. The steps below take them one by one
-- ---- one number
-- where the value is 15, the escape's bits are added (linbits; of a table without escapes there are none)
unfoldable pub escaped : ℕ → List Bool → Magnitude
escaped w b = pick (leb w (length b)) (Some (taken (15 + value (take w b)) w)) None

unfoldable pub magnitude_of : ℕ → ℕ → List Bool → Magnitude
magnitude_of w v b = pick (eqb v 15) (escaped w b) (Some (taken v 0))

unfoldable pub sign_of : Bool → ℕ → ℤ
sign_of true v = neg_ℤ (pos v)
sign_of false v = pos v

-- a sign bit follows, unless the number is 0
unfoldable pub signed : ℕ → List Bool → Number
signed zero b = Some (taken (pos 0) 0)
signed (suc v) [] = None
signed (suc v) (x ∷ b) = Some (taken (sign_of x (suc v)) 1)

unfoldable pub further : ℕ → Number → Number
further u None = None
further u (Some z) = Some (taken z.value (u + z.used))

unfoldable pub then_sign : List Bool → Magnitude → Number
then_sign b None = None
then_sign b (Some m) = further m.used (signed m.value (drop m.used b))

-- the value v with its escape of w bits and its sign
unfoldable pub number_in : ℕ → ℕ → List Bool → Number
number_in w v b = then_sign b (magnitude_of w v b)

-- ---- two numbers, the first with its escape and sign before the second's
unfoldable pub two_last : ℤ → ℕ → Number → Pair
two_last x n None = Err PairOverrun
two_last x n (Some y) = Ok (taken (x, y.value) (n + y.used))

unfoldable pub two_first : ℕ → ℕ → List Bool → Number → Pair
two_first w y b None = Err PairOverrun
two_first w y b (Some x) = two_last x.value x.used (number_in w y (drop x.used b))

unfoldable pub two_of : ℕ → ℕ → ℕ → List Bool → Pair
two_of w x y b = two_first w y b (number_in w x b)

-- ---- a pair of a table: the codeword, then its two numbers
unfoldable pub pair_after : ℕ → Pair → Pair
pair_after n (Err r) = Err r
pair_after n (Ok p) = Ok (taken p.value (n + p.used))

unfoldable pub pair_word : ℕ → List Bool → Codeword → Pair
pair_word w b (Err Cut) = Err PairOverrun
pair_word w b (Err Alien) = Err NoCodeword
pair_word w b (Ok c) = pair_after c.used (two_of w (c.value / 16) (c.value % 16) (drop c.used b))

unfoldable pub pair_of : Reader → ℕ → List Bool → Pair
pair_of word t b = pair_word (escape_width t) b (word t b)

-- ---- a quad of a table: the codeword, then a sign for each 1
unfoldable pub quad_last : ℤ → ℤ → ℕ → Pair → Quad
quad_last v w n (Err r) = Err Cut
quad_last v w n (Ok p) = Ok (taken (v ∷ w ∷ p.value.0 ∷ p.value.1 ∷ []) (n + p.used))

unfoldable pub quad_first : ℕ → ℕ → List Bool → Pair → Quad
quad_first c n b (Err r) = Err Cut
quad_first c n b (Ok p) = quad_last p.value.0 p.value.1 (n + p.used) (two_of 0 (c / 2 % 2) (c % 2) (drop p.used b))

unfoldable pub quad_word : List Bool → Codeword → Quad
quad_word b (Err why) = Err why
quad_word b (Ok c) = quad_first c.value c.used (drop c.used b) (two_of 0 (c.value / 8 % 2) (c.value / 4 % 2) (drop c.used b))

unfoldable pub quad_of : Reader → ℕ → List Bool → Quad
quad_of word t b = quad_word b (word t b)

-- table A or B (count1table_select)
abbrev pub quad_table : Bool → ℕ
quad_table false = 32
quad_table true = 33

-- ---- which table a pair is of, by its position: the regions. Where there are short bands the tables change at 36 only, at every rate
abbrev pub window_regions : Regions
window_regions = record { first = 36; second = per_slot }

-- those of long bands end where the bands of region0_count and region1_count do; counts that run off the end leave no third region, since past the
-- last band stands the end of the spectrum
unfoldable pub regions_by : Shape → SampleRate → SlotRecord → Regions
regions_by AllLong rate r =
    record { first = long_start rate (r.region0_count + 1); second = long_start rate (r.region0_count + r.region1_count + 2) }
regions_by AllShort rate r = window_regions
regions_by LongThenShort rate r = window_regions

abbrev pub regions_of : SampleRate → SlotRecord → Regions
regions_of rate r = regions_by (shape_of r) rate r

unfoldable pub table_at : ℕ → ℕ → List ℕ → ℕ → ℕ
table_at first second tables position =
    pick (ltb position first) (get_or tables 0 0)
    (pick (ltb position second) (get_or tables 1 0) (get_or tables 2 0))

abbrev pub table_of : SampleRate → SlotRecord → ℕ → ℕ
table_of rate r = table_at (regions_of rate r).first (regions_of rate r).second r.table_select

-- whether one of n pairs from the k-th on falls in a table with codewords
unfoldable pub any_coded : (ℕ → ℕ) → ℕ → ℕ → Bool
any_coded table k zero = false
any_coded table k (suc n) = has_codewords (table (2 * k)) || any_coded table (suc k) n

-- ---- many: refused for a reason, or the numbers and the bits left
pub data Numbers : Type 0 where
  halted : Refusal → Numbers
  got : List ℤ → List Bool → Numbers

unfoldable pub prepend : List ℤ → Numbers → Numbers
prepend vs (halted r) = halted r
prepend vs (got ws b) = got (vs ++ ws) b

unfoldable pub then_pairs : Pair → (ℕ → Numbers) → Numbers
then_pairs (Err r) rest = halted r
then_pairs (Ok p) rest = prepend (p.value.0 ∷ p.value.1 ∷ []) (rest p.used)

-- n pairs from the k-th on, `table` giving the table at a position
unfoldable pub pairs : Reader → (ℕ → ℕ) → ℕ → ℕ → List Bool → Numbers
pairs word table k zero b = got [] b
pairs word table k (suc n) b = then_pairs (pair_of word (table (2 * k)) b) (λ (u : ℕ). pairs word table (suc k) n (drop u b))

-- a quad that does not end within the bits is dropped, and nothing is read after it
unfoldable pub then_quads : Quad → (ℕ → Numbers) → Numbers
then_quads (Err Alien) rest = halted NoCodeword
then_quads (Err Cut) rest = got [] []
then_quads (Ok q) rest = prepend q.value (rest q.used)

-- at most n quads, as long as bits are left
unfoldable pub quads : Reader → ℕ → ℕ → List Bool → Numbers
quads word t zero b = got [] b
quads word t (suc n) [] = got [] []
quads word t (suc n) (x ∷ b) = then_quads (quad_of word t (x ∷ b)) (λ (u : ℕ). quads word t n (drop u (x ∷ b)))

-- quads as long as four numbers fit among the 576
unfoldable pub then_rest : Reader → ℕ → ℕ → Numbers → Numbers
then_rest word t n (halted r) = halted r
then_rest word t n (got vs b) = prepend vs (quads word t ((per_slot - 2 * n) / 4) b)

unfoldable pub numbers_by : Reader → SlotRecord → Regions → List Bool → Numbers
numbers_by word r g b =
    then_rest word (quad_table r.count1table_select) r.big_values
    (pairs word (table_at g.first g.second r.table_select) 0 r.big_values b)

-- with no bits the pairs are read as ever, and one with a codeword does not end; where all are of tables without one, nothing was coded
unfoldable pub quiet : Numbers → Numbers
quiet (halted k) = halted k
quiet (got vs b) = got [] []

unfoldable pub numbers_of : Reader → SampleRate → SlotRecord → List Bool → Numbers
numbers_of word rate r [] = quiet (numbers_by word r (regions_of rate r) [])
numbers_of word rate r (a ∷ b) = numbers_by word r (regions_of rate r) (a ∷ b)

-- 576 numbers: those that were read, then zeros
unfoldable pub padded : List ℤ → List ℤ
padded vs = vs ++ replicate (per_slot - length vs) (pos 0)

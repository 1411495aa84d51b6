-- What the program `slots` prints (docs/RULES.md), in ASCII. A slot that the frame lacks prints nothing.
use Rattle.std.specs.Prelude.{Bool, List, [], ◌∷◌, ◌++◌, ℕ, ◌+◌, ◌*◌, ◌/◌, ◌%◌, ℤ, take, drop}
use Rattle.standard.specs.Sizes.{per_slot}
use Rattle.standard.specs.Told.{pick}
use Rattle.standard.specs.Refusals.{number_of}
use Rattle.lines.specs.Text.{decimal_of, signed_of}
use Rattle.standard.specs.declared.SlotAnswer.{SlotAnswer}
use Rattle.standard.specs.declared.SlotAnswer.TheVariants.{Read, NotRead, Lacking}

-- "frame N length L"
unfoldable pub frame_line : ℕ → ℕ → List ℕ
frame_line n l =
    (102 ∷ 114 ∷ 97 ∷ 109 ∷ 101 ∷ 32 ∷ []) ++ decimal_of n ++ (32 ∷ 108 ∷ 101 ∷ 110 ∷ 103 ∷ 116 ∷ 104 ∷ 32 ∷ []) ++ decimal_of l ++ (10 ∷ [])

-- "frame N refused K"
unfoldable pub refused_line : ℕ → ℕ → List ℕ
refused_line n k =
    (102 ∷ 114 ∷ 97 ∷ 109 ∷ 101 ∷ 32 ∷ []) ++ decimal_of n ++ (32 ∷ 114 ∷ 101 ∷ 102 ∷ 117 ∷ 115 ∷ 101 ∷ 100 ∷ 32 ∷ []) ++ decimal_of k ++ (10 ∷ [])

-- "end N"
unfoldable pub end_line : ℕ → List ℕ
end_line n = (101 ∷ 110 ∷ 100 ∷ 32 ∷ []) ++ decimal_of n ++ (10 ∷ [])

-- ---- slots
-- "slot G C "
unfoldable pub slot_start : ℕ → ℕ → List ℕ
slot_start g c = (115 ∷ 108 ∷ 111 ∷ 116 ∷ 32 ∷ []) ++ decimal_of g ++ (32 ∷ []) ++ decimal_of c ++ (32 ∷ [])

-- each number after a blank
unfoldable pub numbers_text : List ℤ → List ℕ
numbers_text [] = []
numbers_text (z ∷ zs) = 32 ∷ (signed_of z ++ numbers_text zs)

-- "count N: x y .."; the numbers stop at the count
unfoldable pub read_end : ℕ → List ℤ → List ℕ
read_end n vs = (99 ∷ 111 ∷ 117 ∷ 110 ∷ 116 ∷ 32 ∷ []) ++ decimal_of n ++ (58 ∷ []) ++ numbers_text vs ++ (10 ∷ [])

-- "refused K"
unfoldable pub not_read_end : ℕ → List ℕ
not_read_end k = (114 ∷ 101 ∷ 102 ∷ 117 ∷ 115 ∷ 101 ∷ 100 ∷ 32 ∷ []) ++ decimal_of k ++ (10 ∷ [])

-- slot n of a frame with two channels, or with one; its numbers are those from 576 n on, up to its count
unfoldable pub slot_line : Bool → ℕ → SlotAnswer → List ℤ → List ℕ
slot_line two n Lacking vs = []
slot_line two n (NotRead r) vs = slot_start (pick two (n / 2) n) (pick two (n % 2) 0) ++ not_read_end (number_of r)
slot_line two n (Read k long short) vs = slot_start (pick two (n / 2) n) (pick two (n % 2) 0) ++ read_end k (take k (drop (per_slot * n) vs))

-- the slots of a list, from the n-th on
unfoldable pub slot_lines : Bool → ℕ → List SlotAnswer → List ℤ → List ℕ
slot_lines two n [] vs = []
slot_lines two n (s ∷ ss) vs = slot_line two n s vs ++ slot_lines two (n + 1) ss vs

-- the four slots of a frame's answer
unfoldable pub slots_text : Bool → SlotAnswer → SlotAnswer → SlotAnswer → SlotAnswer → List ℤ → List ℕ
slots_text two a b c d vs = slot_line two 0 a vs ++ slot_line two 1 b vs ++ slot_line two 2 c vs ++ slot_line two 3 d vs

-- Whether an odd number of bits are set.
use Rattle.std.specs.Prelude.{Bool, false, List, [], ◌∷◌}
use Rattle.standard.specs.Crc.{differ}

-- after the bit o
unfoldable pub odd_from : Bool → List Bool → Bool
odd_from o [] = o
odd_from o (x ∷ l) = odd_from (differ o x) l

abbrev pub odd_of : List Bool → Bool
odd_of [] = false
odd_of (x ∷ l) = odd_from x l

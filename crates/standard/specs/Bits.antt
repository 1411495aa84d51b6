-- The bits of a list of bytes by place, most significant first (11172-3, 2.4.1: bslbf, uimsbf), and the number that some bits spell.
use Rattle.std.specs.Prelude.{Bool, true, false, List, [], ◌∷◌, ℕ, zero, suc, ◌+◌, ◌-◌, ◌*◌, ◌/◌, ◌%◌, ◌^◌, eqb, get_or, take, drop}

-- the bit at a place; false past the end
unfoldable pub bit_at : List ℕ → ℕ → Bool
bit_at s i = eqb (get_or s (i / 8) 0 / 2 ^ (7 - i % 8) % 2) 1

-- the n bits from a place on
unfoldable pub bits : List ℕ → ℕ → ℕ → List Bool
bits s at zero = []
bits s at (suc n) = bit_at s at ∷ bits s (suc at) n

-- the bits from one place up to another: what a reader that stands at a place of a slot has left
unfoldable pub between : List ℕ → ℕ → ℕ → List Bool
between s at end = bits s at (end - at)

abbrev pub one : Bool → ℕ
one true = 1
one false = 0

-- the number that bits spell, after the number a
unfoldable pub value_from : ℕ → List Bool → ℕ
value_from a [] = a
value_from a (x ∷ b) = value_from (2 * a + one x) b

unfoldable pub value : List Bool → ℕ
value b = value_from 0 b

-- a field of n bits among the bits b, as a number and, of one bit, as a flag
unfoldable pub field : List Bool → ℕ → ℕ → ℕ
field b at n = value (take n (drop at b))

unfoldable pub flag : List Bool → ℕ → Bool
flag b at = eqb (field b at 1) 1

-- a field of n bits of a list of bytes; bits past its end are 0
unfoldable pub field_at : List ℕ → ℕ → ℕ → ℕ
field_at s at n = value (bits s at n)

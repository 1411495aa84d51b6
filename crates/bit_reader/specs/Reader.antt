-- What a reader of lent bytes answers and where it stands then. Its place is a number of 64 bits and counts bits.
use Rattle.std.specs.Prelude.{ℕ, ◌+◌, ◌-◌, ◌^◌, min, List}
use Rattle.std.specs.Borrow.{Bor}
use Rattle.standard.specs.Bits.{field_at}
use Rattle.bit_reader.specs.declared.BitReader.{BitReader}

-- the place n bits on; the largest place, where that lies past it
abbrev pub past : ℕ → ℕ → ℕ
past at n = min (at + n) (2 ^ 64 - 1)

-- at the first bit
abbrev pub begun : Bor (List ℕ) → BitReader
begun bytes = record { bytes = bytes; at = 0 }

-- the field of n bits at a reader's place, the first 16 of them where n is more; bits past the end are 0
abbrev pub here : BitReader → ℕ → ℕ
here r n = field_at r.bytes.now r.at (min n 16)

-- the same bytes, n bits on
abbrev pub ahead : BitReader → ℕ → BitReader
ahead r n = record { bytes = r.bytes; at = past r.at n }

-- The sizes that everything goes by, each with its one name; the code's are the constants of the declared types.
use Rattle.std.specs.Prelude.{ℕ}

-- the numbers of a slot: 32 subbands of 18 (11172-3, 2.4.3.4)
abbrev pub per_slot : ℕ
per_slot = 576

-- and of a frame's four slots
abbrev pub per_frame : ℕ
per_frame = 2304

-- big_values counts pairs, which the numbers of a slot hold so many of
abbrev pub most_big_values : ℕ
most_big_values = 288

-- the bytes lent for a reservoir, at least, and what it may be said to hold, at most (docs/REFUSALS.md, 1)
abbrev pub reservoir_bytes : ℕ
reservoir_bytes = 4096

-- The held part of an input. Everything goes by the unread bytes: which they are in lent bytes, and that sliding and filling keep them.
use Rattle.std.specs.Prelude.{◌≡◌, List, ◌++◌, ℕ, ◌+◌, ◌<◌, ◌≤◌, min, length, take, drop}
use Rattle.input.specs.declared.Held.{Held}
use Rattle.input.specs.declared.Input.{Input}
use Rattle.input.specs.declared.Input.TheVariants.{Open}
use Rattle.input.specs.declared.Source.{Source}

-- the lent bytes from `from` up to `end`
unfoldable pub unread_of : List ℕ → Held → List ℕ
unread_of bytes c = drop c.from (take c.end bytes)

-- n of them are read, or all where there are fewer
unfoldable pub taken_of : Held → ℕ → Held
taken_of c n = record { from = min (c.from + n) c.end; end = c.end }

-- the unread bytes stand at the front, and what lies behind them is as it was
pub record Slid (old : List ℕ) (c r : Held) (left : List ℕ) : Type 0 where
  pub first : r.from ≡ 0
  pub count : r.end ≡ length (unread_of old c)
  pub bytes : left ≡ unread_of old c ++ drop (length (unread_of old c)) old

-- read behind what is held, which stays; the input is open only where all of the lent bytes are filled
pub record ReadOn (old : List ℕ) (c r : Held) (i : Input) (left : List ℕ) : Type 0 where
  pub first : r.from ≡ c.from
  pub more : c.end ≤ r.end
  pub within : r.end ≤ length old
  pub kept : take c.end left ≡ take c.end old
  pub full : i ≡ Open → r.end ≡ length old

-- the unread bytes first, and then as many as were read
pub record FilledUp (old : List ℕ) (c r : Held) (i : Input) (left : List ℕ) : Type 0 where
  pub first : r.from ≡ 0
  pub more : length (unread_of old c) ≤ r.end
  pub within : r.end ≤ length old
  pub kept : take (length (unread_of old c)) left ≡ unread_of old c
  pub full : i ≡ Open → r.end ≡ length old

-- there may be more of the input, and fewer than so many of its bytes are unread
abbrev pub IsShort : {R : Type 0} → Source R → ℕ → Type 0
IsShort s least = (s.input ≡ Open) × (length (unread_of s.piece.now s.held) < least)

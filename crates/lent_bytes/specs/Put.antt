-- Bytes put and moved in lent memory. Bytes that find no room are left out, and nothing else changes.
use Rattle.std.specs.Prelude.{◌≡◌, List, ℕ, ◌+◌, ◌-◌, min, length, drop}
use Rattle.std.proofs.Math.Seq.{paste}

-- how many bytes of a list find room from a place on
unfoldable pub room_for : List ℕ → ℕ → List ℕ → ℕ
room_for old at t = min (length t) (length old - at)

-- bytes were put at a place: r is the place after them, and `left` the lent bytes then
pub record Put (old : List ℕ) (at : ℕ) (t : List ℕ) (r : ℕ) (left : List ℕ) : Type 0 where
  pub next : r ≡ at + room_for old at t
  pub bytes : left ≡ paste old at t (room_for old at t)

-- the n bytes from a place on moved to the front, or as many as are there
unfoldable pub slid_of : List ℕ → ℕ → ℕ → List ℕ
slid_of old from n = paste old 0 (drop from old) (min n (length old - from))

-- The bit reservoir (11172-3, 2.4.2.7, main_data_begin): what a frame's slots are read from, and what is kept for the next frame.
use Rattle.std.specs.Prelude.{◌≡◌, Bool, ◌||◌, List, ◌++◌, ℕ, ◌+◌, ◌-◌, ltb, length, take, drop, Result, Ok, Err}
use Rattle.standard.specs.Sizes.{reservoir_bytes}
use Rattle.standard.specs.Told.{pick, Verdict}
use Rattle.standard.specs.declared.Reservoir.{Reservoir}
use Rattle.standard.specs.declared.Refusal.TheVariants.{UnfitMemory, ShortReservoir}
use Rattle.standard.specs.declared.Refusal.{Refusal}

-- the last main_data_begin bytes of the reservoir, then the frame's main data
unfoldable pub reaching : ℕ → List ℕ → List ℕ → List ℕ
reaching begin old main = drop (length old - begin) old ++ main

-- where too few bytes are there to reach back to, the frame's main data is added to them
unfoldable pub adding : List ℕ → List ℕ → List ℕ
adding old main = old ++ main

-- a frame's turn with the reservoir: too short for it, or reached; and the bytes that are in it then
pub data Turn : Type 0 where
  short : List ℕ → Turn
  reached : List ℕ → Turn

unfoldable pub turn_of : ℕ → List ℕ → List ℕ → Turn
turn_of begin old main = pick (ltb (length old) begin) (short (adding old main)) (reached (reaching begin old main))

-- ---- in lent memory
-- what a frame leaves of it: all as it was, or these bytes from the first on
pub data Kept : Type 0 where
  untouched : Kept
  keeping : List ℕ → Kept

unfoldable pub reservoir_after : Reservoir → Kept → Reservoir
reservoir_after r untouched = r
reservoir_after r (keeping bs) = record { length = length bs }

-- the lent bytes after it: those past the new length keep their values
unfoldable pub bytes_after : List ℕ → Kept → List ℕ
bytes_after lent untouched = lent
bytes_after lent (keeping bs) = bs ++ drop (length bs) lent

-- less than 4,096 bytes lent, or a stated length of more than that
unfoldable pub unfit : List ℕ → ℕ → Bool
unfit lent stated = ltb (length lent) reservoir_bytes || ltb reservoir_bytes stated

-- the call, for any main data and any main_data_begin: where the two together are more than the memory holds, it is refused. A frame's are at most
-- 1,931 bytes
unfoldable pub turn_in : List ℕ → ℕ → ℕ → List ℕ → Result Turn Refusal
turn_in lent stated begin main =
    pick (unfit lent stated || ltb reservoir_bytes (begin + length main)) (Err UnfitMemory) (Ok (turn_of begin (take stated lent) main))

unfoldable pub turn_verdict : Result Turn Refusal → Verdict
turn_verdict (Err r) = Err r
turn_verdict (Ok (short bs)) = Err ShortReservoir
turn_verdict (Ok (reached bs)) = Ok tt

unfoldable pub turn_kept : Result Turn Refusal → Kept
turn_kept (Err k) = untouched
turn_kept (Ok (short bs)) = keeping bs
turn_kept (Ok (reached bs)) = keeping bs

-- what a turn answers, and the reservoir and the lent bytes after it
pub record Turned (lent : List ℕ) (old : Reservoir) (t : Result Turn Refusal) (r : Verdict) (new : Reservoir) (left : List ℕ) : Type 0 where
  pub verdict : r ≡ turn_verdict t
  pub reservoir : new ≡ reservoir_after old (turn_kept t)
  pub bytes : left ≡ bytes_after lent (turn_kept t)

-- the emptying call, for a gap on the card
unfoldable pub emptied : Reservoir
emptied = record { length = 0 }

-- One frame over the memory that is lent for all frames of a card.
use Rattle.std.specs.Prelude.{◌≡◌, List, ℕ, length, Result}
use Rattle.standard.specs.Frame.{frame_call, FrameRead}
use Rattle.standard.specs.declared.Frame.{Frame}
use Rattle.standard.specs.declared.FrameRefusal.{FrameRefusal}
use Rattle.frame.specs.declared.Memory.{Memory}

-- the frame is read as by the call on its parts, and what is lent stays the same memory
pub record MemoryRead (old : Memory) (s : List ℕ) (r : Result Frame FrameRefusal) (new : Memory) : Type 0 where
  pub lent_bytes : new.bytes.ghost_name ≡ old.bytes.ghost_name
  pub lent_numbers : new.numbers.ghost_name ≡ old.numbers.ghost_name
  pub step : FrameRead old.bytes.now old.reservoir old.numbers.now
      (frame_call s old.bytes.now old.reservoir.length (length old.numbers.now)) r new.reservoir new.bytes.now new.numbers.now

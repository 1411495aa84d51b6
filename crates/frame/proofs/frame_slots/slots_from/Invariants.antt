-- `slots_from` meets its contract. The loop's invariant: what the slots before the k-th came to is answered, and the rest of the definition
-- remains. Assumes nothing.
use mathlib.Core.Path.{◌≡◌}
use Prim.Native.Nat.{◌-◌, ◌*◌, ◌≤◌}
use Rattle.standard.specs.Header.{granules, channel_count}
use Rattle.frame.proofs.Turns.{Turning}
use Rattle.frame.proofs.frame_slots.slots_from.Given as goal

abbrev pub invariant-loop-k : goal.invariant-loop-k
invariant-loop-k l = (l.n ≡ granules l.h * channel_count l.h) × (l.channels ≡ channel_count l.h) × Turning l.h l.i l.main l.initial.numbers l.numbers l.answers l.at l.k

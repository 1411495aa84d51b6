-- What a frame answers, its numbers, and the reservoir's valid bytes after it depend on the lent reservoir's first `length` bytes alone: whatever
-- stands past them, two calls that agree there, on the frame, on the numbers, and on whether enough bytes are lent, come to the same.
-- Proved over the promise of process_frame, from StepLaws of `standard` (stated-only).
use Rattle.std.specs.Prelude.{Result}
use mathlib.Core.Path.{◌≡◌, refl, sym, ap, ◌∙◌}
use mathlib.Core.List.{List}
use Prim.Native.Nat.{ℕ}
use lib.Dec.{ltb}
use lib.IntN.{ℤ}
use lib.ListN.{length, take, drop}
use lib.Seq.{take_at}
use Rattle.standard.specs.Sizes.{reservoir_bytes}
use Rattle.standard.specs.Reservoir.{Kept, untouched, keeping, bytes_after as bytesKept, reservoir_after}
use Rattle.standard.specs.Slots.{numbers_from}
use Rattle.standard.specs.Frame.{Step, step_slots, step_kept, frame_answer, frame_call, FrameRead}
use Rattle.standard.proofs.FrameLaws.{one-frame}
use Rattle.standard.proofs.StepLaws.{stated-only}
use Rattle.standard.specs.declared.Reservoir.{Reservoir}
use Rattle.standard.specs.declared.Frame.{Frame}
use Rattle.standard.specs.declared.FrameRefusal.{FrameRefusal}
use Rattle.demands.proofs.Calls.{FrameStep, frame, bytes, reservoir, reservoir_left, numbers, bytes_after, numbers_after}

-- the valid bytes after a step, from lent bytes that agree on the valid ones before it
valid : (k : Kept) (old : Reservoir) (lent other : List ℕ) → take old.length lent ≡ take old.length other
    → take (reservoir_after old k).length (bytesKept lent k) ≡ take (reservoir_after old k).length (bytesKept other k)
unfolding reservoir_after bytesKept
valid untouched old lent other e = e
valid (keeping bs) old lent other e = take_at bs (drop (length bs) lent) (length bs) refl ∙ sym (take_at bs (drop (length bs) other) (length bs) refl)

module _ {lent other left gone : List ℕ} {old before new then : Reservoir} {d nums before_nums news : List ℤ} {p u : Step}
    {r q : Result Frame FrameRefusal}
    (f : FrameRead lent old d p r new left nums) (g : FrameRead other before before_nums u q then gone news)
    (same_step : u ≡ p) (same_reservoir : before ≡ old) (same_numbers : before_nums ≡ d) (e : take old.length lent ≡ take old.length other) where
  -- the second answer meets the first call's promise, but for the bytes
  beside : FrameRead lent old d p q then (bytesKept lent (step_kept p)) news
  beside = record {
    answer = g.answer ∙ ap frame_answer same_step;
    reservoir = g.reservoir ∙ (λ j. reservoir_after (same_reservoir j) (step_kept (same_step j)));
    bytes = refl;
    numbers-are = g.numbers-are ∙ (λ j. numbers_from 0 (step_slots (same_step j)) (same_numbers j));
  }

  alike : (r ≡ q) × (nums ≡ news) × (new ≡ then) × (take new.length left ≡ take then.length gone)
  alike =
      let one = one-frame f beside in (
        one.0,
        one.3,
        one.1,
        (λ j. take (f.reservoir j).length (f.bytes j))
            ∙ valid (step_kept p) old lent other e
            ∙ sym (ap (take then.length) g.bytes ∙ (λ j. take (beside.reservoir j).length (bytesKept other (step_kept (same_step j))))),
      )

pub only-valid : (c b : FrameStep) → frame b ≡ frame c → reservoir b ≡ reservoir c → numbers b ≡ numbers c
    → take (reservoir c).length (bytes b) ≡ take (reservoir c).length (bytes c) → ltb (length (bytes b)) reservoir_bytes ≡ ltb (length (bytes c)) reservoir_bytes
    → (c.answer ≡ b.answer) × (numbers_after c ≡ numbers_after b) × (reservoir_left c ≡ reservoir_left b)
    × (take (reservoir_left c).length (bytes_after c) ≡ take (reservoir_left b).length (bytes_after b))
only-valid c b same-frame same_reservoir same_numbers same_bytes fits =
    let step =
    (λ j. frame_call (same-frame j) (bytes b) (same_reservoir j).length (length (same_numbers j)))
    ∙ stated-only (frame c) (bytes b) (bytes c) (reservoir c).length (length (numbers c)) same_bytes fits in
    alike c.promised b.promised step same_reservoir same_numbers (sym same_bytes)

-- Calls made from values: what is lent stands somewhere, and any place will do. They show that the premises of the demands can be met. A call can
-- be made for any input: it answers what the definition gives.
use Rattle.std.specs.Prelude.{Result}
use mathlib.Core.Path.{◌≡◌, refl}
use mathlib.Core.List.{List, []}
use Prim.Native.Nat.{ℕ}
use lib.IntN.{ℤ}
use lib.ListN.{length}
use denote.Ref.{Bor}
use denote.MutBor.{MutBor}
use Rattle.standard.specs.Told.{verdict_of, told_or}
use Rattle.standard.specs.Header.{header_of}
use Rattle.standard.specs.SideInfo.{side_of}
use Rattle.standard.specs.Slots.{numbers_from, read_slots, slots_answer}
use Rattle.standard.specs.Reservoir.{reservoir_after, bytes_after, turn_in, turn_verdict, turn_kept}
use Rattle.standard.specs.Frame.{frame_call, frame_answer, step_slots, step_kept}
use Rattle.standard.specs.Reorder.{reorder_of}
use Rattle.standard.specs.declared.FrameHeader.{FrameHeader}
use Rattle.standard.specs.declared.SideInfo.{SideInfo}
use Rattle.standard.specs.declared.SlotRecord.{SlotRecord}
use Rattle.standard.specs.declared.Reservoir.{Reservoir}
use Rattle.standard.specs.declared.Refusal.{Refusal}
use Rattle.demands.proofs.Calls.{HeaderCall, SideInfoCall, SlotsCall, FrameStep, ReorderCall, TurnCall}

-- lent, with this value
abbrev pub lend : {X : Type 0} → X → Bor X
lend x = record { ref_ptr = (0, 0); now = x }

-- lent to be changed
abbrev pub lend_mut : {X : Type 0} → X → MutBor X
lend_mut x = record { ref_ptr = (0, 0); ghost_name = 0; now = x }

abbrev pub header_call : (s : List ℕ) (r : Result FrameHeader Refusal) → r ≡ header_of s → HeaderCall
header_call s r e = record { lifetimes = ([], tt); args = (lend s, tt); answer = r; exit = (lend s, tt); promised = e }

abbrev pub side_info_call : (h : FrameHeader) (s : List ℕ) (r : Result SideInfo Refusal) → r ≡ side_of h s → SideInfoCall
side_info_call h s r e = record { lifetimes = ([], tt); args = (h, (lend s, tt)); answer = r; exit = (h, (lend s, tt)); promised = e }

-- ---- the calls that are lent memory
unfoldable pub slots_call : FrameHeader → SideInfo → List ℕ → List ℤ → SlotsCall
slots_call h i s d =
    let t = read_slots h i s (length d) in
    record {
      lifetimes = ([], ([], tt));
      args = (h, (i, (lend s, (lend_mut d, tt))));
      answer = slots_answer t;
      exit = (h, (i, (lend s, (lend_mut (numbers_from 0 (told_or [] t) d), tt))));
      promised = record { answer = refl; numbers = refl };
    }

unfoldable pub frame_step : List ℕ → List ℕ → Reservoir → List ℤ → FrameStep
frame_step s lent old d =
    let p = frame_call s lent old.length (length d) in
    record {
      lifetimes = ([], ([], ([], ([], tt))));
      args = (lend s, (lend_mut lent, (lend_mut old, (lend_mut d, tt))));
      answer = frame_answer p;
      exit = (
        lend s,
        (lend_mut (bytes_after lent (step_kept p)), (lend_mut (reservoir_after old (step_kept p)), (lend_mut (numbers_from 0 (step_slots p) d), tt))),
      );
      promised = record { answer = refl; reservoir = refl; bytes = refl; numbers-are = refl };
    }

unfoldable pub reorder_call : FrameHeader → SlotRecord → List ℤ → ReorderCall
reorder_call h r d =
    record {
      lifetimes = ([], tt);
      args = (h, (r, (lend_mut d, tt)));
      answer = verdict_of (reorder_of h r d);
      exit = (h, (r, (lend_mut (told_or d (reorder_of h r d)), tt)));
      promised = record { verdict = refl; value = refl };
    }

unfoldable pub turn_call : List ℕ → Reservoir → ℕ → List ℕ → TurnCall
turn_call lent old begin main =
    let t = turn_in lent old.length begin main in
    record {
      lifetimes = ([], ([], ([], tt)));
      args = (lend_mut lent, (lend_mut old, (begin, (lend main, tt))));
      answer = turn_verdict t;
      exit = (lend_mut (bytes_after lent (turn_kept t)), (lend_mut (reservoir_after old (turn_kept t)), (begin, (lend main, tt))));
      promised = record { verdict = refl; reservoir = refl; bytes = refl };
    }

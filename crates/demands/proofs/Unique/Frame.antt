-- What no two readers may disagree on, for every public function of `frame`. Printed by scripts/catalogue.
use Prim.Native.Nat.{ℕ}
use Rattle.demands.proofs.Call.{OneAnswer, OneState, alike}
use Rattle.standard.proofs.FrameLaws.{one-frame}
use Rattle.standard.proofs.SlotsLaws.{one-slots}
use Rattle.standard.specs.declared.Reservoir.{Reservoir}
use lib.IntN.{ℤ}
use mathlib.Core.List.{List}
use Rattle.frame.proofs.answers.lacking_slots.Reads as lacking-slots
use Rattle.frame.proofs.answers.lacking_slots.Kinds as lacking-slots-kinds
use Rattle.frame.proofs.process_frame.Reads as process-frame
use Rattle.frame.proofs.process_frame.Kinds as process-frame-kinds
use Rattle.frame.proofs.read_slots.Reads as read-slots
use Rattle.frame.proofs.read_slots.Kinds as read-slots-kinds
use Rattle.frame.proofs.Memory.read.Reads as read
use Rattle.frame.proofs.Memory.read.Kinds as read-kinds

pub lacking_slots_unique : OneAnswer lacking-slots-kinds.ps lacking-slots-kinds.r lacking-slots.Post
lacking_slots_unique κs a x y s t p q = alike p q

pub process_frame_unique : OneState process-frame-kinds.ps process-frame-kinds.r process-frame.Post {S = List ℕ × (Reservoir × List ℤ)}
    (λ κs s. (s.1.0.now, (s.1.1.0.now, s.1.1.1.0.now)))
process_frame_unique κs a x y s t p q = let e = one-frame p q in (e.0, λ j. (e.2 j, (e.1 j, e.3 j)))

pub read-slots_unique : OneState read-slots-kinds.ps read-slots-kinds.r read-slots.Post (λ κs s. s.1.1.1.0.now)
read-slots_unique κs a x y s t p q = one-slots p q

pub read-unique : OneState read-kinds.ps read-kinds.r read.Post {S = List ℕ × (Reservoir × List ℤ)}
    (λ κs s. (s.0.now.bytes.now, (s.0.now.reservoir, s.0.now.numbers.now)))
read-unique κs a x y s t p q = let e = one-frame p.step q.step in (e.0, λ j. (e.2 j, (e.1 j, e.3 j)))

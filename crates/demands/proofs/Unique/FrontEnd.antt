-- What no two readers may disagree on, for every public function of `front_end`. Printed by scripts/catalogue.
use Prim.Native.Nat.{ℕ}
use Rattle.demands.proofs.Call.{OneAnswer, OneState, alike}
use lib.IntN.{ℤ}
use mathlib.Core.List.{List}
use Rattle.front_end.proofs.front_end_frame.Reads as front-end-frame
use Rattle.front_end.proofs.front_end_frame.Kinds as front-end-frame-kinds
use Rattle.front_end.proofs.front_end_slots.Reads as front-end-slots
use Rattle.front_end.proofs.front_end_slots.Kinds as front-end-slots-kinds
use Rattle.front_end.proofs.front_end_emptied.Reads as front-end-emptied
use Rattle.front_end.proofs.front_end_emptied.Kinds as front-end-emptied-kinds
use Rattle.front_end.proofs.front_end_reorder.Reads as front-end-reorder
use Rattle.front_end.proofs.front_end_reorder.Kinds as front-end-reorder-kinds
use Rattle.front_end.proofs.front_end_sizes.Reads as front-end-sizes
use Rattle.front_end.proofs.front_end_sizes.Kinds as front-end-sizes-kinds

pub front-end_frame_unique : OneState front-end-frame-kinds.ps front-end-frame-kinds.r front-end-frame.Post {S = List ℕ × (List ℤ × List ℕ)}
    (λ κs s. (s.1.0.now, (s.1.1.1.0.now, s.1.1.1.1.0.now)))
front-end_frame_unique κs a x y s t p q = (
  alike p.answer q.answer,
  λ j. (alike p.bytes q.bytes j, (alike p.numbers-are q.numbers-are j, alike p.rows_are q.rows_are j)),
)

pub front-end_slots_unique : OneState front-end-slots-kinds.ps front-end-slots-kinds.r front-end-slots.Post {S = List ℤ × List ℕ}
    (λ κs s. (s.1.1.0.now, s.1.1.1.0.now))
front-end_slots_unique κs a x y s t p q = (alike p.answer q.answer, λ j. (alike p.numbers-are q.numbers-are j, alike p.rows_are q.rows_are j))

pub front-end_emptied_unique : OneAnswer front-end-emptied-kinds.ps front-end-emptied-kinds.r front-end-emptied.Post
front-end_emptied_unique κs a x y s t p q = alike p q

pub front-end_reorder_unique : OneState front-end-reorder-kinds.ps front-end-reorder-kinds.r front-end-reorder.Post (λ κs s. s.1.1.0.now)
front-end_reorder_unique κs a x y s t p q = (alike p.answer q.answer, alike p.numbers-are q.numbers-are)

pub front-end_sizes_unique : OneAnswer front-end-sizes-kinds.ps front-end-sizes-kinds.r front-end-sizes.Post
front-end_sizes_unique κs a x y s t p q = alike p q

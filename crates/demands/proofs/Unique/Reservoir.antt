-- What no two readers may disagree on, for every public function of `reservoir`. Printed by scripts/catalogue.
use Prim.Native.Nat.{ℕ}
use Rattle.demands.proofs.Call.{OneAnswer, OneState, alike}
use Rattle.standard.proofs.ReservoirLaws.{one-turn}
use Rattle.standard.specs.declared.Reservoir.{Reservoir}
use mathlib.Core.List.{List}
use Rattle.reservoir.proofs.emptied.Reads as emptied
use Rattle.reservoir.proofs.emptied.Kinds as emptied-kinds
use Rattle.reservoir.proofs.turn.Reads as turn
use Rattle.reservoir.proofs.turn.Kinds as turn-kinds

pub emptied-unique : OneAnswer emptied-kinds.ps emptied-kinds.r emptied.Post
emptied-unique κs a x y s t p q = alike p q

pub turn_unique : OneState turn-kinds.ps turn-kinds.r turn.Post {S = List ℕ × Reservoir}
    (λ κs s. (s.0.now, s.1.0.now))
turn_unique κs a x y s t p q = let e = one-turn p q in (e.0, λ j. (e.2 j, e.1 j))

-- `reservoir::emptied` meets its contract. Assumes nothing.
use mathlib.Core.Path.{refl}
use Rattle.standard.specs.Reservoir.{emptied}
use Rattle.reservoir.proofs.emptied.Goals as goal

pub returns : goal.returns
unfolding emptied
returns c = refl

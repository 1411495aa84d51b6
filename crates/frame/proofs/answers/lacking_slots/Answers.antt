-- `lacking_slots` meets its contract. Assumes nothing.
use Rattle.std.proofs.Common.{refl}
use Rattle.standard.specs.Slots.{slots_told}
use Rattle.frame.proofs.answers.lacking_slots.Goals as goal

pub returns : goal.returns
unfolding slots_told
returns c = refl

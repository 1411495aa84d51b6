-- `scale_factors::plan_bits` meets its contract. The loop's invariant: the bits so far, with those of the groups that are left, are all.
-- Assumes nothing.
use mathlib.Core.Path.{◌≡◌}
use Prim.Native.Nat.{◌+◌}
use lib.ListN.{drop}
use Rattle.standard.specs.Factors.{groups_from, sources_of, plan_bits}
use Rattle.scale_factors.proofs.plan_bits.Given as goal

abbrev pub invariant-loop-group : goal.invariant-loop-group
invariant-loop-group l = l.bits + plan_bits (groups_from (drop l.group-index l.fn.p.groups)) ≡ plan_bits (sources_of l.fn.p)

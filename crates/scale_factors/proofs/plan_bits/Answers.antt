-- `scale_factors::plan_bits` meets its contract. The loop's invariant: the bits so far, with those of the groups that are left, are all.
-- Assumes nothing.
use mathlib.Core.Path.{◌≡◌}
use mathlib.Core.Bool.{false}
use native.Mathlib.Omega.{arith}
use lib.ListN.{length}
use borrow.Author.Rules.{rules}
use Rattle.scale_factors.proofs.Reading.{next_bits, no_bits}
use Rattle.standard.specs.declared.Group.{Group}
use Rattle.scale_factors.proofs.plan_bits.Goals as goal

-- what a list has past its end
abbrev blank : Group
blank = record { count = 0; length = 0; shared = false }

pub overflow_add-bits : goal.overflow_add-bits
overflow_add-bits c =
    let l : length c.args.p.groups ≡ 4 = search rules in
    let next = next_bits c.args.p.groups c.loop-group.group-index blank (omega arith) in
    omega (arith, c.requires, c.loop-group.invariant, c.group_bits-bits.ensures)

pub loop-group-preserved : goal.loop-group-preserved
loop-group-preserved c =
    let l : length c.args.p.groups ≡ 4 = search rules in
    let next = next_bits c.args.p.groups c.loop-group.group-index blank (omega arith) in
    omega (arith, c.loop-group.invariant, c.group_bits-bits.ensures)

pub returns : goal.returns
returns c =
    let l : length c.args.p.groups ≡ 4 = search rules in
    omega (arith, c.loop-group.invariant, no_bits c.args.p.groups c.loop-group.group-index (omega arith))

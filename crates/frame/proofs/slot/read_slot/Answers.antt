-- `read_slot` meets its contract: a slot whose bits end beyond the main data is missing, and any other is read. Assumes nothing.
use mathlib.Core.Path.{refl}
use Prim.Native.Nat.{◌+◌, ◌*◌, ◌≤◌, ◌<◌}
use native.Mathlib.Omega.{arith}
use lib.ListN.{length}
use Rattle.standard.proofs.SlotsLaws.{slot_in-missing, slot_in-read}
use Rattle.std.specs.Prelude.{is_none}
use Rattle.frame.specs.Slot.{shared_of}
use Rattle.frame.proofs.Slots.{stopped_read}
use Rattle.frame.proofs.slot.read_slot.Goals as goal

pub returns-then-main-end : goal.returns-then-main-end
returns-then-main-end c =
    let a = c.args in
    let h : 8 * length a.main.now < a.at + a.r.part2_3_length = omega (arith, c.if-main-end.true) in
    stopped_read (slot_in-missing a.main.now a.at a.g a.r (is_none a.old) (shared_of a.old) h) refl refl

pub returns : goal.returns
returns c =
    let a = c.args in
    let h : a.at + a.r.part2_3_length ≤ 8 * length a.main.now = omega arith in
    rw (slot_in-read a.main.now a.at a.g a.r (is_none a.old) (shared_of a.old) h) c.read_whole.ensures

-- One slot more (SaidLaws).
use Rattle.std.proofs.Common.{sym, arith}
use Rattle.lines.specs.Said.{slot_lines}
use Rattle.lines.specs.AddsLaws.{adds_none, adds_same, adds_then}
use Rattle.lines.specs.SaidLaws.{slots_next}
use Rattle.lines.proofs.Text.slots.Goals as goal

pub loop-n-init : goal.loop-n-init
unfolding slot_lines
loop-n-init c = adds_none _

pub loop-n-preserved : goal.loop-n-preserved
loop-n-preserved c =
    adds_same (sym (slots_next _ _ c.args.slots.now c.loop-n.n _ (omega arith))) (adds_then c.loop-n.invariant c.slot.ensures)

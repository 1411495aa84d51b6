-- One number more (SaidLaws).
use Rattle.std.proofs.Common.{◌≡◌, sym, ap, arith, rules, length, get_or, pos}
use mir.Syntax.{w32}
use mir.Val.{SFits}
use mir.ValLaws.{to_z-of_z}
use Rattle.lines.specs.Text.{signed_of}
use Rattle.lines.specs.Said.{numbers_text}
use Rattle.lines.specs.AddsLaws.{adds_none, adds_same, adds_then}
use Rattle.lines.specs.SaidLaws.{text_next, text_all}
use Rattle.lines.proofs.Text.numbers.Goals as goal

pub loop-n-init : goal.loop-n-init
unfolding numbers_text
loop-n-init c = adds_none _

pub loop-n-preserved : goal.loop-n-preserved
loop-n-preserved c =
    let vs = c.args.numbers.now in
    let i = c.loop-n.n-index in
    let fits : SFits w32 (get_or vs i (pos 0)) = search rules in
    adds_same (sym (text_next vs i (pos 0) c.loop-n-test.true))
    (adds_then (adds_then c.loop-n.invariant c.put.ensures) (adds_same (ap signed_of (to_z-of_z w32 _ fits)) c.signed.ensures))

pub returns : goal.returns
returns c =
    let e : c.loop-n.n-index ≡ length c.args.numbers.now = omega arith in
    adds_same (text_all c.args.numbers.now c.loop-n.n-index e) c.loop-n.invariant

-- `header::read_frame_header` meets its contract: each test is the definition's, so what a return answers is what the definition picks there.
-- Assumes nothing.
use mathlib.Core.Path.{ap, ◌∙◌}
use Rattle.std.specs.Prelude.{Err}
use native.Mathlib.Nat.{le_of_suc-le-suc}
use borrow.Author.Rules.{rules}
use borrow.Author.Tests.{le-leb, lt-leb, eq-eqb, ne_eqb}
use Rattle.standard.specs.Told.{pick}
use Rattle.standard.specs.Header.{header_of}
use Rattle.header.proofs.read_frame_header.Goals as goal

pub absent-requires : goal.absent-requires
unfolding header_of pick
absent-requires c = search rules

pub returns-then-frame-lt1 : goal.returns-then-frame-lt1
unfolding header_of pick
returns-then-frame-lt1 c = ap Err c.absent.ensures ∙ simp (le-leb _ _ (le_of_suc-le-suc c.if-frame-lt1.true))

pub bounds-frame-0 : goal.bounds-frame-0
unfolding header_of pick
bounds-frame-0 c = search rules

pub returns-then-frame : goal.returns-then-frame
unfolding header_of pick
returns-then-frame c = simp (lt-leb _ _ c.if-frame-lt1.false, ne_eqb _ _ c.if-frame.true)

pub absent-requires-then-frame-lt2 : goal.absent-requires-then-frame-lt2
unfolding header_of pick
absent-requires-then-frame-lt2 c = search rules

pub returns-then-frame-lt2 : goal.returns-then-frame-lt2
unfolding header_of pick
returns-then-frame-lt2 c =
    ap Err c.absent-then-frame-lt2.ensures
    ∙ simp (lt-leb _ _ c.if-frame-lt1.false, eq-eqb _ _ c.if-frame.false, le-leb _ _ (le_of_suc-le-suc c.if-frame-lt2.true))

pub second_byte-requires : goal.second_byte-requires
unfolding header_of pick
second_byte-requires c = search rules

pub returns : goal.returns
unfolding header_of pick
returns c =
    c.second_byte.ensures
    ∙ simp (lt-leb _ _ c.if-frame-lt1.false, eq-eqb _ _ c.if-frame.false, lt-leb _ _ c.if-frame-lt2.false)

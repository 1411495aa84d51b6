-- `mate_of` meets its contract: it takes the answer of the same channel's granule 0 slot. Assumes nothing.
use Rattle.std.proofs.Common.{sym, ap, ◌∙◌, lt-ltb, le-ltb}
use Rattle.standard.specs.ToldLaws.{picked, passed}
use Rattle.frame.specs.Slot.{said_long, mate_in}
use Rattle.frame.proofs.frame_slots.mate_of.Goals as goal

pub returns-then-k-channels : goal.returns-then-k-channels
unfolding mate_in
returns-then-k-channels c = sym (picked _ (lt-ltb _ _ c.if-k-channels.true))

pub returns-in-Read : goal.returns-in-Read
unfolding mate_in said_long
returns-in-Read c = sym (passed _ (le-ltb _ _ c.if-k-channels.false) ∙ ap said_long c.in-Read.is)

pub returns-in-NotRead : goal.returns-in-NotRead
unfolding mate_in said_long
returns-in-NotRead c = sym (passed _ (le-ltb _ _ c.if-k-channels.false) ∙ ap said_long c.in-NotRead.is)

pub returns-in-Lacking : goal.returns-in-Lacking
unfolding mate_in said_long
returns-in-Lacking c = sym (passed _ (le-ltb _ _ c.if-k-channels.false) ∙ ap said_long c.in-Lacking.is)

-- Each outcome has its line (SaidLaws).
use Rattle.std.proofs.Common.{refl}
use Rattle.lines.specs.AddsLaws.{adds_none, adds_same, adds_then}
use Rattle.lines.specs.SaidLaws.{lacking_line, refused_line_lem, read-line}
use Rattle.lines.proofs.Text.slot.Goals as goal

pub returns-in-Lacking : goal.returns-in-Lacking
returns-in-Lacking c = adds_same (lacking_line _ _ _ c.in-Lacking.is) (adds_none _)

pub returns-in-NotRead : goal.returns-in-NotRead
returns-in-NotRead c = adds_same (refused_line_lem _ _ _ _ _ refl refl c.in-NotRead.is) (adds_then c.start.ensures c.not_read.ensures)

pub returns-in-Read : goal.returns-in-Read
returns-in-Read c =
    adds_same (read-line _ _ _ _ _ _ refl refl c.part.ensures c.in-Read.is) (adds_then c.start-in-Read.ensures c.read.ensures)

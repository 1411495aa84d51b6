-- `header::has_rate` meets its contract: the version is the arm's, and its row a range. Assumes nothing.
use Rattle.standard.proofs.HeaderRows.{rate_rows}
use Rattle.header.proofs.has_rate.Goals as goal

pub returns-in-Mpeg1 : goal.returns-in-Mpeg1
returns-in-Mpeg1 c = rw (c.within.ensures, c.hz-n.ensures, c.in-Mpeg1.is, (rate_rows c.args.f).0)

pub returns-in-Mpeg2 : goal.returns-in-Mpeg2
returns-in-Mpeg2 c = rw (c.within-in-Mpeg2.ensures, c.hz-n.ensures, c.in-Mpeg2.is, (rate_rows c.args.f).1)

pub returns-in-Mpeg25 : goal.returns-in-Mpeg25
returns-in-Mpeg25 c = rw (c.within-in-Mpeg25.ensures, c.hz-n.ensures, c.in-Mpeg25.is, (rate_rows c.args.f).2)

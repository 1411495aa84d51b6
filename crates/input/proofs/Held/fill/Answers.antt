-- What was slid is at the front, reading behind it leaves it (Reading), and what lies behind it came from the reader (Came).
use Rattle.input.proofs.Reading.{slid_fits, slid_read}
use Rattle.input.proofs.Came.{slid_from}
use Rattle.input.proofs.Held.fill.Goals as goal

pub read_on-requires : goal.read_on-requires
read_on-requires g c = slid_fits c.slide.ensures

pub returns : goal.returns
returns g c = record {
  filled = slid_read c.slide.ensures c.slide.auto.bytes c.read_on.ensures.read;
  source =
      slid_from (g.R.Read.remaining c.args.reader.now) (g.R.Read.remaining c.read_on.new.reader) c.slide.ensures
      c.read_on.ensures.read c.read_on.ensures.source;
  ended = c.read_on.ensures.ended;
}

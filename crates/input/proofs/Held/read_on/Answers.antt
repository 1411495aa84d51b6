-- What a read within the rest leaves (Reading), and what it got (Came).
use Rattle.std.proofs.Common.{◌≡◌, ◌+◌, ◌≤◌, length, arith}
use Rattle.input.proofs.Reading.{behind, onward}
use Rattle.input.proofs.Came.{mid_room, some_from}
use Rattle.input.proofs.Held.read_on.Goals as goal

pub loop-self-preserved : goal.loop-self-preserved
loop-self-preserved g c =
    let l = c.loop-self in
    let i = l.invariant.reading in
    let within : l.self.end ≤ length l.bytes = omega (arith, i.within, i.long) in
    let ys = c.read.new.buf in
    let came = c.in-Ok.ensures in
    let room : length ys + l.self.end ≡ length l.bytes = mid_room l.self.end l.bytes ys within c.read.auto.buf in
    record {
      same = l.invariant.same;
      reading = onward (behind i ys c.read.auto.buf) c.in-Ok.n (omega (arith, came.bound.0, i.long, room));
      came =
          some_from (g.R.Read.remaining c.args.reader.now) (g.R.Read.remaining l.reader) (g.R.Read.remaining c.read.new.self) l.bytes
          c.args.self.now.end l.self.end i.more within l.invariant.came ys c.in-Ok.n came.bound.0 came.bytes.0;
    }

-- The loop's invariant: what was held is as it was, `end` lies between it and the end of the lent bytes (Reading), and what lies
-- between is what came from the reader (Came). Each turn that goes on reads a byte at least.
use Rattle.std.proofs.Common.{◌≡◌, ◌-◌, length, take, drop}
use Rattle.std.specs.Io.KnownBytes.{Consumes}
use Rattle.input.proofs.Reading.{Reading}
use Rattle.input.proofs.Held.read_on.Given as goal

abbrev pub invariant-loop-self : goal.invariant-loop-self
invariant-loop-self g l = record {
  same : l.self.from ≡ l.initial.self.from;
  reading : Reading l.initial.bytes l.bytes l.initial.self.end l.self.end;
  came : Consumes (g.R.Read.remaining l.initial.reader) (g.R.Read.remaining l.reader) (drop l.initial.self.end (take l.self.end l.bytes));
}

abbrev pub decreases-loop-self : goal.decreases-loop-self
decreases-loop-self g l = length l.initial.bytes - l.self.end

-- `put_bytes` meets its contract. The loop's invariant: i bytes are copied. Assumes nothing.
use mathlib.Core.Path.{refl}
use native.Mathlib.Omega.{arith}
use lib.ListN.{length}
use Rattle.standard.specs.CopyLaws.{copying_turn, copying_end}
use Rattle.front_end.proofs.rows.put_bytes.Goals as goal

pub loop-i-preserved : goal.loop-i-preserved
loop-i-preserved c = copying_turn _ _ _ _ _ c.loop-i.invariant 0 _ _ refl c.from.ensures (omega arith) (omega arith)

pub returns : goal.returns
returns c = copying_end _ _ _ _ _ c.loop-i.invariant (length c.args.bytes.now) (omega arith)

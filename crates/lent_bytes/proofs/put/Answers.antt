-- `lent_bytes::put` meets its contract. The loop's invariant: i bytes of the list stand where they belong, and what lies beyond is as it was.
-- Assumes nothing.
use mathlib.Core.Path.{refl, sym, ◌∙◌}
use Prim.Native.Nat.{ℕ}
use native.Mathlib.Omega.{arith}
use lib.Seq.{paste, paste-zero}
use Rattle.standard.specs.CopyLaws.{copying_turn, copying_end}
use Rattle.lent_bytes.specs.Put.{room_for}
use Rattle.lent_bytes.proofs.Room.{room}
use Rattle.lent_bytes.proofs.put.Goals as goal

pub loop-i-preserved : goal.loop-i-preserved
loop-i-preserved c = copying_turn _ _ _ _ _ c.loop-i.invariant 0 _ _ refl refl (omega arith) (omega arith)

pub returns : goal.returns
unfolding room_for
returns c =
    let old = c.args.lent.now in
    let t = c.args.bytes.now in
    record {
      next = omega arith;
      bytes =
          copying_end _ _ _ _ _ c.loop-i.invariant c.min-n.result (omega arith)
          ∙ room (λ (s n : ℕ). paste old s t n) (λ a b. sym (paste-zero old a t) ∙ paste-zero old b t) _ c.args.at _ c.min-start.ensures c.min-n.ensures;
    }

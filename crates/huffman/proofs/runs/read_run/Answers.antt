-- `huffman::runs::read_run` meets its contract. The loop's invariant: the pairs so far lead any run on. Assumes nothing.
use mathlib.Core.Path.{◌≡◌, subst}
use Prim.Native.Nat.{ℕ}
use native.Mathlib.Omega.{arith}
use mir.Syntax.{w32}
use mir.Val.{to_z, of_z}
use Rattle.huffman.specs.Run.{RunOn}
use Rattle.huffman.proofs.Running.{run-begin, run-turn}
use borrow.Author.Rules.{rules}
use Rattle.huffman.proofs.runs.read_run.Goals as goal

pub loop-k-init : goal.loop-k-init
loop-k-init c =
    run-begin _ _ _ _ _ (search rules)

pub find_pair-p-requires : goal.find_pair-p-requires
find_pair-p-requires c = (_, record { code = c.known.result; is = c.root-link.ensures; same = c.known.ensures; escape = c.escape_width-width.ensures })

pub overflow_add-at : goal.overflow_add-at
overflow_add-at c =
    let i = c.loop-k.invariant in
    record { fits = omega (arith, i.near, c.find_pair-p.ensures.1, c.requires.1, c.requires.2) }

pub loop-k-preserved : goal.loop-k-preserved
loop-k-preserved c =
    let i = c.loop-k.invariant in
    let b = c.find_pair-p.result in
    let fx : to_z w32 (of_z w32 b.value.0) ≡ b.value.0 = search rules in
    let fy : to_z w32 (of_z w32 b.value.1) ≡ b.value.1 = search rules in
    rw (fx, fy)
    (run-turn i (omega arith) b.value.0 b.value.1 b.used (omega (arith, c.requires.1)) c.find_pair-p.ensures.1
    (c.find_pair-p.ensures.0 _ (record { code = c.known.result; is = c.root-link.ensures; same = c.known.ensures; escape = c.escape_width-width.ensures }) _ _ c.ahead.ensures))

pub returns : goal.returns
returns c =
    let i = c.loop-k.invariant in
    let a = c.args in
    let e : c.loop-k.k ≡ a.to = omega arith in
    subst (λ (n : ℕ). RunOn a.table a.s.now a.start a.from n a.out.now c.loop-k.out c.loop-k.at) e i

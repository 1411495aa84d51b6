-- `huffman::find::find` meets its contract. The loop's invariant: whichever code the link is of, the lookup stands at a node of it, and e is the cell that the
-- next bits choose there. The measure is how many of the 57 bits are not used. Assumes nothing.
use Rattle.std.specs.Prelude.{Ok}
use mathlib.Core.Path.{◌≡◌}
use Prim.Native.Nat.{ℕ, ◌+◌, ◌/◌, ◌%◌, ◌≤◌}
use native.Mathlib.Omega.{arith}
use Rattle.standard.specs.Bits.{bits}
use Rattle.standard.specs.Codes.{decode, taken}
use Rattle.huffman.specs.Found.{root_of, bytes_of}
use Rattle.huffman.specs.Signed.{held}
use Rattle.huffman.proofs.Cutting.{own_ahead}
use Rattle.huffman.proofs.Nodes.{stands_some, stands_near, stands_turn, stands_end}
use Rattle.huffman.proofs.Finding.{step_fits, step_is, first-at, flagged_at}
use Rattle.huffman.proofs.Reading.{held-brief}
use Rattle.huffman.proofs.find.find.Goals as goal

pub chosen-e-requires : goal.chosen-e-requires
chosen-e-requires c = let r = c.requires in step_fits _ _ _ _ _ _ (first-at _ _ _ _ r.is) (own_ahead _ (omega arith))

pub loop-e-init : goal.loop-e-init
loop-e-init c =
    let r = c.requires in (
      λ code is. first-at _ _ _ _ is,
      step_is _ _ _ _ _ _ (first-at _ _ _ _ r.is) (own_ahead _ (omega arith)) _ c.chosen-e.ensures.0,
      c.chosen-e.ensures.1,
    )

pub overflow_add-used : goal.overflow_add-used
overflow_add-used c =
    let i = c.loop-e.invariant in
    let r = c.requires in
    record { fits = omega (arith, stands_near _ _ _ _ _ (i.0 _ r.is)) }

pub chosen-e-requires-in-loop-e : goal.chosen-e-requires-in-loop-e
chosen-e-requires-in-loop-e c =
    let i = c.loop-e.invariant in
    let r = c.requires in
    step_fits _ _ _ _ _ _ (stands_turn _ _ _ _ _ (i.0 _ r.is) _ i.1 (omega arith)) (own_ahead _ (omega arith))

pub loop-e-smaller : goal.loop-e-smaller
loop-e-smaller c =
    let i = c.loop-e.invariant in
    let w = i.0 _ c.requires.is in
    omega (arith, stands_some _ _ _ _ _ w, stands_near _ _ _ _ _ w)

pub loop-e-preserved : goal.loop-e-preserved
loop-e-preserved c =
    let i = c.loop-e.invariant in
    let r = c.requires in (
      λ code is. stands_turn _ _ _ _ _ (i.0 code is) _ i.1 (omega arith),
      step_is _ _ _ _ _ _ (stands_turn _ _ _ _ _ (i.0 _ r.is) _ i.1 (omega arith)) (own_ahead _ (omega arith)) _ c.chosen-e-in-loop-e.ensures.0,
      c.chosen-e-in-loop-e.ensures.1,
    )

pub overflow_add-result : goal.overflow_add-result
overflow_add-result c =
    let i = c.loop-e.invariant in
    record { fits = omega (arith, stands_near _ _ _ _ _ (i.0 _ c.requires.is)) }

pub returns : goal.returns
returns c =
    let i = c.loop-e.invariant in
    let r = c.requires in
    let h : 32768 ≤ c.loop-e.e = omega arith in
    let read : (code : ℕ) → c.args.link ≡ root_of code
    → decode (held code) (bits (bytes_of c.args.word) 0 57)
    ≡ Ok (taken (c.loop-e.e % 256) (c.loop-e.used + c.loop-e.e / 256 % 8)) = λ code is. stands_end _ _ _ _ _ (i.0 code is) _ i.1 h in
    record {
      reads = read;
      flagged = flagged_at _ _ i.1 h;
      small = i.2;
      few = held-brief _ _ _ _ (read r.code r.is);
    }

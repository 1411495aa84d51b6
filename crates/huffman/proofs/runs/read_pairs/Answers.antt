-- `huffman::runs::read_pairs` meets its contract. The loop's invariant: the pairs of the regions so far. Assumes nothing.
use Rattle.std.proofs.Common.{rules}
use Prim.Native.Nat.{◌<◌}
use native.Mathlib.Omega.{arith}
use Rattle.huffman.proofs.Running.{ends_are, pairs-begin, pairs-order, pairs-turn, pairs_end}
use Rattle.huffman.proofs.runs.read_pairs.Goals as goal

pub loop-region-init : goal.loop-region-init
loop-region-init c = pairs-begin _ _ _ c.requires.0 _ _ _ _ (search rules)

pub read_run-at-requires : goal.read_run-at-requires
read_run-at-requires c =
    let f = c.loop-region.invariant in
    let a = c.args in
    let r = c.loop-region.region in
    let h : r < 3 = omega arith in
    let is = ends_are a.g.first a.g.second a.n _ _ r c.pairs_before.ensures c.pairs_before-2.ensures in
    let p = pairs-order a.g.first a.g.second a.n c.requires.0 f h _ is in
    (p.0, omega (arith, p.1, c.requires.1), omega (arith, f.near, p.0, p.1, c.requires.1, c.requires.2))

pub loop-region-preserved : goal.loop-region-preserved
loop-region-preserved c =
    let f = c.loop-region.invariant in
    let a = c.args in
    let r = c.loop-region.region in
    let h : r < 3 = omega arith in
    let is = ends_are a.g.first a.g.second a.n _ _ r c.pairs_before.ensures c.pairs_before-2.ensures in
    pairs-turn a.g.first a.g.second a.n c.requires.0 f h _ is c.read_run-at.ensures

pub returns : goal.returns
returns c =
    pairs_end c.args.g.first c.args.g.second c.args.n c.requires.0 c.loop-region.invariant c.loop-region-test.false

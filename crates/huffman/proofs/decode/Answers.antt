-- `huffman::decode` meets its contract: a pair that runs over, no bits, or the pairs and then the quads, by the laws of the whole. Assumes nothing.
use mathlib.Core.Path.{refl, ap, ◌∙◌}
use native.Mathlib.Omega.{arith}
use lib.IntN.{pos}
use lib.ListN.{length, length-replicate}
use Rattle.standard.specs.Record.{shape_of}
use Rattle.standard.proofs.RegionsLaws.{boundaries_rise}
use Rattle.standard.specs.declared.Regions.{Regions}
use Rattle.huffman.proofs.Whole.{pairs-over, none_read, quads-read}
use Rattle.huffman.proofs.decode.Goals as goal

pub read_pairs-place-requires : goal.read_pairs-place-requires
read_pairs-place-requires c =
    let e = c.regions_of-g.ensures in
    let rise = (boundaries_rise (shape_of c.args.r) c.args.rate c.args.r).0 in (
      omega (arith, ap (λ (g : Regions). g.first) e, ap (λ (g : Regions). g.second) e, rise),
      c.requires.0,
      omega (arith, c.requires.2, c.requires.3),
    )

pub returns-then-end-place : goal.returns-then-end-place
returns-then-end-place c =
    pairs-over _ _ _ _ _ c.requires.2 _ _ _ _ _ c.regions_of-g.ensures refl c.read_pairs-place.ensures (omega arith)

pub returns-then-end-at : goal.returns-then-end-at
returns-then-end-at c =
    none_read _ _ _ _ _ c.requires.2 _ _ _ _ _ c.regions_of-g.ensures refl c.read_pairs-place.ensures c.if-end-place.false c.if-end-at.true c.requires.0 c.requires.1

pub returns : goal.returns
returns c =
    quads-read _ _ _ _ _ c.requires.2 _ _ _ _ _ c.regions_of-g.ensures refl c.read_pairs-place.ensures c.if-end-place.false c.if-end-at.false _ _ _ refl c.read_quads.ensures

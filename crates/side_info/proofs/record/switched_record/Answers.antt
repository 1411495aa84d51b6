-- `side_info::record::switched_record` meets its contract: each field is cut out of the window's bits at its place; the regions go by the
-- shape, and a gain is the float of its three bits.
-- Assumes nothing.
use mathlib.Core.Path.{refl, ap, ◌∙◌}
use mathlib.Core.List.{[], ◌∷◌}
use Rattle.standard.specs.Record.{gain_of, region0_of, region1_of, switched_of}
use Rattle.side_info.specs.Parts.{common_of}
use Rattle.side_info.proofs.Fields.{window_cut, window_last}
use Rattle.side_info.proofs.record.switched_record.Goals as goal

pub returns : goal.returns
unfolding switched_of common_of
returns c =
    λ mpeg1 s at e j.
    let k = e.common j in
    let shape = c.shape_of-shape.ensures in
    let a = c.args in
    record {
      part2_3_length = k.part2_3_length;
      big_values = k.big_values;
      global_gain = k.global_gain;
      scalefac_compress = k.scalefac_compress;
      block_type = a.block;
      mixed_block_flag = a.mixed;
      subblock_gain = gain_of (window_cut e 14 3 6 refl j) ∷ gain_of (window_cut e 17 3 3 refl j) ∷ gain_of (window_last e 20 3 refl j) ∷ [];
      table_select = window_cut e 4 5 14 refl j ∷ window_cut e 9 5 9 refl j ∷ 0 ∷ [];
      region0_count = (c.first_region-region0.ensures ∙ ap region0_of shape) j;
      region1_count = (c.second_region-region1.ensures ∙ ap region1_of shape) j;
      preflag = k.preflag;
      scalefac_scale = k.scalefac_scale;
      count1table_select = k.count1table_select;
    }

-- `side_info::record::long_record` meets its contract: each field is cut out of the window's bits at its place, and what is not read is 0.
-- Assumes nothing.
use mathlib.Core.Path.{refl}
use mathlib.Core.Bool.{false}
use mathlib.Core.List.{[], ◌∷◌}
use Rattle.standard.specs.Record.{long_of}
use Rattle.standard.specs.declared.BlockType.TheVariants.{Long}
use Rattle.side_info.specs.Parts.{common_of}
use Rattle.side_info.proofs.Fields.{zero_gain, window_cut, window_last}
use Rattle.side_info.proofs.record.long_record.Goals as goal

pub returns : goal.returns
unfolding long_of common_of
returns c =
    λ mpeg1 s at e j.
    let k = e.common j in
    record {
      part2_3_length = k.part2_3_length;
      big_values = k.big_values;
      global_gain = k.global_gain;
      scalefac_compress = k.scalefac_compress;
      block_type = Long;
      mixed_block_flag = false;
      subblock_gain = zero_gain j ∷ zero_gain j ∷ zero_gain j ∷ [];
      table_select = window_cut e 1 5 17 refl j ∷ window_cut e 6 5 12 refl j ∷ window_cut e 11 5 7 refl j ∷ [];
      region0_count = window_cut e 16 4 3 refl j;
      region1_count = window_last e 20 3 refl j;
      preflag = k.preflag;
      scalefac_scale = k.scalefac_scale;
      count1table_select = k.count1table_select;
    }

-- `setting_of` meets its contract, field by field. Assumes nothing.
use Rattle.standard.specs.Slots.{setting_of}
use Rattle.frame.proofs.setting.setting_of.Goals as goal

pub returns : goal.returns
unfolding setting_of
returns c =
    λ j. record {
      mpeg1 = c.is_mpeg1.ensures j;
      intensity = c.second_under_intensity.ensures j;
      rate = c.args.h.rate;
      shares = c.shares_of-shares.ensures j;
    }

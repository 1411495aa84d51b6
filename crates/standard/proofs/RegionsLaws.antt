-- The regions: where they change, and what counts that run off the end come to; two positions among the 576 for every record, in order.
use Rattle.std.specs.Prelude.{◌≡◌, ◌+◌, ◌<◌, ◌≤◌, get_or, []}
use Rattle.std.proofs.Math.Path.{refl, sym}
use Rattle.std.proofs.Common.{ap, ◌∙◌, arith}
use Rattle.standard.specs.Bands.{row_of, long_rows, long_start}
use Rattle.standard.specs.BandsLaws.{long-tops, long-rises, long-within, long-past}
use Rattle.standard.specs.Numbers.{window_regions, regions_by}
use Rattle.standard.specs.declared.SampleRate.{SampleRate}
use Rattle.standard.specs.declared.SlotRecord.{SlotRecord}
use Rattle.standard.specs.declared.Shape.{Shape}
use Rattle.standard.specs.declared.Shape.TheVariants.{AllLong, AllShort, LongThenShort}

module _ (rate : SampleRate) (r : SlotRecord) where
  -- where there are short bands the tables change at 36, whatever the rate and the counts
  pub at_36 : (regions_by AllShort rate r ≡ window_regions) × (regions_by LongThenShort rate r ≡ window_regions)
  unfolding regions_by
  at_36 = (refl, refl)

  -- of long bands the first boundary goes by region0_count alone, whatever the counts sum up to
  pub first-stays : (regions_by AllLong rate r).first ≡ long_start rate (r.region0_count + 1)
  unfolding regions_by
  first-stays = refl

  -- counts up to a sum of 20 name bands of the published row
  pub by_the_row : r.region0_count + r.region1_count ≤ 20
      → ((regions_by AllLong rate r).first ≡ get_or (get_or long_rows (row_of rate) []) (r.region0_count + 1) 0)
      × ((regions_by AllLong rate r).second ≡ get_or (get_or long_rows (row_of rate) []) (r.region0_count + r.region1_count + 2) 0)
  unfolding regions_by
  by_the_row h = (
    first-stays ∙ sym (long-within rate (r.region0_count + 1) (omega arith)),
    sym (long-within rate (r.region0_count + r.region1_count + 2) (omega arith)),
  )

  -- above it there is no third region
  pub runs_off : 20 < r.region0_count + r.region1_count → (regions_by AllLong rate r).second ≡ 576
  unfolding regions_by
  runs_off h = long-past rate (r.region0_count + r.region1_count + 2) (omega arith)

-- the first boundary is no later than the second, and that within the 576: for every record, made-up ones too
pub boundaries_rise : (k : Shape) (rate : SampleRate) (r : SlotRecord) → ((regions_by k rate r).first ≤ (regions_by k rate r).second) × ((regions_by k rate r).second ≤ 576)
unfolding regions_by
boundaries_rise AllLong rate r =
    let p : r.region0_count + r.region1_count + 2 ≡ r.region0_count + 1 + (r.region1_count + 1) = omega arith in (
      omega (arith, long-rises rate (r.region0_count + 1) (r.region1_count + 1), ap (long_start rate) p),
      long-tops rate (r.region0_count + r.region1_count + 2),
    )
boundaries_rise AllShort rate r = (omega arith, omega arith)
boundaries_rise LongThenShort rate r = (omega arith, omega arith)

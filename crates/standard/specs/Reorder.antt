-- The reorder of short blocks (11172-3, 2.4.3.4): window by window in each band before it, frequency by frequency after it.
use Rattle.std.specs.Prelude.{◌&&◌, List, [], ◌∷◌, ◌++◌, ℕ, zero, suc, ◌+◌, ◌-◌, ◌*◌, ltb, ℤ, pos, length, get_or, take, drop, Result, Ok, Err}
use Rattle.standard.specs.Sizes.{per_slot}
use Rattle.standard.specs.Told.{pick}
use Rattle.standard.specs.Bands.{row_of, short_rows, short_start}
use Rattle.standard.specs.Header.{is_header}
use Rattle.standard.specs.Record.{shape_of}
use Rattle.standard.specs.SideInfo.{is_record_under}
use Rattle.standard.specs.declared.SampleRate.{SampleRate}
use Rattle.standard.specs.declared.FrameHeader.{FrameHeader}
use Rattle.standard.specs.declared.SlotRecord.{SlotRecord}
use Rattle.standard.specs.declared.Shape.{Shape}
use Rattle.standard.specs.declared.Shape.TheVariants.{AllLong, AllShort, LongThenShort}
use Rattle.standard.specs.declared.Refusal.TheVariants.{UnfitMemory, MadeUpRecord}
use Rattle.standard.specs.declared.Refusal.{Refusal}

-- which number comes to each place of a band of width w from a place on: at 3 j + window the one that stood at window w + j.
-- n frequencies from the j-th on
unfoldable pub band_order : ℕ → ℕ → ℕ → ℕ → List ℕ
band_order from w j zero = []
band_order from w j (suc n) = (from + j) ∷ (from + w + j) ∷ (from + 2 * w + j) ∷ band_order from w (suc j) n

-- the bands from one that starts at b, by the starts of those after it
unfoldable pub order_from : ℕ → List ℕ → List ℕ
order_from b [] = []
order_from b (c ∷ cs) = band_order (3 * b) (c - b) 0 (c - b) ++ order_from c cs

-- the bands from the k-th on
unfoldable pub order_of : SampleRate → ℕ → List ℕ
order_of rate k = order_from (short_start rate k) (drop (k + 1) (get_or short_rows (row_of rate) []))

unfoldable pub gathered : List ℕ → List ℤ → List ℤ
gathered [] d = []
gathered (i ∷ is) d = get_or d i (pos 0) ∷ gathered is d

-- the numbers of a band in their new order
unfoldable pub band_numbers : ℕ → ℕ → List ℤ → List ℤ
band_numbers from w d = gathered (band_order from w 0 w) d

-- the first band that is a short one, of 13: there is none among long ones
abbrev pub first_short : Shape → ℕ
first_short AllLong = 13
first_short AllShort = 0
first_short LongThenShort = 3

-- the first 576 numbers of a slot, those of its short bands in their new order; others stay
unfoldable pub reordered_from : SampleRate → ℕ → List ℤ → List ℤ
reordered_from rate k d = take (3 * short_start rate k) d ++ gathered (order_of rate k) (take per_slot d) ++ drop per_slot d

unfoldable pub reorder_of : FrameHeader → SlotRecord → List ℤ → Result (List ℤ) Refusal
reorder_of h r d =
    pick (ltb (length d) per_slot) (Err UnfitMemory)
    (pick (is_header h && is_record_under h r) (Ok (reordered_from h.rate (first_short (shape_of r)) d)) (Err MadeUpRecord))

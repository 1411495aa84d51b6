-- What a slot's numbers come to by how many numbers are lent and how many pairs its record has; and a refused slot
-- leaves the lent numbers as they were.
use Rattle.std.specs.Prelude.{◌≡◌, Bool, List, ◌≤◌, ◌<◌, ℤ, Err, length}
use Rattle.std.proofs.Common.{sym, ap, ◌∙◌, lt-ltb, le-ltb}
use Rattle.standard.specs.ToldLaws.{picked, passed}
use Rattle.standard.specs.Numbers.{Reader, Numbers, halted, numbers_of}
use Rattle.standard.specs.declared.SampleRate.{SampleRate}
use Rattle.standard.specs.declared.SlotRecord.{SlotRecord}
use Rattle.standard.specs.declared.Refusal.{Refusal}
use Rattle.standard.specs.declared.Refusal.TheVariants.{UnfitMemory, TooManyPairs}
use Rattle.huffman.specs.Slot.{slot_numbers, count_of, numbers_after}

module _ (word : Reader) (rate : SampleRate) (r : SlotRecord) (b : List Bool) (d : List ℤ) where
  pub slot_unfit : length d < 576 → slot_numbers word rate r b d ≡ halted UnfitMemory
  unfolding slot_numbers
  slot_unfit h = picked _ (lt-ltb (length d) 576 h)

  pub slot_crowded : 576 ≤ length d → 288 < r.big_values → slot_numbers word rate r b d ≡ halted TooManyPairs
  unfolding slot_numbers
  slot_crowded h k = passed (halted UnfitMemory) (le-ltb (length d) 576 h) ∙ picked (numbers_of word rate r b) (lt-ltb 288 r.big_values k)

  pub slot_fits : 576 ≤ length d → r.big_values ≤ 288 → slot_numbers word rate r b d ≡ numbers_of word rate r b
  unfolding slot_numbers
  slot_fits h k = passed (halted UnfitMemory) (le-ltb (length d) 576 h) ∙ passed (halted TooManyPairs) (le-ltb 288 r.big_values k)

pub refused_as : (q : Numbers) (d : List ℤ) (why : Refusal) → q ≡ halted why → (Err why ≡ count_of q) × (d ≡ numbers_after q d)
unfolding count_of numbers_after
refused_as q d why e = (sym (ap count_of e), sym (ap (λ (x : Numbers). numbers_after x d) e))

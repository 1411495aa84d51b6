-- What a slot's numbers come to where d numbers are lent for them, and what is answered and left in the lent numbers.
use Rattle.std.specs.Prelude.{Bool, List, ℕ, ltb, ℤ, Result, Ok, Err, length}
use Rattle.std.proofs.Math.Seq.{paste}
use Rattle.standard.specs.Sizes.{per_slot, most_big_values}
use Rattle.standard.specs.Told.{pick}
use Rattle.standard.specs.Numbers.{Reader, Numbers, halted, got, numbers_of, padded}
use Rattle.standard.specs.declared.SampleRate.{SampleRate}
use Rattle.standard.specs.declared.SlotRecord.{SlotRecord}
use Rattle.standard.specs.declared.Refusal.{Refusal}
use Rattle.standard.specs.declared.Refusal.TheVariants.{UnfitMemory, TooManyPairs}

-- 576 numbers are asked for, and no more pairs than they hold
unfoldable pub slot_numbers : Reader → SampleRate → SlotRecord → List Bool → List ℤ → Numbers
slot_numbers word rate r b d =
    pick (ltb (length d) per_slot) (halted UnfitMemory)
    (pick (ltb most_big_values r.big_values) (halted TooManyPairs) (numbers_of word rate r b))

-- how many numbers were read, or why they are refused
unfoldable pub count_of : Numbers → Result ℕ Refusal
count_of (halted r) = Err r
count_of (got vs b) = Ok (length vs)

-- the lent numbers afterwards: of a refused slot as they were
unfoldable pub numbers_after : Numbers → List ℤ → List ℤ
numbers_after (halted r) d = d
numbers_after (got vs b) d = paste d 0 (padded vs) per_slot

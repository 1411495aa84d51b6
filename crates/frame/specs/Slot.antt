-- What the functions on one slot answer, by the definition's outcome.
use Rattle.std.specs.Prelude.{◌≡◌, List, [], ℕ, ◌-◌, ℤ, get_or, ltb, replicate, Option, Some, None}
use Rattle.std.specs.Option.{unwrap_or}
use Rattle.standard.specs.Told.{pick}
use Rattle.standard.specs.Slots.{Outcome, slot_told, numbers_after}
use Rattle.standard.specs.declared.SlotAnswer.{SlotAnswer}
use Rattle.standard.specs.declared.SlotAnswer.TheVariants.{Read, NotRead, Lacking}

-- a slot's answer, and its own numbers after it
pub record SlotRead (o : Outcome) (d : List ℤ) (a : SlotAnswer) (left : List ℤ) : Type 0 where
  pub answer : a ≡ slot_told o
  pub numbers : left ≡ numbers_after o 0 d

-- ---- what a slot may share: long factors, or none of a slot that was refused
unfoldable pub said_long : SlotAnswer → Option (List ℕ)
said_long (Read n long short) = Some long
said_long (NotRead r) = None
said_long Lacking = Some (replicate 22 0)

-- what stands past the end of a list of answers
abbrev pub no_answer : SlotAnswer
no_answer = Read 0 [] []

-- nothing in granule 0, and in granule 1 what the answer of the same channel's granule 0 slot tells
unfoldable pub mate_in : ℕ → List SlotAnswer → ℕ → Option (List ℕ)
mate_in channels answers k = pick (ltb k channels) (Some (replicate 22 0)) (said_long (get_or answers (k - channels) no_answer))

-- the factors that stand for it
abbrev pub shared_of : Option (List ℕ) → List ℕ
shared_of m = unwrap_or m (replicate 22 0)

-- The refusals' numbers (docs/REFUSALS.md), which only text and exported calls give, and how a verdict and a value answer a reading.
use Rattle.std.specs.Prelude.{ℕ, ◌≡◌, Result, Ok, Err}
use Rattle.standard.specs.Told.{told_or, verdict_of, Verdict}
use Rattle.standard.specs.declared.Refusal.{Refusal}
use Rattle.standard.specs.declared.FrameRefusal.{FrameRefusal}
use Rattle.standard.specs.declared.FrameRefusal.TheVariants.{Unread, OutOfReach}
use Rattle.standard.specs.declared.Refusal.TheVariants.{UnfitMemory, MadeUpRecord, AbsentBytes, NoSync, ReservedVersion, ReservedLayer, OtherLayer, FreeBitrate, ForbiddenBitrate, ReservedRate, ReservedEmphasis, WrongCrc, TooManyPairs, ForbiddenBlock, MixedBlock, ShortReservoir, MissingBits, FactorOverrun, LostShare, PairOverrun, NoCodeword}

-- docs/REFUSALS.md; 23 was a refusal of regions, and is not used again
abbrev pub number_of : Refusal → ℕ
number_of UnfitMemory = 1
number_of MadeUpRecord = 14
number_of (AbsentBytes n) = 2
number_of NoSync = 3
number_of ReservedVersion = 4
number_of ReservedLayer = 5
number_of OtherLayer = 6
number_of FreeBitrate = 7
number_of ForbiddenBitrate = 8
number_of ReservedRate = 15
number_of ReservedEmphasis = 9
number_of WrongCrc = 16
number_of TooManyPairs = 10
number_of ForbiddenBlock = 11
number_of MixedBlock = 12
number_of ShortReservoir = 13
number_of MissingBits = 20
number_of FactorOverrun = 21
number_of LostShare = 22
number_of PairOverrun = 24
number_of NoCodeword = 25

-- the offset that a refusal tells; 0 where it tells none
abbrev pub offset_of : Refusal → ℕ
offset_of (AbsentBytes n) = n
offset_of UnfitMemory = 0
offset_of MadeUpRecord = 0
offset_of NoSync = 0
offset_of ReservedVersion = 0
offset_of ReservedLayer = 0
offset_of OtherLayer = 0
offset_of FreeBitrate = 0
offset_of ForbiddenBitrate = 0
offset_of ReservedRate = 0
offset_of ReservedEmphasis = 0
offset_of WrongCrc = 0
offset_of TooManyPairs = 0
offset_of ForbiddenBlock = 0
offset_of MixedBlock = 0
offset_of ShortReservoir = 0
offset_of MissingBits = 0
offset_of FactorOverrun = 0
offset_of LostShare = 0
offset_of PairOverrun = 0
offset_of NoCodeword = 0

-- ---- what the answers say
-- a verdict and a lent value answer a reading: the value is what was read, and as it was where it was refused
pub record Answers {A : Type 0} (old : A) (v : Verdict) (a : A) (t : Result A Refusal) : Type 0 where
  pub verdict : v ≡ verdict_of t
  pub value : a ≡ told_or old t

-- ---- why a frame has no slots
abbrev pub why_of : FrameRefusal → Refusal
why_of (Unread r) = r
why_of (OutOfReach h) = ShortReservoir

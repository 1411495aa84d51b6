-- `derived::offset_of` meets its contract: absent bytes tell their offset, and any other refusal none. Assumes nothing.
use mathlib.Core.Path.{◌≡◌, refl, sym, ap}
use Prim.Native.Nat.{ℕ}
use Rattle.standard.specs.declared.Refusal.{Refusal}
use Rattle.standard.specs.declared.Refusal.TheVariants.{AbsentBytes, UnfitMemory, MadeUpRecord, NoSync, ReservedVersion, ReservedLayer, OtherLayer, FreeBitrate, ForbiddenBitrate, ReservedRate, ReservedEmphasis, WrongCrc, TooManyPairs, ForbiddenBlock, MixedBlock, ShortReservoir, MissingBits, FactorOverrun, LostShare, PairOverrun, NoCodeword}
use Rattle.standard.specs.Refusals.{offset_of}
use Rattle.derived.proofs.offset_of.Goals as goal

none : (r : Refusal) → ((x : ℕ) → r ≡ AbsentBytes x → ⊥) → 0 ≡ offset_of r
none (AbsentBytes n) k = absurd (k n refl)
none UnfitMemory k = refl
none MadeUpRecord k = refl
none NoSync k = refl
none ReservedVersion k = refl
none ReservedLayer k = refl
none OtherLayer k = refl
none FreeBitrate k = refl
none ForbiddenBitrate k = refl
none ReservedRate k = refl
none ReservedEmphasis k = refl
none WrongCrc k = refl
none TooManyPairs k = refl
none ForbiddenBlock k = refl
none MixedBlock k = refl
none ShortReservoir k = refl
none MissingBits k = refl
none FactorOverrun k = refl
none LostShare k = refl
none PairOverrun k = refl
none NoCodeword k = refl

pub returns-in-AbsentBytes : goal.returns-in-AbsentBytes
returns-in-AbsentBytes c = sym (ap offset_of c.in-AbsentBytes.is)

pub returns-in_default : goal.returns-in_default
returns-in_default c = none c.args.why c.in_default.not-AbsentBytes

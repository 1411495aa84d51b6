-- A refusal is no reading, what an answer says leaves one answer, and the ways to answer.
use Rattle.std.specs.Prelude.{◌≡◌, refl, List, [], ◌∷◌, ℕ, get_or, Result, Ok, Err}
use Rattle.std.proofs.Common.{sym, ap, ◌∙◌, arith}
use Rattle.standard.specs.Told.{told_or, verdict_of, Verdict}
use Rattle.standard.specs.ToldLaws.{clash}
use Rattle.standard.specs.Refusals.{number_of, offset_of, Answers}
use Rattle.standard.specs.declared.Refusal.{Refusal}
use Rattle.standard.specs.declared.Refusal.TheVariants.{UnfitMemory, MadeUpRecord, AbsentBytes, NoSync, ReservedVersion, ReservedLayer, OtherLayer, FreeBitrate, ForbiddenBitrate, ReservedRate, ReservedEmphasis, WrongCrc, TooManyPairs, ForbiddenBlock, MixedBlock, ShortReservoir, MissingBits, FactorOverrun, LostShare, PairOverrun, NoCodeword}

pub apart : {A B : Type 0} {r : Refusal} {a : A} → ◌≡◌ {A = Result A Refusal} (Err r) (Ok a) → B
apart e = clash cc

pub unlike : {B : Type 0} {r : Refusal} → ◌≡◌ {A = Verdict} (Err r) (Ok tt) → B
unlike e = clash cc

pub one-reason : {A : Type 0} {r q : Refusal} → ◌≡◌ {A = Result A Refusal} (Err r) (Err q) → r ≡ q
one-reason e = cc

pub why_is : {r q : Refusal} → ◌≡◌ {A = Verdict} (Err r) (Err q) → r ≡ q
why_is e = cc

-- a verdict with its value
pub one_answer : {A : Type 0} {blank : A} {v w : Verdict} {a b : A} {t : Result A Refusal} → Answers blank v a t → Answers blank w b t → (v ≡ w) × (a ≡ b)
one_answer p q = (p.verdict ∙ sym q.verdict, p.value ∙ sym q.value)

-- the two ways to answer
pub answers_refused : {A : Type 0} {blank : A} {r : Refusal} {t : Result A Refusal} → t ≡ Err r → Answers blank (Err r) blank t
unfolding verdict_of told_or
answers_refused {A} {blank} e = record { verdict = sym (ap verdict_of e); value = sym (ap (told_or blank) e) }

pub answers_told : {A : Type 0} {blank a : A} {t : Result A Refusal} → t ≡ Ok a → Answers blank (Ok tt) a t
unfolding verdict_of told_or
answers_told {A} {blank} e = record { verdict = sym (ap verdict_of e); value = sym (ap (told_or blank) e) }

-- and what was read, by the verdict
pub answered_told : {A : Type 0} {blank a : A} {v : Verdict} {t : Result A Refusal} → Answers blank v a t → v ≡ Ok tt → t ≡ Ok a
unfolding verdict_of told_or
answered_told {A} {blank} {a} {v} {t} r e = go t (sym r.verdict ∙ e) r.value
  where
    go : (t : Result A Refusal) → verdict_of t ≡ Ok tt → a ≡ told_or blank t → t ≡ Ok a
    go (Err k) p q = unlike p
    go (Ok x) p q = ap Ok (sym q)

pub refused_for_lem : {A : Type 0} {r : Refusal} (t : Result A Refusal) → verdict_of t ≡ Err r → t ≡ Err r
unfolding verdict_of
refused_for_lem (Err k) e = ap Err (why_is e)
refused_for_lem (Ok a) e = unlike (sym e)

pub answered_refused : {A : Type 0} {blank a : A} {v : Verdict} {r : Refusal} {t : Result A Refusal} → Answers blank v a t → v ≡ Err r → t ≡ Err r
answered_refused {A} {t = t} q e = refused_for_lem t (sym q.verdict ∙ e)

-- ---- number and offset together tell the reason
-- the refusals by number, with an offset for the one that tells it; numbers without a refusal are filled up
refusals : ℕ → List Refusal
refusals n =
    NoSync ∷ UnfitMemory ∷ AbsentBytes n ∷ NoSync ∷ ReservedVersion ∷ ReservedLayer ∷ OtherLayer ∷ FreeBitrate ∷ ForbiddenBitrate ∷ ReservedEmphasis ∷
    TooManyPairs ∷ ForbiddenBlock ∷ MixedBlock ∷ ShortReservoir ∷ MadeUpRecord ∷ ReservedRate ∷ WrongCrc ∷ NoSync ∷ NoSync ∷ NoSync ∷
    MissingBits ∷ FactorOverrun ∷ LostShare ∷ NoSync ∷ PairOverrun ∷ NoCodeword ∷ []

back : (r : Refusal) → get_or (refusals (offset_of r)) (number_of r) NoSync ≡ r
unfolding refusals
back (AbsentBytes n) = refl
back UnfitMemory = refl
back MadeUpRecord = refl
back NoSync = refl
back ReservedVersion = refl
back ReservedLayer = refl
back OtherLayer = refl
back FreeBitrate = refl
back ForbiddenBitrate = refl
back ReservedRate = refl
back ReservedEmphasis = refl
back WrongCrc = refl
back TooManyPairs = refl
back ForbiddenBlock = refl
back MixedBlock = refl
back ShortReservoir = refl
back MissingBits = refl
back FactorOverrun = refl
back LostShare = refl
back PairOverrun = refl
back NoCodeword = refl

pub one_number : (r q : Refusal) → number_of r ≡ number_of q → offset_of r ≡ offset_of q → r ≡ q
one_number r q e f = sym (back r) ∙ (λ j. get_or (refusals (f j)) (e j) NoSync) ∙ back q

-- a number is that of the refusal in its place
by_number : (r : Refusal) (n : ℕ) → number_of r ≡ n → r ≡ get_or (refusals (offset_of r)) n NoSync
by_number r n e = sym (back r) ∙ ap (λ (k : ℕ). get_or (refusals (offset_of r)) k NoSync) e

-- 13 is told of a short reservoir alone
pub short_only : (r : Refusal) → number_of r ≡ 13 → r ≡ ShortReservoir
unfolding refusals
short_only r e = by_number r 13 e

-- 23 was a refusal's once, and is none's again: nothing but the filling stands in its place
pub withdrawn : (r : Refusal) → number_of r ≡ 23 → ⊥
unfolding refusals
withdrawn r e = let filled : r ≡ NoSync = by_number r 23 e in omega (arith, e, ap number_of filled)

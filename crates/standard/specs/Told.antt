-- What a reading answers, a `Result`: what was read, or the reason of a refusal; and how a test picks between two answers.
use Rattle.std.specs.Prelude.{Bool, true, false, Result, Ok, Err, ⊤}
use Rattle.standard.specs.declared.Refusal.{Refusal}

unfoldable pub pick : {A : Type 0} → Bool → A → A → A
pick true a b = a
pick false a b = b

-- what was read, and of a refusal a value that says nothing
unfoldable pub told_or : {A : Type 0} → A → Result A Refusal → A
told_or blank (Err r) = blank
told_or blank (Ok a) = a

-- accepted, or why it is refused
abbrev pub Verdict : Type 0
Verdict = Result ⊤ Refusal

-- whether it was read, and if not, why
unfoldable pub verdict_of : {A : Type 0} → Result A Refusal → Verdict
verdict_of (Err r) = Err r
verdict_of (Ok a) = Ok tt

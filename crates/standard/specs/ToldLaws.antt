-- What a test that is known makes of a pick; what a reading that told something passed on the way; and of two tests that both hold or both fail.
use Rattle.std.specs.Prelude.{◌≡◌, refl, Bool, true, false, ◌&&◌, ◌||◌, ℕ, Result, Ok, Err}
use Rattle.std.proofs.Common.{sym, ap, ◌∙◌, arith}
use Rattle.standard.specs.Told.{pick}
use Rattle.standard.specs.declared.Refusal.{Refusal}

pub picked : {A : Type 0} {b : Bool} {x : A} (y : A) → b ≡ true → pick b x y ≡ x
unfolding pick
picked {A} {b} {x} y e = ap (λ (t : Bool). pick t x y) e

pub passed : {A : Type 0} {b : Bool} (x : A) {y : A} → b ≡ false → pick b x y ≡ y
unfolding pick
passed {A} {b} x {y} e = ap (λ (t : Bool). pick t x y) e

-- what is built otherwise is not the same: `clash cc`, from an equation between two constructors
pub clash : {A : Type 0} → ◌≡◌ {A = ℕ} 0 1 → A
clash z = let w : ⊥ = omega arith in absurd w

pub never : {A : Type 0} → false ≡ true → A
never e = clash cc

-- where something was told, no refusal was met on the way
pub no_refusal : {A : Type 0} (b : Bool) (r : Refusal) (y : Result A Refusal) (a : A) → pick b (Err r) y ≡ Ok a → (b ≡ false) × (y ≡ Ok a)
unfolding pick
no_refusal true r y a e = clash cc
no_refusal false r y a e = (refl, e)

pub told_is : {A : Type 0} {a b : A} → ◌≡◌ {A = Result A Refusal} (Ok a) (Ok b) → a ≡ b
told_is e = cc

pub both_of : (a b : Bool) → a && b ≡ true → (a ≡ true) × (b ≡ true)
both_of true b e = (refl, e)
both_of false b e = never e

pub both : {a b : Bool} → a ≡ true → b ≡ true → a && b ≡ true
both {a} {b} p q = ap (λ (x : Bool). x && b) p ∙ q

pub either_left : {a : Bool} (b : Bool) → a ≡ true → a || b ≡ true
either_left b e = ap (λ (x : Bool). x || b) e

pub either_right : (a : Bool) {b : Bool} → b ≡ true → a || b ≡ true
either_right true e = refl
either_right false e = e

pub neither_of : (a b : Bool) → a || b ≡ false → (a ≡ false) × (b ≡ false)
neither_of true b e = never (sym e)
neither_of false b e = (refl, e)

pub neither : {a b : Bool} → a ≡ false → b ≡ false → a || b ≡ false
neither {a} {b} p q = ap (λ (x : Bool). x || b) p ∙ q

-- what holds of either side of a pick, under its test, holds of the pick
pub either_way : {A : Type 0} (F : A → Type 0) (b : Bool) (x y : A) → (b ≡ true → F x) → (b ≡ false → F y) → F (pick b x y)
unfolding pick
either_way F true x y f g = f refl
either_way F false x y f g = g refl

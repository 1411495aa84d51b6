-- A row of values, as a table of the standard has it: whether a value stands in it, and where first. The test for equality is handed in.
use Rattle.std.specs.Prelude.{Bool, true, false, ◌||◌, List, [], ◌∷◌, ℕ, suc}

unfoldable pub member : {A : Type 0} → (A → A → Bool) → A → List A → Bool
member same x [] = false
member same x (y ∷ ys) = same x y || member same x ys

unfoldable pub later : Bool → ℕ → ℕ
later true n = 0
later false n = suc n

-- the first place at which x stands; the length where it does not
unfoldable pub place : {A : Type 0} → (A → A → Bool) → A → List A → ℕ
place same x [] = 0
place same x (y ∷ ys) = later (same x y) (place same x ys)

-- What is left in the numbers that are lent for a slot. q is what is read by the definition, out₀ and out are
-- the numbers before and after it.
use Rattle.std.specs.Prelude.{◌≡◌, Bool, List, ℕ, ◌≤◌, ℤ, Result, Ok, Err, length, take, drop}
use Rattle.standard.specs.Sizes.{per_slot}
use Rattle.standard.specs.Numbers.{Numbers, halted, got}
use Rattle.standard.specs.declared.Refusal.{Refusal}

-- q was read up to the numbers vs, whichever bits are left
pub record Gave (q : Numbers) (vs : List ℤ) : Type 0 where
  pub rest : List Bool
  pub same : q ≡ got vs rest

-- the first n numbers were read, at least `from` of them, and those after them stand as before
pub record Filled (q : Numbers) (from : ℕ) (out₀ out : List ℤ) (n : ℕ) : Type 0 where
  pub low : from ≤ n
  pub high : n ≤ per_slot
  pub gave : Gave q (take n out)
  pub kept : drop n out ≡ drop n out₀

unfoldable pub Says : Numbers → ℕ → List ℤ → List ℤ → Result ℕ Refusal → Type 0
Says q from out₀ out (Err r) = q ≡ halted r
Says q from out₀ out (Ok n) = Filled q from out₀ out n

pub record NumbersRead (q : Numbers) (from : ℕ) (out₀ out : List ℤ) (r : Result ℕ Refusal) : Type 0 where
  pub long : length out ≡ per_slot
  pub says : Says q from out₀ out r

-- A number as text.
use Rattle.std.specs.Prelude.{List, [], ◌∷◌, ◌++◌, ℕ, zero, suc, ◌+◌, ◌/◌, ◌%◌, ltb, ℤ, pos, negsuc}
use Rattle.standard.specs.Told.{pick}

-- the decimal digits of n in ASCII, the most significant first, with no zeros in front; of a number of more than k digits, the last k
unfoldable pub digits_of : ℕ → ℕ → List ℕ
digits_of zero n = []
digits_of (suc k) n = pick (ltb n 10) ((48 + n) ∷ []) (digits_of k (n / 10) ++ ((48 + n % 10) ∷ []))

-- twenty digits hold any number of 64 bits
unfoldable pub decimal_of : ℕ → List ℕ
decimal_of n = digits_of 20 n

-- a number below 0 has a minus sign in front
unfoldable pub signed_of : ℤ → List ℕ
signed_of (pos n) = decimal_of n
signed_of (negsuc n) = 45 ∷ decimal_of (suc n)

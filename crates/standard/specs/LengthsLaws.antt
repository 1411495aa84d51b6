-- There are three ranges of scalefac_compress.
use Rattle.std.specs.Prelude.{Bool, true, false, ℕ, ◌/◌, ◌<◌, ltb}
use Rattle.std.proofs.Common.{arith}
use Rattle.standard.specs.Told.{pick}
use Rattle.standard.specs.Lengths.{range_in, low_range}

one_of_three : (a b : Bool) → pick a 0 (pick b 1 2) < 3
unfolding pick
one_of_three true b = omega arith
one_of_three false true = omega arith
one_of_three false false = omega arith

pub range_lt : (intensity : Bool) (c : ℕ) → low_range intensity c < 3
unfolding low_range range_in
range_lt false c = one_of_three (ltb c 400) (ltb c 500)
range_lt true c = one_of_three (ltb (c / 2) 180) (ltb (c / 2) 244)

-- Equality of integers and of floats as data: -0.0 is not 0.0, and a NaN is itself.
use Rattle.std.specs.Prelude.{Bool, true, false, ◌&&◌, eqb, ℤ, pos, negsuc, Float}
use Rattle.std.specs.Bool.{beq}
use Rattle.std.specs.Float.{nan, inf, fin}

unfoldable pub same_int : ℤ → ℤ → Bool
same_int (pos m) (pos n) = eqb m n
same_int (pos m) (negsuc n) = false
same_int (negsuc m) (pos n) = false
same_int (negsuc m) (negsuc n) = eqb m n

unfoldable pub same_float : Float → Float → Bool
same_float nan nan = true
same_float nan (inf t) = false
same_float nan (fin t n d) = false
same_float (inf s) nan = false
same_float (inf s) (inf t) = beq s t
same_float (inf s) (fin t n d) = false
same_float (fin s m e) nan = false
same_float (fin s m e) (inf t) = false
same_float (fin s m e) (fin t n d) = beq s t && eqb m n && same_int e d

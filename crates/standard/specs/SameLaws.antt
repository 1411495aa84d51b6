-- The tests for equality are right both ways.
use Rattle.std.specs.Prelude.{◌≡◌, refl, Bool, true, false, ◌&&◌, eqb, ℤ, pos, negsuc, Float}
use Rattle.std.proofs.Common.{ap, eqb-true, eq-eqb}
use Rattle.std.specs.Bool.{beq}
use Rattle.std.specs.Float.{nan, inf, fin}
use Rattle.standard.specs.Same.{same_int, same_float}
use Rattle.standard.specs.ToldLaws.{never, both, both_of}

pub beq_self : (x : Bool) → beq x x ≡ true
beq_self true = refl
beq_self false = refl

pub beq_is : (x y : Bool) → beq x y ≡ true → x ≡ y
beq_is true true e = refl
beq_is true false e = never e
beq_is false true e = never e
beq_is false false e = refl

int_self : (x : ℤ) → same_int x x ≡ true
unfolding same_int
int_self (pos n) = eq-eqb n n refl
int_self (negsuc n) = eq-eqb n n refl

int_is : (x y : ℤ) → same_int x y ≡ true → x ≡ y
unfolding same_int
int_is (pos m) (pos n) e = ap pos (eqb-true m n e)
int_is (pos m) (negsuc n) e = never e
int_is (negsuc m) (pos n) e = never e
int_is (negsuc m) (negsuc n) e = ap negsuc (eqb-true m n e)

pub float_self : (x : Float) → same_float x x ≡ true
unfolding same_float
float_self nan = refl
float_self (inf s) = beq_self s
float_self (fin s m e) = both (both (beq_self s) (eq-eqb m m refl)) (int_self e)

pub float_is : (x y : Float) → same_float x y ≡ true → x ≡ y
unfolding same_float
float_is nan nan h = refl
float_is nan (inf t) h = never h
float_is nan (fin t n d) h = never h
float_is (inf s) nan h = never h
float_is (inf s) (inf t) h = ap inf (beq_is s t h)
float_is (inf s) (fin t n d) h = never h
float_is (fin s m e) nan h = never h
float_is (fin s m e) (inf t) h = never h
float_is (fin s m e) (fin t n d) h =
    let p = both_of (beq s t && eqb m n) (same_int e d) h in
    let q = both_of (beq s t) (eqb m n) p.0 in
    λ j. fin (beq_is s t q.0 j) (eqb-true m n q.1 j) (int_is e d p.1 j)

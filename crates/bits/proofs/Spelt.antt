-- Why bytes side by side spell a number, and why the field of some bits is cut out of the eight bytes from its first on.
use mathlib.Core.Path.{◌≡◌, refl, sym, ap, ◌∙◌}
use mathlib.Core.List.{List, [], ◌∷◌}
use Prim.Native.Nat.{ℕ, ◌+◌, ◌-◌, ◌*◌, ◌/◌, ◌%◌, ◌^◌, ◌≤◌, ◌<◌, min}
use native.Mathlib.Nat.{div-div-eq-div-mul, mod-eq_of_lt, one-mul}
use native.Mathlib.Omega.{arith}
use lib.ListN.{get_or}
use lib.Pow.{pow_mono}
use mir.Syntax.{w64}
use Rattle.std.proofs.Common.{pow-add}
use Rattle.std.specs.Int.{from_be_bytes}
use Rattle.standard.specs.Bits.{bits, value, value_from, field_at}
use Rattle.standard.specs.BitsLaws.{byte-value, field_at_add, field_at_cut, field_at_lt}

pub none_spelt : (s : List ℕ) (at : ℕ) → 0 ≡ field_at s at 0
unfolding field_at bits value value_from
none_spelt s at = refl

-- k bytes, and one more
module _ (s : List ℕ) (i k : ℕ) {v : ℕ} (e : v ≡ field_at s (8 * i) (8 * k)) where
  pub spelt_on : {x : ℕ} → (x ≡ get_or s (i + k) 0) × (x < 256) → v * 256 + x ≡ field_at s (8 * i) (8 * (k + 1))
  spelt_on {x} f =
      let p : 8 * (i + k) ≡ 8 * i + 8 * k = omega arith in
      let q : 8 * k + 8 ≡ 8 * (k + 1) = omega arith in
      let g : x ≡ field_at s (8 * i + 8 * k) 8 = f.0 ∙ sym (byte-value s (i + k) (omega (arith, f.0, f.1))) ∙ ap (λ (a : ℕ). field_at s a 8) p in
      (λ j. e j * 256 + g j) ∙ sym (field_at_add s (8 * i) (8 * k) 8) ∙ ap (field_at s (8 * i)) q

  pub spelt_small : k < 8 → v < 2 ^ 56
  spelt_small h =
      let p : 8 * k ≤ 56 = omega arith in
      let q : 2 ^ (8 * k) ≤ 2 ^ 56 = pow_mono p in
      omega (arith, field_at_lt s (8 * i) (8 * k))

-- eight bytes at once
pub eight_spelt : (s : List ℕ) (i : ℕ) → ((k : ℕ) → get_or s k 0 < 256)
    → from_be_bytes w64 (get_or s i 0 ∷ get_or s (i + 1) 0 ∷ get_or s (i + 2) 0 ∷ get_or s (i + 3) 0 ∷ get_or s (i + 4) 0 ∷ get_or s (i + 5) 0 ∷ get_or s (i + 6) 0 ∷ get_or s (i + 7) 0 ∷ [])
    ≡ field_at s (8 * i) 64
eight_spelt s i small = omega (arith, first, on 7 (on 6 (on 5 (on 4 (on 3 (on 2 (on 1 (on 0 (none_spelt s (8 * i))))))))))
  where
    first : get_or s (i + 0) 0 ≡ get_or s i 0
    first = let p : i + 0 ≡ i = omega arith in ap (λ (k : ℕ). get_or s k 0) p

    on : (k : ℕ) {v : ℕ} → v ≡ field_at s (8 * i) (8 * k) → v * 256 + get_or s (i + k) 0 ≡ field_at s (8 * i) (8 * (k + 1))
    on k e = spelt_on s i k e (refl, small (i + k))

-- n bits among the 64 from a byte on
pub cut : (s : List ℕ) (at n m : ℕ) {v : ℕ} → m ≡ min n 57 → v ≡ field_at s (8 * (at / 8)) 64
    → v / 2 ^ (7 - at % 8) / 2 ^ (57 - m) % (1 * 2 ^ m % 2 ^ 64) ≡ field_at s at (min n 57)
cut s at n m {v} e w =
    let k = at % 8 in
    let a = 7 - k in
    let b = 57 - m in
    let h : m ≤ 57 = omega arith in
    let g : 2 ^ m ≤ 2 ^ 57 = pow_mono h in
    let mask : 1 * 2 ^ m % 2 ^ 64 ≡ 2 ^ m = mod-eq_of_lt (rw one-mul (omega arith)) ∙ one-mul (2 ^ m) in
    let p : 64 ≡ k + m + (a + b) = omega arith in
    let q : 8 * (at / 8) + k ≡ at = omega arith in
    (λ j. (div-div-eq-div-mul v (2 ^ a) (2 ^ b) ∙ ap (λ (d : ℕ). v / d) (sym (pow-add 2 a b))) j % mask j)
    ∙ (λ j. (w ∙ ap (field_at s (8 * (at / 8))) p) j / 2 ^ (a + b) % 2 ^ m)
    ∙ sym (field_at_cut s (8 * (at / 8)) k m (a + b))
    ∙ (λ j. field_at s (q j) (e j))

pub small : (s : List ℕ) (at n m : ℕ) {v : ℕ} → m ≡ min n 16 → v ≡ field_at s at (min m 57) → v < 65536
small s at n m e w =
    let h : min m 57 ≤ 16 = omega arith in
    let g : 2 ^ min m 57 ≤ 2 ^ 16 = pow_mono h in
    omega (arith, w, field_at_lt s at (min m 57))

-- Rows of bits added up are numbers combined by exclusive or; so the register after a byte is a number made by shifts.
use mathlib.Core.Path.{◌≡◌, refl, sym, ap, ◌∙◌}
use mathlib.Core.Bool.{Bool, true, false, ◌&&◌}
use mathlib.Core.List.{List, [], ◌∷◌, ◌++◌}
use Prim.Native.Nat.{ℕ, ◌+◌, ◌*◌, ◌/◌, ◌%◌, ◌^◌, ◌<◌}
use native.Mathlib.Nat.{mul_comm}
use native.Mathlib.Omega.{arith}
use borrow.Author.Tests.{eqb-true}
use lib.Bits.{bit_xor, xor_block, xor_lt}
use lib.Dec.{eqb}
use lib.ListN.{length, replicate}
use Rattle.standard.specs.ToldLaws.{both_of}
use Rattle.standard.specs.Bits.{one, value_from, value}
use Rattle.standard.specs.BitsLaws.{one-le, value-below, value-two}
use Rattle.standard.specs.Written.{bits_of, bits-own}
use Rattle.standard.specs.Crc.{differ, added, fed}
use Rattle.crc.specs.Odd.{odd_from, odd_of}
use Rattle.crc.proofs.Bytes.{assoc, swap, low_taps, eight_fed}

xor_one : (x y : Bool) → bit_xor (one x) (one y) ≡ one (differ x y)
unfolding differ
xor_one true true = refl
xor_one true false = refl
xor_one false true = refl
xor_one false false = refl

xor_next : (a d : ℕ) (x y : Bool) → bit_xor (2 * a + one x) (2 * d + one y) ≡ 2 * bit_xor a d + one (differ x y)
xor_next a d x y =
    (λ j. bit_xor (mul_comm 2 a j + one x) (mul_comm 2 d j + one y))
    ∙ xor_block 1 a d (one x) (one y) (omega (arith, one-le x)) (omega (arith, one-le y))
    ∙ (λ j. mul_comm (bit_xor a d) 2 j + xor_one x y j)

value-added : (p q : List Bool) (a d : ℕ) → length p ≡ length q → value_from (bit_xor a d) (added p q) ≡ bit_xor (value_from a p) (value_from d q)
unfolding value_from added
value-added [] [] a d h = refl
value-added [] (y ∷ q) a d h = absurd (omega arith)
value-added (x ∷ p) [] a d h = absurd (omega arith)
value-added (x ∷ p) (y ∷ q) a d h =
    ap (λ (n : ℕ). value_from n (added p q)) (sym (xor_next a d x y)) ∙ value-added p q (2 * a + one x) (2 * d + one y) (omega arith)

-- ---- a row of sixteen bits as a high and a low byte
module _ (h l : List Bool) (eight : length l ≡ 8) where
  high : value (h ++ l) / 256 ≡ value h
  high = omega (arith, value-two h l 8 eight, value-below l 8 eight)

  -- the low byte moved up
  low_up : value (h ++ l) * 256 % 65536 ≡ value (l ++ replicate 8 false)
  unfolding value value_from
  low_up = omega (arith, value-two h l 8 eight, value-below l 8 eight, value-two l (replicate 8 false) 8 refl)

-- eight bits moved up by one and by two, among sixteen
module _ (x : List Bool) (eight : length x ≡ 8) where
  up_one : value x * 2 % 65536 ≡ value (replicate 7 false ++ x ++ replicate 1 false)
  unfolding value value_from
  up_one = omega (arith, value-two (replicate 7 false ++ x) (replicate 1 false) 1 refl, value-below x 8 eight)

  up_two : value x * 4 % 65536 ≡ value (replicate 6 false ++ x ++ replicate 2 false)
  unfolding value value_from
  up_two = omega (arith, value-two (replicate 6 false ++ x) (replicate 2 false) 2 refl, value-below x 8 eight)

taps-value : (p : Bool) → one p * 32771 ≡ value (low_taps p)
unfolding value value_from
taps-value true = refl
taps-value false = refl

-- ---- THE REGISTER AFTER A BYTE: r has sixteen bits, b eight
module _ (r15 r14 r13 r12 r11 r10 r9 r8 r7 r6 r5 r4 r3 r2 r1 r0 b7 b6 b5 b4 b3 b2 b1 b0 : Bool) where
  abbrev whole : List Bool
  whole = r15 ∷ r14 ∷ r13 ∷ r12 ∷ r11 ∷ r10 ∷ r9 ∷ r8 ∷ r7 ∷ r6 ∷ r5 ∷ r4 ∷ r3 ∷ r2 ∷ r1 ∷ r0 ∷ []

  abbrev byte : List Bool
  byte = b7 ∷ b6 ∷ b5 ∷ b4 ∷ b3 ∷ b2 ∷ b1 ∷ b0 ∷ []

  abbrev top : List Bool
  top = r15 ∷ r14 ∷ r13 ∷ r12 ∷ r11 ∷ r10 ∷ r9 ∷ r8 ∷ []

  abbrev low : List Bool
  low = r7 ∷ r6 ∷ r5 ∷ r4 ∷ r3 ∷ r2 ∷ r1 ∷ r0 ∷ []

  abbrev x : List Bool
  x = added top byte

  x-value : bit_xor (value whole / 256) (value byte) ≡ value x
  unfolding value
  x-value = ap (λ (n : ℕ). bit_xor n (value byte)) (high top low refl) ∙ sym (value-added top byte 0 0 refl)

  pub by_shifts : (c b p : ℕ) → c ≡ value whole → b ≡ value byte → p ≡ one (odd_of (bits_of 8 (bit_xor (c / 256) b)))
      → bit_xor (bit_xor (bit_xor (c * 256 % 65536) (bit_xor (c / 256) b * 2 % 65536)) (bit_xor (c / 256) b * 4 % 65536)) (p * 32771) ≡ value (fed whole byte)
  unfolding value added
  by_shifts c b p ec eb ep =
      let n : bit_xor (c / 256) b ≡ value x = (λ j. bit_xor (ec j / 256) (eb j)) ∙ x-value in
      let a = ap (λ (m : ℕ). m * 256 % 65536) ec ∙ low_up top low refl in
      let one_up = ap (λ (m : ℕ). m * 2 % 65536) n ∙ up_one x refl in
      let two_up = ap (λ (m : ℕ). m * 4 % 65536) n ∙ up_two x refl in
      let tell = ep ∙ ap (λ (m : ℕ). one (odd_of (bits_of 8 m))) n ∙ ap (λ (l : List Bool). one (odd_of l)) (bits-own 8 x refl) in
      let at_taps = ap (λ (m : ℕ). m * 32771) tell ∙ taps-value (odd_of x) in
      let A = low ++ replicate 8 false in
      let X1 = replicate 7 false ++ x ++ replicate 1 false in
      let X2 = replicate 6 false ++ x ++ replicate 2 false in
      (λ j. bit_xor (bit_xor (bit_xor (a j) (one_up j)) (two_up j)) (at_taps j))
      ∙ sym
      (ap value (eight_fed r15 r14 r13 r12 r11 r10 r9 r8 r7 r6 r5 r4 r3 r2 r1 r0 b7 b6 b5 b4 b3 b2 b1 b0)
      ∙ value-added (added (added A X1) X2) (low_taps (odd_of x)) 0 0 refl
      ∙ ap (λ (m : ℕ). bit_xor m (value (low_taps (odd_of x)))) (value-added (added A X1) X2 0 0 refl ∙ ap (λ (m : ℕ). bit_xor m (value X2)) (value-added A X1 0 0 refl)))

-- ---- whether an odd number of eight bits are set, by folding them to four
-- a bit counts wherever it stands
odd_out : (o y : Bool) (p : List Bool) → odd_from (differ o y) p ≡ differ (odd_from o p) y
unfolding odd_from
odd_out o y [] = refl
odd_out o y (x ∷ p) = ap (λ (z : Bool). odd_from z p) (swap o y x) ∙ odd_out (differ o x) y p

odd_added : (o : Bool) (p q : List Bool) → length p ≡ length q → odd_from o (added p q) ≡ odd_from (odd_from o p) q
unfolding odd_from added
odd_added o [] [] h = refl
odd_added o [] (y ∷ q) h = absurd (omega arith)
odd_added o (x ∷ p) [] h = absurd (omega arith)
odd_added o (x ∷ p) (y ∷ q) h =
    ap (λ (z : Bool). odd_from z (added p q)) (assoc o x y) ∙ odd_added (differ (differ o x) y) p q (omega arith)
    ∙ ap (λ (z : Bool). odd_from z q) (odd_out (differ o x) y p)

-- a test of both values
both_ways : (p : Bool → Bool) → p true && p false ≡ true → (b : Bool) → p b ≡ true
both_ways p e true = (both_of (p true) (p false) e).0
both_ways p e false = (both_of (p true) (p false) e).1

odd_in_four : Bool → Bool → Bool → Bool → Bool
odd_in_four a b c d = eqb (0x6996 / 2 ^ value (a ∷ b ∷ c ∷ d ∷ []) % 2) (one (odd_of (a ∷ b ∷ c ∷ d ∷ [])))

odd_in_four_lem : (a b c d : Bool) → odd_in_four a b c d ≡ true
unfolding odd_in_four value value_from odd_from differ
odd_in_four_lem a b c d =
    both_ways (odd_in_four a b c)
    (both_ways (λ c. odd_in_four a b c true && odd_in_four a b c false)
    (both_ways (λ b. (odd_in_four a b true true && odd_in_four a b true false) && (odd_in_four a b false true && odd_in_four a b false false))
    (both_ways (λ a.
    ((odd_in_four a true true true && odd_in_four a true true false) && (odd_in_four a true false true && odd_in_four a true false false))
    && ((odd_in_four a false true true && odd_in_four a false true false) && (odd_in_four a false false true && odd_in_four a false false false))) refl a) b) c) d

module _ (x7 x6 x5 x4 x3 x2 x1 x0 : Bool) where
  abbrev upper : List Bool
  upper = x7 ∷ x6 ∷ x5 ∷ x4 ∷ []

  abbrev lower : List Bool
  lower = x3 ∷ x2 ∷ x1 ∷ x0 ∷ []

  folded : (v : ℕ) → v ≡ value (upper ++ lower) → bit_xor (v / 16) v % 16 ≡ value (added upper lower)
  unfolding value
  folded v e =
      let u = value upper in
      let l = value lower in
      let small = value-below upper 4 refl in
      let low = value-below lower 4 refl in
      let whole : v ≡ u * 2 ^ 4 + l = e ∙ value-two upper lower 4 refl in
      let top : v / 16 ≡ 0 * 2 ^ 4 + u = omega arith in
      let apart : bit_xor (v / 16) v ≡ bit_xor 0 u * 2 ^ 4 + bit_xor u l = (λ j. bit_xor (top j) (whole j)) ∙ xor_block 4 0 u u l small low in
      let rest : bit_xor u l < 2 ^ 4 = xor_lt 4 u l small low in
      let kept : bit_xor (v / 16) v % 16 ≡ bit_xor u l = omega arith in
      kept ∙ sym (value-added upper lower 0 0 refl)

  in_order : odd_of (added upper lower) ≡ odd_of (upper ++ lower)
  unfolding added odd_from
  in_order =
      odd_added (differ x7 x3) (x6 ∷ x5 ∷ x4 ∷ []) (x2 ∷ x1 ∷ x0 ∷ []) refl
      ∙ ap (λ (o : Bool). odd_from o (x2 ∷ x1 ∷ x0 ∷ [])) (odd_out x7 x3 (x6 ∷ x5 ∷ x4 ∷ []))

  pub by_folding : (v : ℕ) → v ≡ value (upper ++ lower) → 0x6996 / 2 ^ (bit_xor (v / 16) v % 16) % 2 ≡ one (odd_of (upper ++ lower))
  unfolding odd_in_four added
  by_folding v e =
      ap (λ (n : ℕ). 0x6996 / 2 ^ n % 2) (folded v e) ∙ eqb-true _ _ (odd_in_four_lem (differ x7 x3) (differ x6 x2) (differ x5 x1) (differ x4 x0)) ∙ ap one in_order

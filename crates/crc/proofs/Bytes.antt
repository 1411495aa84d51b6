-- Eight bits at once: with the register's high byte they come out one after the other, each with all that came out before it; what is added
-- again of two that follow each other is the second alone. So with x the high byte and the eight bits added up, the register is its low byte moved up,
-- x moved up by one and by two, and, where x has an odd number of bits set, the three lowest taps.
use mathlib.Core.Path.{◌≡◌, refl, sym, ap, ◌∙◌}
use mathlib.Core.Bool.{Bool, true, false}
use mathlib.Core.List.{List, [], ◌∷◌, ◌++◌}
use lib.ListN.{replicate}
use Rattle.standard.specs.Crc.{differ, added, taps, feed, fed}
use Rattle.standard.specs.CrcLaws.{differ_back}
use Rattle.crc.specs.Odd.{odd_from, odd_of}

comm : (x y : Bool) → differ x y ≡ differ y x
unfolding differ
comm true true = refl
comm true false = refl
comm false true = refl
comm false false = refl

pub assoc : (r o x : Bool) → differ r (differ o x) ≡ differ (differ r o) x
unfolding differ
assoc r o false = refl
assoc r false true = refl
assoc true true true = refl
assoc false true true = refl

pub swap : (o y x : Bool) → differ (differ o y) x ≡ differ (differ o x) y
swap o y x = sym (assoc o y x) ∙ ap (differ o) (comm y x) ∙ assoc o x y

next : (o r b : Bool) → differ (differ r o) b ≡ differ o (differ r b)
next o r b = ap (λ (x : Bool). differ x b) (comm r o) ∙ sym (assoc o r b)

-- what came out before is gone where two are added
through : (o x : Bool) → differ (differ false o) (differ o x) ≡ differ false x
through o x = assoc (differ false o) o x ∙ ap (λ (z : Bool). differ z x) (differ_back false o)

gone : (o x y : Bool) → differ (differ false o) (differ (differ o x) y) ≡ differ (differ false x) y
gone o x y = assoc (differ false o) (differ o x) y ∙ ap (λ (z : Bool). differ z y) (through o x)

before : (o x : Bool) → differ false o ≡ differ (differ false x) (differ o x)
before o x = sym (ap (differ (differ false x)) (comm o x) ∙ through x o)

-- a bit comes out with all before it
out : (r b : Bool) {o q : Bool} → o ≡ q → differ (differ r o) b ≡ differ q (differ r b)
out r b {q = q} e = ap (λ (o : Bool). differ (differ r o) b) e ∙ next q r b

-- where what comes out last is added again, with that before it
abbrev pub low_taps : Bool → List Bool
low_taps p = p ∷ replicate 13 false ++ p ∷ p ∷ []

module _ (r15 r14 r13 r12 r11 r10 r9 r8 r7 r6 r5 r4 r3 r2 r1 r0 b7 b6 b5 b4 b3 b2 b1 b0 : Bool) where
  -- the high byte and the eight bits added up
  abbrev pub out_bits : List Bool
  out_bits = added (r15 ∷ r14 ∷ r13 ∷ r12 ∷ r11 ∷ r10 ∷ r9 ∷ r8 ∷ []) (b7 ∷ b6 ∷ b5 ∷ b4 ∷ b3 ∷ b2 ∷ b1 ∷ b0 ∷ [])

  pub eight_fed : fed (r15 ∷ r14 ∷ r13 ∷ r12 ∷ r11 ∷ r10 ∷ r9 ∷ r8 ∷ r7 ∷ r6 ∷ r5 ∷ r4 ∷ r3 ∷ r2 ∷ r1 ∷ r0 ∷ [])
      (b7 ∷ b6 ∷ b5 ∷ b4 ∷ b3 ∷ b2 ∷ b1 ∷ b0 ∷ [])
      ≡ added (added (added ((r7 ∷ r6 ∷ r5 ∷ r4 ∷ r3 ∷ r2 ∷ r1 ∷ r0 ∷ []) ++ replicate 8 false) (replicate 7 false ++ out_bits ++ replicate 1 false))
      (replicate 6 false ++ out_bits ++ replicate 2 false))
      (low_taps (odd_of out_bits))
  unfolding fed feed taps added differ odd_from
  eight_fed =
      let x7 = differ r15 b7 in
      let x6 = differ r14 b6 in
      let x5 = differ r13 b5 in
      let x4 = differ r12 b4 in
      let x3 = differ r11 b3 in
      let x2 = differ r10 b2 in
      let x1 = differ r9 b1 in
      let x0 = differ r8 b0 in
      let o1 = differ x7 x6 in
      let o2 = differ o1 x5 in
      let o3 = differ o2 x4 in
      let o4 = differ o3 x3 in
      let o5 = differ o4 x2 in
      let o6 = differ o5 x1 in
      let o7 = differ o6 x0 in
      let e1 = out r14 b6 {o = x7} refl in
      let e2 = out r13 b5 e1 in
      let e3 = out r12 b4 e2 in
      let e4 = out r11 b3 e3 in
      let e5 = out r10 b2 e4 in
      let e6 = out r9 b1 e5 in
      let e7 = out r8 b0 e6 in
      (λ j. differ r7 (e7 j) ∷ r6 ∷ r5 ∷ r4 ∷ r3 ∷ r2 ∷ differ r1 x7 ∷ differ r0 (e1 j) ∷ differ (differ false x7) (e2 j) ∷ differ (differ false (e1 j)) (e3 j) ∷
      differ (differ false (e2 j)) (e4 j) ∷ differ (differ false (e3 j)) (e5 j) ∷ differ (differ false (e4 j)) (e6 j) ∷ differ (differ false (e5 j)) (e7 j) ∷
      differ false (e6 j) ∷ differ false (e7 j) ∷ [])
      ∙ (λ j. differ r7 o7 ∷ r6 ∷ r5 ∷ r4 ∷ r3 ∷ r2 ∷ differ r1 x7 ∷ assoc r0 x7 x6 j ∷ gone x7 x6 x5 j ∷ gone o1 x5 x4 j ∷
      gone o2 x4 x3 j ∷ gone o3 x3 x2 j ∷ gone o4 x2 x1 j ∷ gone o5 x1 x0 j ∷
      before o6 x0 j ∷ differ false o7 ∷ [])

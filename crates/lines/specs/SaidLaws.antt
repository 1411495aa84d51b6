-- Numbers as text, one more at a time; and a slot's line by its outcome.
use Rattle.std.specs.Prelude.{◌≡◌, Bool, List, [], ◌∷◌, ◌++◌, ℕ, ◌+◌, ◌*◌, ◌/◌, ◌%◌, ◌<◌, ℤ, length, take, drop, get_or}
use Rattle.std.proofs.Common.{sym, ◌∙◌, append_assoc, append-nil, add-one, take-suc, length-take, arith}
use Rattle.std.proofs.Math.Path.{ap}
use Rattle.std.proofs.Math.Seq.{take-length}
use Rattle.standard.specs.Told.{pick}
use Rattle.standard.specs.Refusals.{number_of}
use Rattle.standard.specs.declared.Refusal.{Refusal}
use Rattle.standard.specs.declared.SlotAnswer.{SlotAnswer}
use Rattle.standard.specs.declared.SlotAnswer.TheVariants.{Read, NotRead, Lacking}
use Rattle.lines.specs.Text.{signed_of}
use Rattle.lines.specs.Said.{numbers_text, slot_start, read_end, not_read_end, slot_line, slot_lines, slots_text}

text_snoc : (xs : List ℤ) (z : ℤ) → numbers_text (xs ++ (z ∷ [])) ≡ numbers_text xs ++ (32 ∷ []) ++ signed_of z
unfolding numbers_text
text_snoc [] z = ap (λ (t : List ℕ). 32 ∷ t) (append-nil (signed_of z))
text_snoc (x ∷ xs) z =
    ap (λ (t : List ℕ). 32 ∷ (signed_of x ++ t)) (text_snoc xs z)
    ∙ simp append_assoc

-- the numbers up to i, and the next one
pub text_next : (vs : List ℤ) (i : ℕ) (d : ℤ) → i < length vs
    → numbers_text (take (i + 1) vs) ≡ numbers_text (take i vs) ++ (32 ∷ []) ++ signed_of (get_or vs i d)
text_next vs i d h =
    ap (λ (k : ℕ). numbers_text (take k vs)) (add-one i)
    ∙ ap numbers_text (take-suc vs i d h)
    ∙ text_snoc (take i vs) (get_or vs i d)

pub text_all : (vs : List ℤ) (i : ℕ) → i ≡ length vs → numbers_text (take i vs) ≡ numbers_text vs
text_all vs i e = ap (λ (k : ℕ). numbers_text (take k vs)) e ∙ ap numbers_text (take-length vs)

-- ---- a slot's line by its outcome
module _ (two : Bool) (n : ℕ) (vs : List ℤ) where
  pub lacking_line : {o : SlotAnswer} → o ≡ Lacking → [] ≡ slot_line two n o vs
  unfolding slot_line
  lacking_line e = ap (λ (o : SlotAnswer). slot_line two n o vs) (sym e)

  pub refused_line_lem : {o : SlotAnswer} {why : Refusal} (g c : ℕ) → g ≡ pick two (n / 2) n → c ≡ pick two (n % 2) 0 → o ≡ NotRead why
      → slot_start g c ++ not_read_end (number_of why) ≡ slot_line two n o vs
  unfolding slot_line
  refused_line_lem {o} {why} g c p q e =
      (λ j. slot_start (p j) (q j) ++ not_read_end (number_of why)) ∙ ap (λ (o : SlotAnswer). slot_line two n o vs) (sym e)

  pub read-line : {o : SlotAnswer} {k : ℕ} {long short : List ℕ} (g c : ℕ) (xs : List ℤ) → g ≡ pick two (n / 2) n → c ≡ pick two (n % 2) 0
      → xs ≡ take k (drop (576 * n) vs) → o ≡ Read k long short → slot_start g c ++ read_end k xs ≡ slot_line two n o vs
  unfolding slot_line
  read-line {o} {k} {long} {short} g c xs p q f e =
      (λ j. slot_start (p j) (q j) ++ read_end k (f j)) ∙ ap (λ (o : SlotAnswer). slot_line two n o vs) (sym e)

-- ---- the slots, one more at a time
module _ (two : Bool) (vs : List ℤ) where
  slots_snoc : (n : ℕ) (ss : List SlotAnswer) (s : SlotAnswer)
      → slot_lines two n (ss ++ (s ∷ [])) vs ≡ slot_lines two n ss vs ++ slot_line two (n + length ss) s vs
  unfolding slot_lines
  slots_snoc n [] s =
      let e : n ≡ n + 0 = omega arith in
      append-nil (slot_line two n s vs) ∙ ap (λ (k : ℕ). slot_line two k s vs) e
  slots_snoc n (x ∷ ss) s =
      let e : n + 1 + length ss ≡ n + length (x ∷ ss) = omega arith in
      ap (λ (t : List ℕ). slot_line two n x vs ++ t)
      (slots_snoc (n + 1) ss s ∙ ap (λ (k : ℕ). slot_lines two (n + 1) ss vs ++ slot_line two k s vs) e)
      ∙ sym (append_assoc (slot_line two n x vs) _ _)

  pub slots_next : (ss : List SlotAnswer) (i : ℕ) (d : SlotAnswer) → i < length ss
      → slot_lines two 0 (take (i + 1) ss) vs ≡ slot_lines two 0 (take i ss) vs ++ slot_line two i (get_or ss i d) vs
  slots_next ss i d h =
      let e : 0 + length (take i ss) ≡ i = omega (arith, length-take i ss) in
      ap (λ (k : ℕ). slot_lines two 0 (take k ss) vs) (add-one i)
      ∙ ap (λ (l : List SlotAnswer). slot_lines two 0 l vs) (take-suc ss i d h)
      ∙ slots_snoc 0 (take i ss) (get_or ss i d)
      ∙ ap (λ (k : ℕ). slot_lines two 0 (take i ss) vs ++ slot_line two k (get_or ss i d) vs) e

  pub four_slots : (a b c d : SlotAnswer)
      → slot_lines two 0 (a ∷ b ∷ c ∷ d ∷ []) vs ≡ slots_text two a b c d vs
  unfolding slot_lines slots_text
  four_slots a b c d = simp (append_assoc, append-nil)

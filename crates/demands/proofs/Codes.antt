-- The Huffman codes, over the table number: a lookup reads a codeword of the published code; every code is complete, so some
-- codeword is begun whatever the bits are; and each has one reading, so bits that start with a codeword are read as that one. So refusal 25
-- cannot occur: no slot is answered by it.
-- Proved over the promises of lookup, read_slots and process_frame, from CodesLaws and SlotBounds of `standard`.
use Rattle.std.specs.Prelude.{Ok, Err}
use mathlib.Core.Path.{◌≡◌, refl, sym, ap, ◌∙◌}
use mathlib.Core.Bool.{Bool, true, not}
use mathlib.Core.List.{List}
use Prim.Native.Nat.{ℕ}
use lib.Dec.{eqb}
use lib.IntN.{ℤ}
use lib.ListN.{length, get_or}
use Rattle.standard.specs.ToldLaws.{never, clash}
use Rattle.standard.specs.Refusals.{number_of}
use Rattle.standard.specs.Codes.{taken, entry, starts, decode, published, word_of}
use Rattle.standard.proofs.CodesLaws.{In, complete, one-reading}
use Rattle.standard.specs.Slots.{Outcome, stopped, holds, slot_told}
use Rattle.standard.specs.Frame.{step_slots}
use Rattle.standard.proofs.HaltLaws.{allowed, is_other}
use Rattle.standard.proofs.SlotBounds.{never_alien}
use Rattle.standard.specs.declared.SlotAnswer.{SlotAnswer}
use Rattle.standard.specs.declared.Unread.TheVariants.{Alien}
use Rattle.standard.specs.declared.Refusal.TheVariants.{MissingBits, NoCodeword}
use Rattle.demands.proofs.Calls.{slot_said, slots_in, slots_of_call, LookupCall, lookup_table, lookup_bits, SlotsCall, slots_header, slots_info, main_data, FrameStep}
use Rattle.demands.proofs.Stored.{Answered, by_said, outcomes_of, slots-answered, each_slot, step_of, frame-answered, each_of_frame}
use Rattle.standard.specs.declared.SlotAnswer.TheVariants.{NotRead}

-- ---- a lookup
module _ (c : LookupCall) where
  pub published-code : c.answer ≡ decode (published (lookup_table c)) (lookup_bits c)
  unfolding word_of
  published-code = c.promised

  pub always_begun : c.answer ≡ Err Alien → ⊥
  always_begun e = complete (lookup_table c) (lookup_bits c) (sym published-code ∙ e)

  pub read_as : (v : ℕ) (w : List Bool) → In (entry v w) (published (lookup_table c)) → starts w (lookup_bits c) ≡ true → c.answer ≡ Ok (taken v (length w))
  read_as v w i s = published-code ∙ one-reading (lookup_table c) v w i (lookup_bits c) s

-- ---- no slot is answered 25
never_said : (o : Outcome) → allowed (is_other 25) o ≡ true → slot_told o ≡ NotRead NoCodeword → ⊥
unfolding allowed is_other slot_told
never_said (stopped r) a e = let k : number_of r ≡ 25 = cc in never (sym (ap (λ (n : ℕ). not (eqb n 25)) k) ∙ a)
never_said (holds long short vs) a e = clash cc

slot_never : (os : List Outcome) {answers : List SlotAnswer} {d left : List ℤ} → Answered os answers d left
    → ((n : ℕ) → allowed (is_other 25) (get_or os n (stopped MissingBits)) ≡ true) → (n : ℕ) → slot_said answers n ≡ NotRead NoCodeword → ⊥
slot_never os a ok n e = never_said (get_or os n (stopped MissingBits)) (ok n) ((by_said os a n (λ z. clash cc)).1 ∙ e)

abbrev Codeworded : Outcome → Type 0
Codeworded o = allowed (is_other 25) o ≡ true

missing_codeworded : Codeworded (stopped MissingBits)
unfolding allowed is_other
missing_codeworded = refl

pub slots-never_25 : (c : SlotsCall) (n : ℕ) → slot_said (slots_of_call c.answer) n ≡ NotRead NoCodeword → ⊥
slots-never_25 c =
    slot_never (outcomes_of c) (slots-answered c) (each_slot Codeworded missing_codeworded c (λ m e. never_alien (slots_header c) (slots_info c) (main_data c) m))

pub frame-never_25 : (c : FrameStep) (n : ℕ) → slot_said (slots_in c.answer) n ≡ NotRead NoCodeword → ⊥
frame-never_25 c = slot_never (step_slots (step_of c)) (frame-answered c) (each_of_frame Codeworded missing_codeworded c (λ m h i bs w. never_alien h i bs m))

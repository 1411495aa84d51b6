-- One answer and one state at exit for every call of `bit_reader`. A function over a struct that holds a reference has no generated reading, so it is
-- stated over the clauses of its contract, in the logic: where they hold of two answers and two states at exit of the same call, the two are the same.
-- `field_after` has plain parameters and is stated over its promise.
use mathlib.Core.Path.{◌≡◌, refl, ◌∙◌, sym}
use Prim.Native.Nat.{ℕ, min}
use seplogic.Ra.Ura.{Ura}
use base.Logic.{SProp, ent, emp}
use prog.Memory.{Memory}
use prog.Routine.{Routine}
use types.Logic.{Logic}
use contract.Conj.{conj, conj_l, conj_r}
use contract.Lifetimes.{Lfts}
use contract.Monad.{Fun, fact, fact_i, fact_use}
use borrow.Fn.World.{ArgsD}
use borrow.Fn.Kinds.{ended_of}
use denote.Ref.{at_last}
use denote.Triple.Entry.{Args, Res}
use denote.Triple.Clauses.{Ended, Clauses, AtExit}
use Rattle.bit_reader.specs.declared.BitReader.{BitReader}
use Rattle.standard.specs.Bits.{field_at}
use Rattle.bit_reader.specs.Reader.{begun, here, ahead}
use Rattle.bit_reader.specs.contracts.BitReader.new as new
use Rattle.bit_reader.specs.contracts.BitReader.place as place
use Rattle.bit_reader.specs.contracts.BitReader.peek as peek
use Rattle.bit_reader.specs.contracts.BitReader.skip as skip
use Rattle.bit_reader.specs.contracts.BitReader.read as read
use Rattle.bit_reader.specs.contracts.field_after as field-after
use Rattle.bit_reader.proofs.field_after.Kinds as field-after-kinds
use Rattle.bit_reader.proofs.field_after.Reads as field-after-reads

-- what a call shows, its answer or its answer and what it leaves, is the same for any two answers and states that the clauses c admit of that call
abbrev pub Fixes : {M : Type 1} (𝓤 : Ura M) (T : Ended) (c : Clauses 𝓤 T) (X : Type 0)
    → ((κs : Lfts T.signature.lifetimes) → Res T.signature κs → AtExit T κs → X) → Type 1
Fixes 𝓤 T c X shown = (κs : Lfts T.signature.lifetimes) (a : Args T.signature κs) (g : (c κs a).ghost) (r q : Res T.signature κs) (s t : AtExit T κs)
    → ent 𝓤 (conj 𝓤 ((c κs a).ensures g r s) ((c κs a).ensures g q t)) (fact 𝓤 (shown κs r s ≡ shown κs q t))

-- the law: what two facts say together is a fact
from_both : {M : Type 1} (𝓤 : Ura M) (φ ψ χ : Type 0) → (φ → ψ → χ) → ent 𝓤 (conj 𝓤 (fact 𝓤 φ) (fact 𝓤 ψ)) (fact 𝓤 χ)
from_both 𝓤 φ ψ χ f = fact_use 𝓤 φ (conj_l 𝓤 (fact 𝓤 φ) (fact 𝓤 ψ)) (λ x. fact_use 𝓤 ψ (conj_r 𝓤 (fact 𝓤 φ) (fact 𝓤 ψ)) (λ y. fact_i 𝓤 χ _ (f x y)))

-- two things that equal a third
meets : {M : Type 1} (𝓤 : Ura M) (X : Type 0) (x y z : X) → ent 𝓤 (conj 𝓤 (fact 𝓤 (x ≡ z)) (fact 𝓤 (y ≡ z))) (fact 𝓤 (x ≡ y))
meets 𝓤 X x y z = from_both 𝓤 (x ≡ z) (y ≡ z) (x ≡ y) (λ p o. p ∙ sym o)

module _ {M : Type 1} {𝓤 : Ura M} (𝓛 : Logic 𝓤) (mem : Memory → SProp 𝓤) (run : Routine → Fun 𝓤) where
  pub new_unique : Fixes 𝓤 new.ended (new.clauses 𝓛 mem run) BitReader (λ κs r s. r)
  new_unique κs a g r q s t = meets 𝓤 BitReader r q _

  pub place-unique : Fixes 𝓤 place.ended (place.clauses 𝓛 mem run) ℕ (λ κs r s. r)
  place-unique κs a g r q s t = meets 𝓤 ℕ r q _

  pub peek_unique : Fixes 𝓤 peek.ended (peek.clauses 𝓛 mem run) ℕ (λ κs r s. r)
  peek_unique κs a g r q s t = meets 𝓤 ℕ r q _

  pub skip_unique : Fixes 𝓤 skip.ended (skip.clauses 𝓛 mem run) BitReader (λ κs r s. r)
  skip_unique κs a g r q s t = meets 𝓤 BitReader r q _

  pub read-unique : Fixes 𝓤 read.ended (read.clauses 𝓛 mem run) (ℕ × BitReader) (λ κs r s. (r, s.0.now))
  read-unique κs a g r q s t = from_both 𝓤 _ _ _ (λ p o i. ((p.0 ∙ sym o.0) i, (p.1 ∙ sym o.1) i))

  -- no premise above is idle: the definition's answer, at what it leaves, meets the clauses of every call
  pub new_answers : (κs : Lfts 1) (a : Args new.signature κs) (s : AtExit new.ended κs)
      → ent 𝓤 (emp 𝓤) ((new.clauses 𝓛 mem run κs a).ensures tt (begun a.0) s)
  new_answers κs a s = fact_i 𝓤 _ (emp 𝓤) refl

  pub place-answers : (κs : Lfts 1) (a : Args place.signature κs) (s : AtExit place.ended κs)
      → ent 𝓤 (emp 𝓤) ((place.clauses 𝓛 mem run κs a).ensures tt a.0.at s)
  place-answers κs a s = fact_i 𝓤 _ (emp 𝓤) refl

  pub peek_answers : (κs : Lfts 1) (a : Args peek.signature κs) (s : AtExit peek.ended κs)
      → ent 𝓤 (emp 𝓤) ((peek.clauses 𝓛 mem run κs a).ensures tt (here a.0 a.1.0) s)
  peek_answers κs a s = fact_i 𝓤 _ (emp 𝓤) refl

  pub skip_answers : (κs : Lfts 1) (a : Args skip.signature κs) (s : AtExit skip.ended κs)
      → ent 𝓤 (emp 𝓤) ((skip.clauses 𝓛 mem run κs a).ensures tt (ahead a.0 a.1.0) s)
  skip_answers κs a s = fact_i 𝓤 _ (emp 𝓤) refl

  pub read-answers : (κs : Lfts 2) (a : Args read.signature κs)
      → ent 𝓤 (emp 𝓤) ((read.clauses 𝓛 mem run κs a).ensures tt (here a.0.now a.1.0) (at_last a.0 (ahead a.0.now a.1.0), (a.1.0, tt)))
  read-answers κs a = fact_i 𝓤 _ (emp 𝓤) (refl, refl)

pub field-after_unique : (κs : Lfts 1) (v : ArgsD field-after.signature κs) (r q : ℕ) (s t : AtExit (ended_of 1 field-after-kinds.ps field-after-kinds.r) κs)
    → field-after-reads.Post κs v r s → field-after-reads.Post κs v q t → r ≡ q
field-after_unique κs v r q s t p o = p ∙ sym o

pub field-after_answers : (κs : Lfts 1) (v : ArgsD field-after.signature κs) (s : AtExit (ended_of 1 field-after-kinds.ps field-after-kinds.r) κs)
    → field-after-reads.Post κs v (field_at v.0.now v.1.0 (min v.1.1.0 16)) s
field-after_answers κs v s = refl

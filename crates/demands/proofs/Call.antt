-- A call that returned, spoken of by the promise that Rattle generates for the function (its `Reads.Post`): the arguments, the answer, and what
-- was lent as it is at exit. Every function of the repository is proved to meet its promise, for every input, so every call that a program
-- makes is one of these.
use Prim.Native.Nat.{ℕ}
use mathlib.Core.Path.{◌≡◌, ◌∙◌, sym}
use mathlib.Core.List.{List}
use contract.Lifetimes.{Lfts}
use borrow.Fn.Kinds.{ParamKind, ResultKind, Out, Dens, res_t, ended_of}
use denote.Triple.Clauses.{AtExit}

pub record Call {n : ℕ} (ps : List (ParamKind n)) (r : ResultKind n) (P : Out n ps r) : Type 0 where
  pub lifetimes : Lfts n
  pub args : Dens lifetimes ps
  pub answer : (res_t r lifetimes).Denot
  pub exit : AtExit (ended_of n ps r) lifetimes
  pub promised : P lifetimes args answer exit

-- What no two readers may disagree on: for the same arguments a promise leaves one answer ..
abbrev pub OneAnswer : {n : ℕ} (ps : List (ParamKind n)) (r : ResultKind n) → Out n ps r → Type 0
OneAnswer {n} ps r P = (κs : Lfts n) (a : Dens κs ps) (x y : (res_t r κs).Denot) (s t : AtExit (ended_of n ps r) κs) → P κs a x s → P κs a y t → x ≡ y

-- .. and, where memory is lent to be changed, one state of it
abbrev pub OneState : {n : ℕ} (ps : List (ParamKind n)) (r : ResultKind n) → Out n ps r → {S : Type 0} → ((κs : Lfts n) → AtExit (ended_of n ps r) κs → S) → Type 0
OneState {n} ps r P state =
    (κs : Lfts n) (a : Dens κs ps) (x y : (res_t r κs).Denot) (s t : AtExit (ended_of n ps r) κs) → P κs a x s → P κs a y t
    → (x ≡ y) × (state κs s ≡ state κs t)

-- the same of what a call shows, where that is not the whole answer: of a reference that is answered, what stands behind it
abbrev pub OneShown : {n : ℕ} (ps : List (ParamKind n)) (r : ResultKind n) → Out n ps r → {S : Type 0} → ((κs : Lfts n) → (res_t r κs).Denot → AtExit (ended_of n ps r) κs → S)
    → Type 0
OneShown {n} ps r P shown =
    (κs : Lfts n) (a : Dens κs ps) (x y : (res_t r κs).Denot) (s t : AtExit (ended_of n ps r) κs) → P κs a x s → P κs a y t → shown κs x s ≡ shown κs y t

-- the one law: what equals the same is equal
pub alike : {A : Type 0} {x y z : A} → x ≡ z → y ≡ z → x ≡ y
alike p q = p ∙ sym q

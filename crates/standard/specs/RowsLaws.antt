-- What a place of a row holds is a member of it, a member stands at its place, a test that every value of a row passes holds of
-- both, and rows of one length.
use Rattle.std.proofs.Math.Path.{◌≡◌, refl, ap, sym, subst}
use Rattle.std.proofs.Common.{◌∙◌}
use Rattle.std.specs.Prelude.{Bool, ◌&&◌, ◌||◌, eqb, length, get_or}
use Rattle.std.proofs.Math.Bool.{true, false}
use mathlib.Core.List.{List, [], ◌∷◌, ◌++◌}
use Prim.Native.Nat.{ℕ, zero, suc, ◌<◌}
use native.Mathlib.Omega.{arith}
use Rattle.std.proofs.Math.Decide.{dec_lt}
use borrow.Author.Tests.{lt-ltb, le-ltb, eqb-true}
use Rattle.std.proofs.Math.Dec.{ltb}
use Rattle.standard.specs.Rows.{member, later, place}
use Rattle.standard.specs.ToldLaws.{never, both, both_of}

module _ {A : Type 0} (same : A → A → Bool) where
  -- what a place of the row holds is a member
  pub member-at : ((x : A) → same x x ≡ true) → (d : A) (ys : List A) (i : ℕ) → i < length ys → member same (get_or ys i d) ys ≡ true
  unfolding member
  member-at r d [] i h = absurd (omega arith)
  member-at r d (y ∷ ys) zero h = ap (λ (b : Bool). b || member same y ys) (r y)
  member-at r d (y ∷ ys) (suc i) h = either (same (get_or ys i d) y) (member-at r d ys i (omega arith))
    where
      either : {q : Bool} (p : Bool) → q ≡ true → p || q ≡ true
      either true e = refl
      either false e = e

  -- and a member stands at its place
  abbrev Stands : A → A → List A → ℕ → Type 0
  Stands d x ys n = (get_or ys n d ≡ x) × (n < length ys)

  place-step : (d x y : A) (ys : List A) (n : ℕ) (m b : Bool) → (b ≡ true → x ≡ y) → b || m ≡ true → (m ≡ true → Stands d x ys n)
      → Stands d x (y ∷ ys) (later b n)
  unfolding later
  place-step d x y ys n m true f g k = (sym (f refl), omega arith)
  place-step d x y ys n m false f g k = let w = k g in (w.0, omega arith)

  pub place_at : ((x y : A) → same x y ≡ true → x ≡ y) → (d x : A) (ys : List A) → member same x ys ≡ true → (get_or ys (place same x ys) d ≡ x)
      × (place same x ys < length ys)
  unfolding member place
  place_at s d x [] e = let z : ◌≡◌ {A = ℕ} 0 1 = cc in let w : ⊥ = omega arith in absurd w
  place_at s d x (y ∷ ys) e = place-step d x y ys (place same x ys) (member same x ys) (same x y) (s x y) e (place_at s d x ys)

  -- a member is what has a place below the length
  place-step' : (m : Bool) (k n : ℕ) (b : Bool) → ltb k n ≡ m → ltb (later b k) (suc n) ≡ b || m
  unfolding later
  place-step' m k n true e = lt-ltb 0 (suc n) (omega arith)
  place-step' m k n false e = suc_ltb k n ∙ e
    where
      suc_ltb : (k n : ℕ) → ltb (suc k) (suc n) ≡ ltb k n
      suc_ltb k n =
          elim (dec_lt k n)
          [ yes h ↦ lt-ltb (suc k) (suc n) (omega arith) ∙ sym (lt-ltb k n h) | no h ↦ le-ltb (suc k) (suc n) (omega arith) ∙ sym (le-ltb k n (omega arith)) ]

  pub place-member : (x : A) (ys : List A) → ltb (place same x ys) (length ys) ≡ member same x ys
  unfolding member place
  place-member x [] = refl
  place-member x (y ∷ ys) = place-step' (member same x ys) (place same x ys) (length ys) (same x y) (place-member x ys)

-- ---- a test that every value of a row passes: computed once, it holds of what a place holds and of a member
unfoldable pub every : {A : Type 0} → (A → Bool) → List A → Bool
every p [] = true
every p (y ∷ ys) = p y && every p ys

module _ {A : Type 0} (p : A → Bool) where
  pub every-at : (d : A) (ys : List A) → p d ≡ true → every p ys ≡ true → (i : ℕ) → p (get_or ys i d) ≡ true
  unfolding every
  every-at d [] h e i = h
  every-at d (y ∷ ys) h e zero = (both_of _ _ e).0
  every-at d (y ∷ ys) h e (suc i) = every-at d ys h (both_of (p y) _ e).1 i

  pub every-member : (same : A → A → Bool) → ((x y : A) → same x y ≡ true → x ≡ y) → (x : A) (ys : List A) → every p ys ≡ true → member same x ys ≡ true
      → p x ≡ true
  unfolding every member
  every-member same s x [] e m = never m
  every-member same s x (y ∷ ys) e m =
      let k = both_of (p y) (every p ys) e in
      go (same x y) (member same x ys) (s x y) k.0 (every-member same s x ys k.1) m
    where
      go : (b m : Bool) → (b ≡ true → x ≡ y) → p y ≡ true → (m ≡ true → p x ≡ true) → b || m ≡ true → p x ≡ true
      go true m f h g e = subst (λ (z : A). p z ≡ true) (sym (f refl)) h
      go false m f h g e = g e

  pub every_in : (d : A) (ys : List A) → every p ys ≡ true → (i : ℕ) → i < length ys → p (get_or ys i d) ≡ true
  unfolding every
  every_in d [] e i h = absurd (omega arith)
  every_in d (y ∷ ys) e zero h = (both_of _ _ e).0
  every_in d (y ∷ ys) e (suc i) h = every_in d ys (both_of (p y) _ e).1 i (omega arith)

-- within a row it does not matter what would stand past its end
pub get_d_within : {A : Type 0} (l : List A) (i : ℕ) (d e : A) → i < length l → get_or l i d ≡ get_or l i e
get_d_within [] i d e h = absurd (omega arith)
get_d_within (x ∷ l) zero d e h = refl
get_d_within (x ∷ l) (suc i) d e h = get_d_within l i d e (omega arith)

-- rows of one length
pub rows_long : (n : ℕ) (rows : List (List ℕ)) → every (λ (row : List ℕ). eqb (length row) n) rows ≡ true → (k : ℕ) → k < length rows
    → length (get_or rows k []) ≡ n
rows_long n rows t k h = eqb-true (length (get_or rows k [])) n (every_in (λ (row : List ℕ). eqb (length row) n) [] rows t k h)

-- what two rows pass, the one after the other pass together
pub every_append : {A : Type 0} (p : A → Bool) (xs ys : List A) → every p xs ≡ true → every p ys ≡ true → every p (xs ++ ys) ≡ true
unfolding every
every_append p [] ys f g = g
every_append p (x ∷ xs) ys f g = let k = both_of (p x) (every p xs) f in both k.0 (every_append p xs ys k.1 g)

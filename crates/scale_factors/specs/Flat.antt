-- Thirteen bands of three windows as one list, and that it undoes the definition's bands.
use Rattle.std.specs.Prelude.{◌≡◌, refl, List, [], ◌∷◌, ℕ, zero, suc, ◌+◌, ◌*◌, ◌/◌, ◌%◌, ◌<◌, length, get_or, drop}
use Rattle.std.proofs.Common.{sym, ap, ◌∙◌, zero-add, add-zero, arith, get_or-take, get_or-drop}
use Rattle.standard.specs.Factors.{bands_of}
use Rattle.standard.proofs.FactorsLaws.{bands_at}

-- the factor of window k % 3 of band k / 3
abbrev pub cell : List (List ℕ) → ℕ → ℕ
cell a k = get_or (get_or a (k / 3) []) (k % 3) 0

-- n of them, from the k-th on
unfoldable pub cells_from : List (List ℕ) → ℕ → ℕ → List ℕ
cells_from a k zero = []
cells_from a k (suc n) = cell a k ∷ cells_from a (suc k) n

unfoldable pub flat_of : List (List ℕ) → List ℕ
flat_of a = cells_from a 0 39

pub cells-length : (n : ℕ) (a : List (List ℕ)) (k : ℕ) → length (cells_from a k n) ≡ n
unfolding cells_from
cells-length zero a k = refl
cells-length (suc n) a k = ap suc (cells-length n a (suc k))

-- a list whose members they are
cells_are : (l : List ℕ) (a : List (List ℕ)) (k n : ℕ) → length l ≡ n → ((i : ℕ) → i < n → get_or l i 0 ≡ cell a (k + i)) → cells_from a k n ≡ l
unfolding cells_from
cells_are [] a k zero e h = refl
cells_are [] a k (suc n) e h = absurd (omega arith)
cells_are (x ∷ l) a k zero e h = absurd (omega arith)
cells_are (x ∷ l) a k (suc n) e h =
    let first : cell a k ≡ x = sym (h 0 (omega arith) ∙ ap (cell a) (add-zero k)) in
    let rest : cells_from a (suc k) n ≡ l = cells_are l a (suc k) n (omega arith) (λ i w. let p : k + suc i ≡ suc k + i = omega arith in h (suc i) (omega arith) ∙ ap (cell a) p) in
    λ j. first j ∷ rest j

band_cell : (l : List ℕ) (k : ℕ) → k < 39 → get_or l k 0 ≡ cell (bands_of 13 l) k
band_cell l k h =
    let p : 3 * (k / 3) + k % 3 ≡ k = omega arith in
    let b : k / 3 < 13 = omega arith in
    let w : k % 3 < 3 = omega arith in
    sym
    (ap (λ (row : List ℕ). get_or row (k % 3) 0) (bands_at 13 l (k / 3) b)
    ∙ get_or-take 3 (drop (3 * (k / 3)) l) (k % 3) 0 w
    ∙ get_or-drop (3 * (k / 3)) l (k % 3) 0
    ∙ ap (λ (n : ℕ). get_or l n 0) p)

-- the bands of 39 factors one after the other are the factors
pub flat_bands : (l : List ℕ) → length l ≡ 39 → flat_of (bands_of 13 l) ≡ l
unfolding flat_of
flat_bands l e = cells_are l (bands_of 13 l) 0 39 e (λ i h. band_cell l i h ∙ ap (cell (bands_of 13 l)) (sym (zero-add i)))

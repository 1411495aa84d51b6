-- What the loop over the bands and the loop over the factors store, one by one, is what the bands and their factors have there; that all of it stands in
-- the end is for CopyLaws to say.
use mathlib.Core.Path.{◌≡◌, refl, sym, ap, ◌∙◌}
use mathlib.Core.List.{List, [], ◌∷◌}
use Prim.Native.Nat.{ℕ, zero, suc, ◌+◌, ◌*◌, ◌<◌, ◌≤◌}
use native.Mathlib.Nat.{add-zero}
use native.Mathlib.Omega.{arith}
use lib.ListN.{length, get_or, take, drop}
use lib.Seq.{drop-cons, take-length}
use Rattle.standard.specs.CopyLaws.{Copying, copying_end, paste_whole}
use Rattle.standard.specs.Factors.{bands_of}
use Rattle.standard.proofs.FactorsLaws.{bands_at}
use Rattle.scale_factors.specs.Flat.{cell, cells_from}

three_at : (l : List ℕ) (k : ℕ) → k + 3 ≤ length l → take 3 (drop k l) ≡ get_or l k 0 ∷ get_or l (k + 1) 0 ∷ get_or l (k + 2) 0 ∷ []
three_at l k h =
    let second = drop-cons l (suc k) 0 (omega arith) in
    let third = drop-cons l (suc (suc k)) 0 (omega arith) in
    let p : suc k ≡ k + 1 = omega arith in
    let q : suc (suc k) ≡ k + 2 = omega arith in
    ap (take 3) (drop-cons l k 0 (omega arith) ∙ ap (λ (m : List ℕ). get_or l k 0 ∷ m) (second ∙ ap (λ (m : List ℕ). get_or l (suc k) 0 ∷ m) third))
    ∙ (λ j. get_or l k 0 ∷ get_or l (p j) 0 ∷ get_or l (q j) 0 ∷ [])

pub band_stored : (fs : List ℕ) (b : ℕ) → length fs ≡ 39 → b < 13
    → get_or fs (3 * b) 0 ∷ get_or fs (3 * b + 1) 0 ∷ get_or fs (3 * b + 2) 0 ∷ [] ≡ get_or (bands_of 13 fs) b []
band_stored fs b l h = sym (bands_at 13 fs b h ∙ three_at fs (3 * b) (omega arith))

pub cell_stored : (n : ℕ) (a : List (List ℕ)) (k i : ℕ) → i < n → cell a (k + i) ≡ get_or (cells_from a k n) i 0
unfolding cells_from
cell_stored zero a k i h = absurd (omega arith)
cell_stored (suc n) a k zero h = ap (cell a) (add-zero k)
cell_stored (suc n) a k (suc i) h = let p : k + suc i ≡ suc k + i = omega arith in ap (cell a) p ∙ cell_stored n a (suc k) i (omega arith)

-- copied whole over as many, a list is what stands
pub copied_whole : {A : Type 0} (src old dst : List A) {j : ℕ} → Copying src old dst 0 j → length src ≡ j → length old ≡ j → dst ≡ src
copied_whole {A} src old dst {j} r s o =
    copying_end src old dst 0 j r j refl ∙ paste_whole src old j o ∙ ap (λ (n : ℕ). take n src) (sym s) ∙ take-length src

-- What finds room, and where it is written.
use mathlib.Core.Path.{◌≡◌, sym, ap, ◌∙◌}
use mathlib.Core.List.{List, ◌++◌, append_assoc}
use Prim.Native.Nat.{ℕ, ◌-◌, min}
use native.Mathlib.Omega.{arith}
use borrow.Rule.Slice.PartMut.{put_mid}
use lib.ListN.{take, drop}
use lib.Seq.{paste}
use Rattle.std.proofs.Common.{drop-drop}
use Rattle.std.proofs.Math.Decide.{dec_le}

-- from a place past the end there is room for nothing, as from the end
pub room : (f : ℕ → ℕ → List ℕ) → ((a b : ℕ) → f a 0 ≡ f b 0) → (long at m : ℕ) {s n : ℕ} → s ≡ min at long → n ≡ min m (long - s)
    → f s n ≡ f at (min m (long - at))
room f none long at m {s} {n} p q = elim (dec_le at long) [
  | yes h ↦
      let e : s ≡ at = omega arith in
      let g : n ≡ min m (long - at) = omega arith in
      λ j. f (e j) (g j)
  | no h ↦
      let e : n ≡ 0 = omega arith in
      let g : min m (long - at) ≡ 0 = omega arith in
      ap (f s) e ∙ none s at ∙ ap (f at) (sym g)
]

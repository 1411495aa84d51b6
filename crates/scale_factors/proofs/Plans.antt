-- A slot's plan: that it can be read; and its factors, read over zeros, at their places of the long and of the short ones.
use mathlib.Core.Path.{◌≡◌, refl, sym, ap, ◌∙◌, subst}
use mathlib.Core.Bool.{Bool, true, false}
use mathlib.Core.List.{List, ◌∷◌, ◌++◌, append_assoc, append-nil}
use Prim.Native.Nat.{ℕ, zero, suc, ◌+◌, ◌-◌, ◌<◌, ◌≤◌}
use native.Mathlib.Nat.{sub-zero, zero-sub}
use native.Mathlib.Omega.{arith}
use lib.ListN.{length, take, drop, replicate, length-drop, length-take, length-append, length-replicate, replicate-append-replicate}
use lib.Seq.{sets, take-append-le, drop-append-le, take_at, sets-eq}
use borrow.Rule.Slice.PartMut.{put_mid}
use Rattle.std.specs.List.{All}
use Rattle.standard.specs.ToldLaws.{never}
use Rattle.standard.specs.Record.{shape_of}
use Rattle.standard.specs.Bits.{bits}
use Rattle.standard.specs.Factors.{plan_by, plan_of, sources_of, may_share, plan_bits, factors_from}
use Rattle.standard.specs.Factors.{long_count, short_count, short_from, factor_count, long_factors, short_factors, bands_of}
use Rattle.standard.proofs.FactorsLaws.{few_factors, plan-length, lengths_small, shape_unshares, shape_unshared, plan-factors_length}
use Rattle.standard.specs.declared.Setting.{Setting}
use Rattle.standard.specs.declared.SlotRecord.{SlotRecord}
use Rattle.standard.specs.declared.Group.{Group}
use Rattle.standard.specs.declared.Plan.{Plan}
use Rattle.standard.specs.declared.Shape.{Shape}
use Rattle.standard.specs.declared.Shape.TheVariants.{AllLong, AllShort, LongThenShort}
use Rattle.scale_factors.specs.Groups.{Fit, filled, placed, factors_at, old_for}
use Rattle.scale_factors.specs.Flat.{flat_of, flat_bands}

-- only long bands share, and there are no more than granule 0 has
share_long : (mpeg1 intensity : Bool) (shares : List Bool) (k : Shape) (c : ℕ)
    → All (λ (g : Group). g.shared ≡ true → factor_count mpeg1 k ≤ 22) (plan_by mpeg1 intensity shares k c).groups
share_long mpeg1 intensity shares AllLong c i g h e = omega arith
share_long mpeg1 intensity shares AllShort c i g h e = never (sym (shape_unshares mpeg1 intensity shares AllShort c refl i g h) ∙ e)
share_long mpeg1 intensity shares LongThenShort c i g h e = never (sym (shape_unshares mpeg1 intensity shares LongThenShort c refl i g h) ∙ e)

pub plan-fit : (g : Setting) (r : SlotRecord) {p : Plan} → p ≡ plan_of g r → (at : ℕ) → at < 4294967296 → Fit p at
unfolding plan_of
plan-fit g r e at l = subst (λ (p : Plan). Fit p at) (sym e)
    (record {
      narrow = lengths_small g.mpeg1 g.intensity g.shares (shape_of r) r.scalefac_compress;
      few = omega (arith, plan-length g r, few_factors g.mpeg1 (shape_of r));
      mate = λ i x h f. omega (arith, plan-length g r, share_long g.mpeg1 g.intensity g.shares (shape_of r) r.scalefac_compress i x h f);
      near = l;
    })

-- ---- a part put at a place among zeros
abbrev zeros : ℕ → List ℕ
zeros n = replicate n 0

take-zeros : (k n : ℕ) → k ≤ n → take k (zeros n) ≡ zeros k
take-zeros zero n h = refl
take-zeros (suc k) zero h = absurd (omega arith)
take-zeros (suc k) (suc n) h = ap (λ (l : List ℕ). 0 ∷ l) (take-zeros k n (omega arith))

drop-zeros : (k n : ℕ) → drop k (zeros n) ≡ zeros (n - k)
drop-zeros zero n = rw sub-zero
drop-zeros (suc k) zero = rw zero-sub
drop-zeros (suc k) (suc n) = let p : n - k ≡ suc n - suc k = omega arith in drop-zeros k n ∙ ap zeros p

-- a list at a place of m zeros
pub put_in : (at n m : ℕ) (l : List ℕ) → n ≡ length l → at + length l ≤ m → put_mid at n (zeros m) l ≡ zeros at ++ l ++ zeros (m - (at + length l))
put_in at n m l e h =
    (λ j. take-zeros at m (omega arith) j ++ (l ++ drop (e j) (drop-zeros at m j)))
    ∙ ap (λ (x : List ℕ). zeros at ++ (l ++ x)) (drop-zeros (length l) (m - at) ∙ ap zeros d)
    ∙ sym (append_assoc (zeros at) l (zeros (m - (at + length l))))
  where
    d : m - at - length l ≡ m - (at + length l)
    d = omega arith

-- ---- the factors of a slot at their places
-- what follows the factors is not taken
module _ (mpeg1 : Bool) (k : Shape) (l more : List ℕ) (e : length l ≡ factor_count mpeg1 k) where
  long-taken : take (long_count mpeg1 k) (l ++ more) ++ zeros (22 - long_count mpeg1 k) ≡ long_factors mpeg1 k l
  unfolding long_factors
  long-taken = ap (λ (x : List ℕ). x ++ zeros (22 - long_count mpeg1 k)) (take-append-le (long_count mpeg1 k) l more (omega arith))

  short_taken : placed (l ++ more) (long_count mpeg1 k) (short_count k) (short_from k) ≡ short_factors mpeg1 k l
  unfolding short_factors
  short_taken =
      let n = long_count mpeg1 k in
      let c = short_count k in
      let left : length (drop n l) ≡ c = omega (arith, length-drop n l) in
      ap (λ (x : List ℕ). zeros (short_from k) ++ x ++ zeros (39 - (short_from k + c)))
      (ap (take c) (drop-append-le n l more (omega arith)) ∙ take_at (drop n l) more c left)

-- laid out in thirteen bands, 39 factors are the same one after the other
pub bands_back : (fs : List ℕ) (n c from : ℕ) {a : List (List ℕ)} → length fs ≡ 36 → n + c ≤ 36 → from + c ≤ 36
    → a ≡ bands_of 13 (placed fs n c from) → flat_of a ≡ placed fs n c from
bands_back fs n c from l h k e =
    ap flat_of e
    ∙ flat_bands (placed fs n c from) (simp (length-append, length-replicate, length-take, length-drop) (omega arith))

-- where there are none all is zeros
pub none_placed : (fs : List ℕ) (n c from : ℕ) → c ≡ 0 → from ≤ 39 → zeros 39 ≡ placed fs n c from
none_placed fs n c from e h =
    let p : from + (39 - (from + 0)) ≡ 39 = omega arith in
    sym (ap (λ (x : List ℕ). x ++ zeros (39 - (from + 0))) (append-nil (zeros from)) ∙ replicate-append-replicate from (39 - (from + 0)) 0 ∙ ap zeros p)
    ∙ ap (λ (m : ℕ). placed fs n m from) (sym e)

-- what may not share does not go by granule 0
old_for_lem : (g : Setting) (r : SlotRecord) (old : List ℕ) (b : List Bool) (share : Bool) → share ≡ may_share (shape_of r)
    → factors_from (sources_of (plan_of g r)) (old_for share old) b ≡ factors_from (sources_of (plan_of g r)) old b
old_for_lem g r old b true e = refl
old_for_lem g r old b false e = shape_unshared g r (sym e) (zeros 22) old b

-- a plan's factors written over zeros are the factors, and then zeros
module _ (g : Setting) (r : SlotRecord) (old s : List ℕ) (at : ℕ) (p : Plan) (fs : List ℕ) (k : Shape) (share : Bool)
    (shape : k ≡ shape_of r) (may : share ≡ may_share k) (own : p ≡ plan_of g r) (read : fs ≡ filled (zeros 36) 0 (sources_of p) (old_for share old) s at) where
  count : length (factors_at g r old s at) ≡ factor_count g.mpeg1 (shape_of r)
  count = plan-factors_length g r old (bits s at (plan_bits (sources_of (plan_of g r))))

  more : List ℕ
  more = drop (0 + length (factors_at g r old s at)) (zeros 36)

  factors_first : fs ≡ factors_at g r old s at ++ more
  unfolding filled more
  factors_first =
      read
      ∙ ap (λ (q : Plan). filled (zeros 36) 0 (sources_of q) (old_for share old) s at) own
      ∙ ap (sets (zeros 36) 0) (old_for_lem g r old (bits s at (plan_bits (sources_of (plan_of g r)))) share (may ∙ ap may_share shape))
      ∙ sets-eq (factors_at g r old s at) (zeros 36) 0 (omega (arith, count, few_factors g.mpeg1 (shape_of r)))

  module _ (n : ℕ) (long : n ≡ long_count g.mpeg1 k) where
    long-many : n ≡ long_count g.mpeg1 (shape_of r)
    long-many = long ∙ ap (long_count g.mpeg1) shape

    pub long-read : {l : List ℕ} → l ≡ take n fs ++ zeros (22 - n) → l ≡ long_factors g.mpeg1 (shape_of r) (factors_at g r old s at)
    long-read e =
        e
        ∙ (λ j. take (long-many j) (factors_first j) ++ zeros (22 - long-many j))
        ∙ long-taken g.mpeg1 (shape_of r) (factors_at g r old s at) more count

    pub short_read : {l : List ℕ} → l ≡ placed fs n (short_count k) (short_from k) → l ≡ short_factors g.mpeg1 (shape_of r) (factors_at g r old s at)
    short_read e =
        e
        ∙ (λ j. placed (factors_first j) (long-many j) (short_count (shape j)) (short_from (shape j)))
        ∙ short_taken g.mpeg1 (shape_of r) (factors_at g r old s at) more count

-- Which sharing bits are a slot's: those of its channel, in the granule after the first.
use mathlib.Core.Path.{◌≡◌, refl, sym, ap, ◌∙◌}
use mathlib.Core.Bool.{Bool, true, false, not, ◌||◌}
use mathlib.Core.List.{List, [], ◌∷◌}
use Prim.Native.Nat.{ℕ, zero, suc, ◌+◌, ◌-◌, ◌*◌, ◌≤◌, ◌<◌}
use native.Mathlib.Numerals.{add-one}
use native.Mathlib.Omega.{arith}
use borrow.Author.Tests.{ltb-false}
use lib.Dec.{ltb}
use lib.ListN.{length, get_or, take, drop}
use lib.Seq.{drop-cons, take_all}
use Rattle.standard.specs.ToldLaws.{never, either_left, either_right, neither_of, picked, passed}
use Rattle.standard.specs.Header.{granules_in, channels_in, is_mpeg1, is_two, granules, channel_count}
use Rattle.standard.specs.Record.{shape_of}
use Rattle.standard.specs.Factors.{may_share}
use Rattle.standard.specs.Slots.{any_of, shares_of}
use Rattle.standard.specs.declared.FrameHeader.{FrameHeader}
use Rattle.standard.specs.declared.SideInfo.{SideInfo}
use Rattle.standard.specs.declared.SlotRecord.{SlotRecord}

-- a frame has at most two granules
pub second_granule : (h : FrameHeader) (n : ℕ) → n < granules h * channel_count h → n - channel_count h < 2
unfolding granules channel_count
second_granule h n k = by (is_mpeg1 h.version) (is_two h.channels) k
  where
    by : (a b : Bool) → n < granules_in a * channels_in b → n - channels_in b < 2
    by true true k = omega arith
    by true false k = omega arith
    by false true k = omega arith
    by false false k = omega arith

pub in_granule_1 : (n c : ℕ) (x : Bool) {y : Bool} → y ≡ ltb n c || x → y ≡ false → c ≤ n
in_granule_1 n c x e f = ltb-false n c (neither_of (ltb n c) x (sym e ∙ f)).0

-- four elements from a place on
one_more : (l : List Bool) (k m : ℕ) → k < length l → take (suc m) (drop k l) ≡ get_or l k false ∷ take m (drop (k + 1) l)
one_more l k m h = ap (take (suc m)) (drop-cons l k false h) ∙ ap (λ (n : ℕ). get_or l k false ∷ take m (drop n l)) (sym (add-one k))

pub four_from : (l : List Bool) (k : ℕ) → k + 4 ≤ length l
    → get_or l k false ∷ get_or l (k + 1) false ∷ get_or l (k + 2) false ∷ get_or l (k + 3) false ∷ [] ≡ take 4 (drop k l)
four_from l k h =
    let p : k + 1 + 1 ≡ k + 2 = omega arith in
    let q : k + 2 + 1 ≡ k + 3 = omega arith in
    sym
    (one_more l k 3 (omega arith)
    ∙ ap (λ (t : List Bool). get_or l k false ∷ t)
    (one_more l (k + 1) 2 (omega arith)
    ∙ ap (λ (n : ℕ). get_or l (k + 1) false ∷ take 2 (drop n l)) p
    ∙ ap (λ (t : List Bool). get_or l (k + 1) false ∷ t)
    (one_more l (k + 2) 1 (omega arith)
    ∙ ap (λ (n : ℕ). get_or l (k + 2) false ∷ take 1 (drop n l)) q
    ∙ ap (λ (t : List Bool). get_or l (k + 2) false ∷ t) (one_more l (k + 3) 0 (omega arith)))))

-- the two cases of the definition
module _ (h : FrameHeader) (i : SideInfo) (n : ℕ) (r : SlotRecord) (c : ℕ) (e : c ≡ channel_count h) (y : Bool)
    (f : y ≡ ltb n c || not (may_share (shape_of r))) where
  test : ltb n (channel_count h) || not (may_share (shape_of r)) ≡ y
  test = ap (λ (k : ℕ). ltb n k || not (may_share (shape_of r))) (sym e) ∙ sym f

  pub shares_none : y ≡ true → false ∷ false ∷ false ∷ false ∷ [] ≡ shares_of h i n r
  unfolding shares_of
  shares_none t = sym (picked _ (test ∙ t))

  pub shares_some : y ≡ false → n < granules h * channel_count h → length i.scfsi ≡ 8
      → get_or i.scfsi (4 * (n - c)) false ∷ get_or i.scfsi (4 * (n - c) + 1) false ∷ get_or i.scfsi (4 * (n - c) + 2) false ∷ get_or i.scfsi
      (4 * (n - c) + 3) false ∷ []
      ≡ shares_of h i n r
  unfolding shares_of
  shares_some t k l =
      let g = second_granule h n k in
      four_from i.scfsi (4 * (n - c)) (omega arith)
      ∙ ap (λ (m : ℕ). take 4 (drop (4 * (n - m)) i.scfsi)) e
      ∙ sym (passed _ (test ∙ t))

-- ---- whether any of four is set
pub any_of_four : (l : List Bool) → length l ≡ 4 → ((get_or l 0 false || get_or l 1 false) || get_or l 2 false) || get_or l 3 false ≡ any_of l
unfolding any_of
any_of_four l n =
    by (get_or l 0 false) (get_or l 1 false) (get_or l 2 false) (get_or l 3 false)
    ∙ ap any_of (four_from l 0 (omega arith) ∙ take_all 4 l (omega arith))
  where
    by : (a b c d : Bool) → ((a || b) || c) || d ≡ a || (b || (c || (d || false)))
    by true b c d = refl
    by false true c d = refl
    by false false true d = refl
    by false false false true = refl
    by false false false false = refl

-- Pairs read one after the other with no look at where their bits end: one test after the last of them tells whether they all end within.
use Rattle.std.specs.Prelude.{Ok, Err}
use mathlib.Core.Path.{◌≡◌, refl, sym, ap, subst, ◌∙◌}
use mathlib.Core.Bool.{Bool}
use mathlib.Core.List.{List, [], ◌∷◌, ◌++◌}
use Prim.Native.Nat.{ℕ, zero, suc, ◌+◌, ◌-◌, ◌*◌, ◌/◌, ◌≤◌, ◌<◌, min}
use native.Mathlib.Decide.{dec_le}
use native.Mathlib.Omega.{arith}
use lib.IntN.{ℤ}
use borrow.Author.Tests.{lt-ltb, le-ltb}
use lib.ListN.{length, get_or, take, drop, set, length-append}
use lib.Seq.{sets, sets-eq, length-sets, length-take-le, take_at, drop_at, drop-drop}
use native.Mathlib.Numerals.{add-one}
use Rattle.standard.specs.ToldLaws.{picked, passed}
use Rattle.standard.specs.Bits.{bits}
use Rattle.standard.specs.BitsLaws.{drop_bits}
use Rattle.standard.specs.Codes.{word_of, taken}
use Rattle.standard.specs.Numbers.{halted, got, prepend, then_pairs, pairs, pair_of, table_at, Pair}
use Rattle.standard.specs.declared.Refusal.TheVariants.{PairOverrun}
use Rattle.huffman.specs.Owns.{Owns}
use Rattle.huffman.specs.Run.{Run, ran, next, RunOn, PairsRun}

module _ (table : ℕ → ℕ) (s : List ℕ) where
  pub run_on : {k at n e : ℕ} {vs : List ℤ} → Run table s k at n vs e → at ≤ e
  run_on ran = omega arith
  run_on (next x y u o r) = omega (arith, run_on r)

  -- the first pair is read, or is not
  first_read : (k at n w u : ℕ) (x y : ℤ) → pair_of word_of (table (2 * k)) (bits s at w) ≡ Ok (taken (x, y) u)
      → pairs word_of table k (suc n) (bits s at w) ≡ prepend (x ∷ y ∷ []) (pairs word_of table (suc k) n (bits s (at + u) (w - u)))
  unfolding pairs then_pairs
  first_read k at n w u x y e =
      ap (λ (p : Pair). then_pairs p (λ (i : ℕ). pairs word_of table (suc k) n (drop i (bits s at w)))) e
      ∙ ap (λ (b : List Bool). prepend (x ∷ y ∷ []) (pairs word_of table (suc k) n b)) (drop_bits u s at w)

  first-not : (k at n w : ℕ) → pair_of word_of (table (2 * k)) (bits s at w) ≡ Err PairOverrun
      → pairs word_of table k (suc n) (bits s at w) ≡ halted PairOverrun
  unfolding pairs then_pairs
  first-not k at n w e = ap (λ (p : Pair). then_pairs p (λ (i : ℕ). pairs word_of table (suc k) n (drop i (bits s at w)))) e

  -- all pairs end within the bits
  pub run-whole : {k at n e : ℕ} {vs : List ℤ} → Run table s k at n vs e → (w : ℕ) → e ≤ at + w
      → pairs word_of table k n (bits s at w) ≡ got vs (bits s e (at + w - e))
  unfolding pairs prepend
  run-whole (ran {k = k} {at = at}) w h = let p : w ≡ at + w - at = omega arith in ap (λ (i : ℕ). got [] (bits s at i)) p
  run-whole (next {k = k} {at = at} {n = n} {e = e} {vs = vs} x y u o r) w h =
      let l = run_on r in
      let g : u ≤ w = omega (arith, l) in
      let q : at + u + (w - u) - e ≡ at + w - e = omega (arith, l) in
      first_read k at n w u x y (o.whole w g) ∙ ap (prepend (x ∷ y ∷ [])) (run-whole r (w - u) (omega (arith, l)) ∙ ap (λ (i : ℕ). got vs (bits s e i)) q)

  -- some pair does not
  pub run_short : {k at n e : ℕ} {vs : List ℤ} → Run table s k at n vs e → (w : ℕ) → at + w < e
      → pairs word_of table k n (bits s at w) ≡ halted PairOverrun
  unfolding prepend
  run_short ran w h = absurd (omega arith)
  run_short (next {k = k} {at = at} {n = n} {e = e} x y u o r) w h =
      elim (dec_le u w) [
        | yes g ↦ first_read k at n w u x y (o.whole w g) ∙ ap (prepend (x ∷ y ∷ [])) (run_short r (w - u) (omega arith))
        | no g ↦ first-not k at n w (o.short w (omega arith))
      ]

  -- one pair more
  pub run_more : {k at n e : ℕ} {vs : List ℤ} → Run table s k at n vs e → (x y : ℤ) (u : ℕ)
      → Owns (pair_of word_of (table (2 * (k + n)))) (Ok (taken (x, y) u)) (Err PairOverrun) s e u → Run table s k at (suc n) (vs ++ x ∷ y ∷ []) (e + u)
  run_more (ran {k = k} {at = at}) x y u o =
      let p : k + 0 ≡ k = omega arith in
      next x y u (subst (λ (i : ℕ). Owns (pair_of word_of (table (2 * i))) (Ok (taken (x, y) u)) (Err PairOverrun) s at u) p o) ran
  run_more (next {k = k} {n = n} {e = e} a b v p r) x y u o =
      let q : k + suc n ≡ suc k + n = omega arith in
      next a b v p (run_more r x y u (subst (λ (i : ℕ). Owns (pair_of word_of (table (2 * i))) (Ok (taken (x, y) u)) (Err PairOverrun) s e u) q o))

-- ---- two stores
two_stores : (l : List ℤ) (i : ℕ) (x y : ℤ) → set (set l i x) (i + 1) y ≡ sets l i (x ∷ y ∷ [])
two_stores l i x y = rw add-one

-- lists that are the same from i on are so from any later place on
pub drop-on : {A : Type 0} (i j : ℕ) (l m : List A) → i ≤ j → drop i l ≡ drop i m → drop j l ≡ drop j m
drop-on i j l m h e =
    let p : i + (j - i) ≡ j = omega arith in
    ap (λ (n : ℕ). drop n l) (sym p) ∙ sym (drop-drop (j - i) i l) ∙ ap (drop (j - i)) e ∙ drop-drop (j - i) i m ∙ ap (λ (n : ℕ). drop n m) p

module _ (l : List ℤ) (i : ℕ) (x y : ℤ) (e : length l ≡ 576) (h : i + 2 ≤ 576) where
  stored_long : length (set (set l i x) (i + 1) y) ≡ 576
  stored_long = ap length (two_stores l i x y) ∙ length-sets l i (x ∷ y ∷ []) ∙ e

  stored_is : set (set l i x) (i + 1) y ≡ (take i l ++ x ∷ y ∷ []) ++ drop (i + 2) l
  stored_is = two_stores l i x y ∙ sets-eq (x ∷ y ∷ []) l i (omega (arith, e))

  front_long : length (take i l ++ x ∷ y ∷ []) ≡ i + 2
  front_long = let g : i ≤ length l = omega (arith, e) in simp (length-append, length-take-le i l g)

  stored_front : take (i + 2) (set (set l i x) (i + 1) y) ≡ take i l ++ x ∷ y ∷ []
  stored_front = ap (take (i + 2)) stored_is ∙ take_at (take i l ++ x ∷ y ∷ []) (drop (i + 2) l) (i + 2) front_long

  stored_rest : drop (i + 2) (set (set l i x) (i + 1) y) ≡ drop (i + 2) l
  stored_rest = ap (drop (i + 2)) stored_is ∙ drop_at (take i l ++ x ∷ y ∷ []) (drop (i + 2) l) (i + 2) front_long

-- ---- a run of one table, pair by pair
pub run-begin : (table : ℕ) (s : List ℕ) (start from : ℕ) (out : List ℤ) → length out ≡ 576 → RunOn table s start from from out out start
run-begin table s start from out l = record { long = l; near = omega arith; kept = refl; runs = λ tables begin same r. r }

module _ {table : ℕ} {s : List ℕ} {start from k at : ℕ} {out₀ out : List ℤ} (f : RunOn table s start from k out₀ out at) (after : from ≤ k)
    (x y : ℤ) (u : ℕ) (room : 2 * k + 2 ≤ 576) (few : u ≤ 47) (o : Owns (pair_of word_of table) (Ok (taken (x, y) u)) (Err PairOverrun) s at u) where
  pub run-turn : RunOn table s start from (k + 1) out₀ (set (set out (2 * k) x) (2 * k + 1) y) (at + u)
  run-turn =
      let p : 2 * k + 2 ≡ 2 * (k + 1) = omega arith in
      let q : suc k ≡ k + 1 = omega arith in
      let stored = set (set out (2 * k) x) (2 * k + 1) y in
      record {
        long = stored_long out (2 * k) x y f.long room;
        near = omega (arith, f.near);
        kept =
            ap (λ (n : ℕ). drop n stored) (sym p) ∙ stored_rest out (2 * k) x y f.long room
            ∙ drop-on (2 * k) (2 * k + 2) out out₀ (omega arith) f.kept ∙ ap (λ (n : ℕ). drop n out₀) p;
        runs = λ tables begin same r.
            let here : 0 + k ≡ k = omega arith in
            let own = subst (λ (t : ℕ). Owns (pair_of word_of t) (Ok (taken (x, y) u)) (Err PairOverrun) s at u)
            (sym (ap (λ (n : ℕ). tables (2 * n)) here ∙ same k after (omega arith))) o in
            subst (λ (n : ℕ). Run tables s 0 begin n (take (2 * (k + 1)) stored) (at + u)) q
            (subst (λ (vs : List ℤ). Run tables s 0 begin (suc k) vs (at + u))
            (sym (ap (λ (n : ℕ). take n stored) (sym p) ∙ stored_front out (2 * k) x y f.long room))
            (run_more tables s (f.runs tables begin (λ j a b. same j a (omega arith)) r) x y u own));
      }

-- ---- the three regions of a slot
-- up to which number of pair each region goes
abbrev pub ends_of : ℕ → ℕ → ℕ → List ℕ
ends_of first second n = min ((first + 1) / 2) n ∷ min ((second + 1) / 2) n ∷ n ∷ []

pub ends_are : (first second n a b region : ℕ) → a ≡ min ((first + 1) / 2) n → b ≡ min ((second + 1) / 2) n
    → get_or (a ∷ b ∷ n ∷ []) region 0 ≡ get_or (ends_of first second n) region 0
ends_are first second n a b region e f = λ j. get_or (e j ∷ f j ∷ n ∷ []) region 0

-- the regions so far
pub record PairsLoop (first second n : ℕ) (tables s : List ℕ) (start : ℕ) (out₀ out : List ℤ) (at done region : ℕ) : Type 0 where
  pub few : region ≤ 3
  pub done_is : done ≡ get_or (0 ∷ ends_of first second n) region 0
  pub near : at ≤ start + 47 * done
  pub long : length out ≡ 576
  pub kept : drop (2 * done) out ≡ drop (2 * done) out₀
  pub run : Run (table_at first second tables) s 0 start done (take (2 * done) out) at

module _ (first second n : ℕ) (rise : first ≤ second) where
  abbrev done_at : ℕ → ℕ
  done_at region = get_or (0 ∷ ends_of first second n) region 0

  abbrev end_at : ℕ → ℕ
  end_at region = get_or (ends_of first second n) region 0

  end_after : (region : ℕ) → region < 3 → (done_at region ≤ end_at region) × (end_at region ≤ n)
  end_after zero h = (omega arith, omega arith)
  end_after (suc zero) h = (omega arith, omega arith)
  end_after (suc (suc zero)) h = (omega arith, omega arith)
  end_after (suc (suc (suc region))) h = absurd (omega arith)

  -- the table of a pair of a region is the region's
  region_table : (tables : List ℕ) (region : ℕ) → region < 3 → (k : ℕ) → done_at region ≤ k → k < end_at region
      → table_at first second tables (2 * k) ≡ get_or tables region 0
  unfolding table_at
  region_table tables zero h k a b = picked _ (lt-ltb (2 * k) first (omega arith))
  region_table tables (suc zero) h k a b = passed _ (le-ltb (2 * k) first (omega arith)) ∙ picked _ (lt-ltb (2 * k) second (omega arith))
  region_table tables (suc (suc zero)) h k a b = passed _ (le-ltb (2 * k) first (omega arith)) ∙ passed _ (le-ltb (2 * k) second (omega arith))
  region_table tables (suc (suc (suc region))) h k a b = absurd (omega arith)

  pub pairs-begin : (tables : List ℕ) (s : List ℕ) (start : ℕ) (out : List ℤ) → length out ≡ 576 → PairsLoop first second n tables s start out out start 0 0
  pairs-begin tables s start out l = record { few = omega arith; done_is = refl; near = omega arith; long = l; kept = refl; run = ran }

  module _ {tables s : List ℕ} {start : ℕ} {out₀ out : List ℤ} {at done region : ℕ} (f : PairsLoop first second n tables s start out₀ out at done region) where
    module _ (h : region < 3) (to : ℕ) (is : to ≡ get_or (ends_of first second n) region 0) where
      pub pairs-order : (done ≤ to) × (to ≤ n)
      pairs-order = let p = end_after region h in (omega (arith, f.done_is, is, p.0), omega (arith, is, p.1))

      pub pairs-turn : {out' : List ℤ} {e : ℕ} → RunOn (get_or tables region 0) s at done to out out' e → PairsLoop first second n tables s start out₀ out' e to (region + 1)
      pairs-turn {out'} {e} r =
          let next : region + 1 ≡ suc region = omega arith in
          record {
            few = omega arith;
            done_is = is ∙ ap (λ (k : ℕ). get_or (0 ∷ ends_of first second n) k 0) (sym next);
            near = omega (arith, r.near, f.near, pairs-order.0);
            long = r.long;
            kept = r.kept ∙ drop-on (2 * done) (2 * to) out out₀ (omega (arith, pairs-order.0)) f.kept;
            run =
                r.runs (table_at first second tables) start
                (λ k a b. region_table tables region h k (omega (arith, f.done_is)) (omega (arith, is))) f.run;
          }

    pub pairs_end : 3 ≤ region → PairsRun (table_at first second tables) s start n out₀ out at
    pairs_end h =
        let three : region ≡ 3 = omega (arith, f.few) in
        let all : done ≡ n = f.done_is ∙ ap (λ (k : ℕ). get_or (0 ∷ ends_of first second n) k 0) three in
        record {
          long = f.long;
          kept = subst (λ (k : ℕ). drop (2 * k) out ≡ drop (2 * k) out₀) all f.kept;
          run = subst (λ (k : ℕ). Run (table_at first second tables) s 0 start k (take (2 * k) out) at) all f.run;
        }

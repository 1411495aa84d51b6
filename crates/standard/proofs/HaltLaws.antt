-- Why a slot's own bits can be refused: for its factors, for what it shares, for its regions, for a pair that does not end, and for bits that
-- begin no codeword, which only a reader that meets such bits gives. Shown once, for any test of reasons that lets these through. So such a
-- slot is never "missing" (20), and read by the published codes, which are complete, never without a codeword (25).
use Rattle.std.specs.Prelude.{◌≡◌, Bool, true, not, ◌&&◌, ltb, eqb, ℤ, Some, None, Ok, Err, drop}
use Rattle.std.proofs.Math.Path.{refl}
use mathlib.Core.List.{List, [], ◌∷◌}
use Prim.Native.Nat.{ℕ, zero, suc, ◌+◌, ◌*◌}
use Rattle.standard.specs.ToldLaws.{either_way}
use Rattle.standard.specs.Refusals.{number_of}
use Rattle.standard.specs.Codes.{Codeword, word_of}
use Rattle.standard.proofs.CodesLaws.{complete}
use Rattle.standard.specs.Record.{shape_of}
use Rattle.standard.specs.Factors.{plan_of, sources_of, plan_bits}
use Rattle.standard.specs.Numbers.{Number, Pair, Quad, Reader, number_in, two_last, two_first, two_of, pair_after, pair_word, pair_of, quad_of, Numbers, halted, got, prepend, then_pairs, pairs, then_quads, quads, then_rest, numbers_by, regions_of, numbers_of, quad_word, quad_first, quad_last, quiet}
use Rattle.standard.specs.Slots.{Outcome, stopped, holds, any_of, with_factors, slot_by, slot_of}
use Rattle.standard.specs.declared.SampleRate.{SampleRate}
use Rattle.standard.specs.declared.Setting.{Setting}
use Rattle.standard.specs.declared.Shape.{Shape}
use Rattle.standard.specs.declared.SlotRecord.{SlotRecord}
use Rattle.standard.specs.declared.Refusal.{Refusal}
use Rattle.standard.specs.declared.Refusal.TheVariants.{FactorOverrun, LostShare, PairOverrun, NoCodeword}
use Rattle.standard.specs.declared.Unread.TheVariants.{Cut, Alien}
use Rattle.standard.specs.declared.Regions.{Regions}

-- the reasons that a slot's own bits may be refused for
pub record Allows (ok : Refusal → Bool) (word : Reader) : Type 0 where
  pub factors : ok FactorOverrun ≡ true
  pub share : ok LostShare ≡ true
  pub pair : ok PairOverrun ≡ true
  pub alien : (t : ℕ) (b : List Bool) → word t b ≡ Err Alien → ok NoCodeword ≡ true

-- an outcome that, if it is refused, is so for a reason that is let through
unfoldable pub allowed : (Refusal → Bool) → Outcome → Bool
allowed ok (stopped r) = ok r
allowed ok (holds long short vs) = true

module _ (ok : Refusal → Bool) (word : Reader) (allows : Allows ok word) where
  ok_pair : Pair → Bool
  ok_pair (Ok p) = true
  ok_pair (Err r) = ok r

  ok_numbers : Numbers → Bool
  ok_numbers (halted r) = ok r
  ok_numbers (got vs b) = true

  -- ---- a pair
  last_ok : (x : ℤ) (n : ℕ) (y : Number) → ok_pair (two_last x n y) ≡ true
  unfolding two_last ok_pair
  last_ok x n None = allows.pair
  last_ok x n (Some y) = refl

  first-ok : (w y : ℕ) (b : List Bool) (x : Number) → ok_pair (two_first w y b x) ≡ true
  unfolding two_first ok_pair
  first-ok w y b None = allows.pair
  first-ok w y b (Some x) = last_ok x.value x.used (number_in w y (drop x.used b))

  after-ok : (n : ℕ) (p : Pair) → ok_pair p ≡ true → ok_pair (pair_after n p) ≡ true
  unfolding pair_after ok_pair
  after-ok n (Err r) e = e
  after-ok n (Ok p) e = refl

  word_ok : (w : ℕ) (b : List Bool) (c : Codeword) → (c ≡ Err Alien → ok NoCodeword ≡ true) → ok_pair (pair_word w b c) ≡ true
  unfolding pair_word two_of ok_pair
  word_ok w b (Err Cut) f = allows.pair
  word_ok w b (Err Alien) f = f refl
  word_ok w b (Ok c) f = after-ok c.used _ (first-ok w _ (drop c.used b) _)

  -- ---- a quad
  ok_quad : Quad → Bool
  ok_quad (Err Alien) = ok NoCodeword
  ok_quad (Err Cut) = true
  ok_quad (Ok q) = true

  last_quad : (v w : ℤ) (n : ℕ) (p : Pair) → ok_quad (quad_last v w n p) ≡ true
  unfolding quad_last ok_quad
  last_quad v w n (Err r) = refl
  last_quad v w n (Ok p) = refl

  first-quad : (c n : ℕ) (b : List Bool) (p : Pair) → ok_quad (quad_first c n b p) ≡ true
  unfolding quad_first ok_quad
  first-quad c n b (Err r) = refl
  first-quad c n b (Ok p) = last_quad p.value.0 p.value.1 (n + p.used) _

  word_quad : (b : List Bool) (c : Codeword) → (c ≡ Err Alien → ok NoCodeword ≡ true) → ok_quad (quad_word b c) ≡ true
  unfolding quad_word ok_quad
  word_quad b (Err Cut) f = refl
  word_quad b (Err Alien) f = f refl
  word_quad b (Ok c) f = first-quad c.value c.used (drop c.used b) _

  -- ---- many
  prepend-ok : (vs : List ℤ) (q : Numbers) → ok_numbers q ≡ true → ok_numbers (prepend vs q) ≡ true
  unfolding prepend ok_numbers
  prepend-ok vs (halted r) e = e
  prepend-ok vs (got ws b) e = refl

  then_pairs_lem : (p : Pair) (rest : ℕ → Numbers) → ok_pair p ≡ true → ((u : ℕ) → ok_numbers (rest u) ≡ true) → ok_numbers (then_pairs p rest) ≡ true
  unfolding then_pairs ok_numbers ok_pair
  then_pairs_lem (Err r) rest e f = e
  then_pairs_lem (Ok p) rest e f = prepend-ok (p.value.0 ∷ p.value.1 ∷ []) (rest p.used) (f p.used)

  pairs-ok : (table : ℕ → ℕ) (k n : ℕ) (b : List Bool) → ok_numbers (pairs word table k n b) ≡ true
  unfolding pairs pair_of ok_numbers
  pairs-ok table k zero b = refl
  pairs-ok table k (suc n) b =
      then_pairs_lem (pair_of word (table (2 * k)) b) _ (word_ok _ b (word (table (2 * k)) b) (allows.alien (table (2 * k)) b))
      (λ u. pairs-ok table (suc k) n (drop u b))

  then_quads_lem : (q : Quad) (rest : ℕ → Numbers) → ok_quad q ≡ true → ((u : ℕ) → ok_numbers (rest u) ≡ true) → ok_numbers (then_quads q rest) ≡ true
  unfolding then_quads ok_numbers ok_quad
  then_quads_lem (Err Alien) rest e f = e
  then_quads_lem (Err Cut) rest e f = refl
  then_quads_lem (Ok q) rest e f = prepend-ok q.value (rest q.used) (f q.used)

  quads-ok : (t n : ℕ) (b : List Bool) → ok_numbers (quads word t n b) ≡ true
  unfolding quads quad_of ok_numbers
  quads-ok t zero b = refl
  quads-ok t (suc n) [] = refl
  quads-ok t (suc n) (x ∷ b) =
      then_quads_lem (quad_of word t (x ∷ b)) _ (word_quad (x ∷ b) (word t (x ∷ b)) (allows.alien t (x ∷ b))) (λ u. quads-ok t n (drop u (x ∷ b)))

  rest_ok : (t n : ℕ) (q : Numbers) → ok_numbers q ≡ true → ok_numbers (then_rest word t n q) ≡ true
  unfolding then_rest ok_numbers
  rest_ok t n (halted r) e = e
  rest_ok t n (got vs b) e = prepend-ok vs _ (quads-ok t _ b)

  by_ok : (r : SlotRecord) (g : Regions) (b : List Bool) → ok_numbers (numbers_by word r g b) ≡ true
  unfolding numbers_by ok_numbers
  by_ok r g b = rest_ok _ r.big_values _ (pairs-ok _ 0 r.big_values b)

  quiet_ok : (q : Numbers) → ok_numbers q ≡ true → ok_numbers (quiet q) ≡ true
  unfolding quiet ok_numbers
  quiet_ok (halted k) e = e
  quiet_ok (got vs b) e = refl

  numbers-ok : (rate : SampleRate) (r : SlotRecord) (b : List Bool) → ok_numbers (numbers_of word rate r b) ≡ true
  unfolding numbers_of ok_numbers
  numbers-ok rate r [] = quiet_ok (numbers_by word r (regions_of rate r) []) (by_ok r (regions_of rate r) [])
  numbers-ok rate r (a ∷ b) = by_ok r (regions_of rate r) (a ∷ b)

  -- ---- with its factors
  factors_ok : (mpeg1 : Bool) (k : Shape) (fs : List ℕ) (q : Numbers) → ok_numbers q ≡ true → allowed ok (with_factors mpeg1 k fs q) ≡ true
  unfolding with_factors allowed ok_numbers
  factors_ok mpeg1 k fs (halted r) e = e
  factors_ok mpeg1 k fs (got vs b) e = refl

pub slot_allowed : (ok : Refusal → Bool) → Allows ok word_of → (g : Setting) (r : SlotRecord) (lost : Bool) (old : List ℕ) (b : List Bool)
    → allowed ok (slot_of g r lost old b) ≡ true
unfolding slot_of slot_by allowed
slot_allowed ok a g r lost old b =
    either_way (λ (o : Outcome). allowed ok o ≡ true) (ltb r.part2_3_length (plan_bits (sources_of (plan_of g r)))) _ _ (λ e. a.factors)
    (λ e. either_way (λ (o : Outcome). allowed ok o ≡ true) (any_of g.shares && lost) _ _ (λ f. a.share)
    (λ f. factors_ok ok word_of a g.mpeg1 (shape_of r) _ _ (numbers-ok ok word_of a g.rate r _)))

-- ---- the two tests that matter
-- every reason but one
unfoldable pub is_other : ℕ → Refusal → Bool
is_other k r = not (eqb (number_of r) k)

pub not_missing : Allows (is_other 20) word_of
unfolding is_other
not_missing = record { factors = refl; share = refl; pair = refl; alien = λ t b e. refl }

pub not_alien : Allows (is_other 25) word_of
unfolding is_other word_of
not_alien = record { factors = refl; share = refl; pair = refl; alien = λ t b e. absurd (complete t b e) }

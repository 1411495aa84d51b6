-- Pairs read one after the other with no look at where their bits end.
use Rattle.std.specs.Prelude.{Ok, Err, ◌≡◌, List, [], ◌∷◌, ℕ, suc, ◌+◌, ◌-◌, ◌*◌, ◌≤◌, ◌<◌, ℤ, length, take, drop}
use Rattle.standard.specs.Sizes.{per_slot}
use Rattle.standard.specs.Codes.{word_of, taken}
use Rattle.standard.specs.Numbers.{pair_of}
use Rattle.standard.specs.declared.Refusal.TheVariants.{PairOverrun}
use Rattle.huffman.specs.Owns.{Owns}

-- n pairs from the k-th on, from a place on up to the place e, whatever their bits are: the numbers
pub data Run (table : ℕ → ℕ) (s : List ℕ) : ℕ → ℕ → ℕ → List ℤ → ℕ → Type 0 where
  ran : {k at : ℕ} → Run table s k at 0 [] at
  next : {k at n e : ℕ} {vs : List ℤ} (x y : ℤ) (u : ℕ) → Owns (pair_of word_of (table (2 * k))) (Ok (taken (x, y) u)) (Err PairOverrun) s at u
      → Run table s (suc k) (at + u) n vs e → Run table s k at (suc n) (x ∷ y ∷ vs) e

-- the pairs of one table from the number `from` up to before `to`, which start at the place `start`, lead any run that ends there on to the place e; out₀ and
-- out are the numbers before and after
pub record RunOn (table : ℕ) (s : List ℕ) (start from to : ℕ) (out₀ out : List ℤ) (e : ℕ) : Type 0 where
  pub long : length out ≡ per_slot
  pub near : e ≤ start + 47 * (to - from)
  pub kept : drop (2 * to) out ≡ drop (2 * to) out₀
  pub runs : (tables : ℕ → ℕ) (begin : ℕ) → ((k : ℕ) → from ≤ k → k < to → tables (2 * k) ≡ table)
      → Run tables s 0 begin from (take (2 * from) out₀) start → Run tables s 0 begin to (take (2 * to) out) e

-- n pairs of a slot from the place `start` on, up to the place e; behind their numbers nothing has changed
pub record PairsRun (tables : ℕ → ℕ) (s : List ℕ) (start n : ℕ) (out₀ out : List ℤ) (e : ℕ) : Type 0 where
  pub long : length out ≡ per_slot
  pub kept : drop (2 * n) out ≡ drop (2 * n) out₀
  pub run : Run tables s 0 start n (take (2 * n) out) e

-- Why quads one after the other leave what the definition says: the numbers that stand so far, then what the definition makes of the bits left, are the
-- whole; and behind them nothing has changed.
use Rattle.std.specs.Prelude.{Ok, Err}
use mathlib.Core.Path.{◌≡◌, refl, sym, ap, ◌∙◌}
use mathlib.Core.Bool.{Bool}
use mathlib.Core.List.{List, [], ◌++◌, append-nil}
use Prim.Native.Nat.{ℕ, suc, ◌+◌, ◌-◌, ◌/◌, ◌≤◌, ◌<◌}
use native.Mathlib.Decide.{dec_le}
use native.Mathlib.Omega.{arith}
use lib.IntN.{ℤ}
use lib.ListN.{length, take, drop, length-append}
use lib.Seq.{sets, sets-eq, length-sets, length-take-le, take_at, drop_at}
use Rattle.standard.specs.Bits.{between}
use Rattle.standard.specs.BitsLaws.{between-drop, between-length}
use Rattle.standard.specs.Codes.{word_of, taken}
use Rattle.standard.specs.Numbers.{Numbers, got, prepend, quad_of, quads}
use Rattle.standard.proofs.NumbersLaws.{prepend-prepend, quads-end, quads-dropped, quads-four}
use Rattle.standard.specs.declared.Unread.TheVariants.{Cut}
use Rattle.huffman.specs.Owns.{Owns}
use Rattle.huffman.specs.Runs.{Says, NumbersRead}
use Rattle.huffman.proofs.Running.{drop-on}

-- ---- numbers stored some at a time
-- q is what all come to, rest what is to come of it from the position i on
pub record Filling (q rest : Numbers) (out₀ out : List ℤ) (i : ℕ) : Type 0 where
  pub long : length out ≡ 576
  pub same : q ≡ prepend (take i out) rest
  pub kept : drop i out ≡ drop i out₀

module _ (q rest next : Numbers) (out₀ out vs : List ℤ) (i j : ℕ) (f : Filling q rest out₀ out i) (e : rest ≡ prepend vs next)
    (here : i + length vs ≡ j) (room : j ≤ 576) where
  head_long : length (take i out ++ vs) ≡ j
  head_long = let g : i ≤ length out = omega (arith, f.long) in simp (length-append, length-take-le i out g) here

  split : sets out i vs ≡ (take i out ++ vs) ++ drop (i + length vs) out
  split = sets-eq vs out i (omega (arith, f.long))

  pub filling_turn : Filling q next out₀ (sets out i vs) j
  filling_turn = record {
    long = length-sets out i vs ∙ f.long;
    same =
        f.same ∙ ap (prepend (take i out)) e ∙ prepend-prepend (take i out) vs next
        ∙ ap (λ (l : List ℤ). prepend l next) (sym (ap (take j) split ∙ take_at (take i out ++ vs) (drop (i + length vs) out) j head_long));
    kept =
        ap (drop j) split ∙ drop_at (take i out ++ vs) (drop (i + length vs) out) j head_long ∙ ap (λ (n : ℕ). drop n out) here
        ∙ drop-on i j out out₀ (omega arith) f.kept;
  }

-- ---- quads
pub record QuadLoop (q : Numbers) (t from : ℕ) (s : List ℕ) (e : ℕ) (out₀ out : List ℤ) (at i : ℕ) : Type 0 where
  pub low : from ≤ i
  pub high : i ≤ 576
  pub place : at ≤ e
  pub fill : Filling q (quads word_of t ((576 - i) / 4) (between s at e)) out₀ out i

pub quad-begin : (t from : ℕ) (s : List ℕ) (start e : ℕ) (out : List ℤ) → from ≤ 576 → start ≤ e → length out ≡ 576
    → QuadLoop (prepend (take from out) (quads word_of t ((576 - from) / 4) (between s start e))) t from s e out out start from
quad-begin t from s start e out f p l = record {
  low = omega arith;
  high = f;
  place = p;
  fill = record { long = l; same = refl; kept = refl };
}

module _ (q : Numbers) (t from : ℕ) (s : List ℕ) (e : ℕ) (out₀ out : List ℤ) (at i : ℕ)
    (r : QuadLoop q t from s e out₀ out at i) where
  -- what was read stays, whichever bits are left
  quad-done : (b : List Bool) → quads word_of t ((576 - i) / 4) (between s at e) ≡ got [] b → NumbersRead q from out₀ out (Ok i)
  unfolding prepend Says
  quad-done b g = record {
    long = r.fill.long;
    says = record {
      low = r.low;
      high = r.high;
      gave = record {
        rest = b;
        same = r.fill.same ∙ ap (prepend (take i out)) g ∙ ap (λ (l : List ℤ). got l b) (append-nil (take i out));
      };
      kept = r.fill.kept;
    };
  }

  pub quad-full : 572 < i → NumbersRead q from out₀ out (Ok i)
  unfolding quads
  quad-full h =
      let z : (576 - i) / 4 ≡ 0 = omega arith in
      quad-done (between s at e) (ap (λ (m : ℕ). quads word_of t m (between s at e)) z)

  quad-out : e ≤ at → NumbersRead q from out₀ out (Ok i)
  quad-out h = quad-done [] (quads-end word_of t ((576 - i) / 4) (between s at e) (omega (arith, between-length s at e)))

  -- four numbers fit, and a bit is left
  module _ (h : i ≤ 572) (k : at < e) where
    left : 0 < length (between s at e)
    left = omega (arith, between-length s at e)

    one-quad : quads word_of t ((576 - i) / 4) (between s at e) ≡ quads word_of t (suc ((576 - (i + 4)) / 4)) (between s at e)
    one-quad =
        let z : (576 - i) / 4 ≡ suc ((576 - (i + 4)) / 4) = omega arith in
        ap (λ (m : ℕ). quads word_of t m (between s at e)) z

    quad-dropped : Err Cut ≡ quad_of word_of t (between s at e) → NumbersRead q from out₀ out (Ok i)
    quad-dropped g = quad-done [] (one-quad ∙ quads-dropped word_of t ((576 - (i + 4)) / 4) (between s at e) left g)

    quad-four : (vs : List ℤ) (u : ℕ) → length vs ≡ 4 → Ok (taken vs u) ≡ quad_of word_of t (between s at e) → at + u ≤ e
        → QuadLoop q t from s e out₀ (sets out i vs) (at + u) (i + 4)
    quad-four vs u four g fit = record {
      low = omega (arith, r.low);
      high = omega arith;
      place = fit;
      fill =
          filling_turn q (quads word_of t ((576 - i) / 4) (between s at e))
          (quads word_of t ((576 - (i + 4)) / 4) (between s (at + u) e)) out₀ out vs i (i + 4) r.fill
          (one-quad ∙ quads-four word_of t ((576 - (i + 4)) / 4) (between s at e) left (taken vs u) g
          ∙ ap (λ (b : List Bool). prepend vs (quads word_of t ((576 - (i + 4)) / 4) b)) (between-drop u s at e))
          (ap (λ (n : ℕ). i + n) four) (omega arith);
    }

  -- a quad that owns u bits: it ends within those that are left, or is dropped
  module _ (h : i ≤ 572) {vs : List ℤ} {u : ℕ} (o : Owns (quad_of word_of t) (Ok (taken vs u)) (Err Cut) s at u) where
    pub quad-stop : e < at + u → NumbersRead q from out₀ out (Ok i)
    unfolding between
    quad-stop k =
        elim (dec_le e at) [
          | yes l ↦ quad-out l
          | no l ↦ quad-dropped h (omega arith) (sym (o.short (e - at) (omega (arith, r.place))))
        ]

    pub quad-turn : length vs ≡ 4 → 0 < u → at + u ≤ e → QuadLoop q t from s e out₀ (sets out i vs) (at + u) (i + 4)
    unfolding between
    quad-turn four some k = quad-four h (omega arith) vs u four (sym (o.whole (e - at) (omega arith))) k

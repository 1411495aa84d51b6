-- Reading behind the first n bytes, which stay: what is filled so far, and that a read within the rest leaves it so.
use mathlib.Core.Path.{◌≡◌, sym, ap, ◌∙◌}
use mathlib.Core.List.{List}
use Prim.Native.Nat.{ℕ, ◌+◌, ◌-◌, ◌≤◌}
use native.Mathlib.Omega.{arith}
use borrow.Rule.Slice.PartMut.{mid_of, put_mid, take_put, same_len_mid}
use lib.ListN.{length, take, drop, length-append}
use lib.Seq.{take-take, take-append_seam}
use Rattle.input.specs.declared.Held.{Held}
use Rattle.input.specs.declared.Input.{Input}
use Rattle.input.specs.Held.{unread_of, Slid, ReadOn, FilledUp}

pub record Reading (old left : List ℕ) (n end : ℕ) : Type 0 where
  pub more : n ≤ end
  pub within : end ≤ length old
  pub long : length left ≡ length old
  pub kept : take n left ≡ take n old

module _ {old left : List ℕ} {n end : ℕ} (r : Reading old left n end) where
  -- whatever a read puts behind what is filled
  pub behind : (ys : List ℕ) → length ys ≡ length (mid_of end (length left - end) left) → Reading old (put_mid end (length left - end) left ys) n end
  behind ys e = record {
    more = r.more;
    within = r.within;
    long = same_len_mid end (length left - end) left ys e ∙ r.long;
    kept =
        sym (take-take n end (put_mid end (length left - end) left ys) r.more)
        ∙ ap (take n) (take_put end (length left - end) left ys (omega (arith, r.within, r.long)))
        ∙ take-take n end left r.more
        ∙ r.kept;
  }

  pub onward : (k : ℕ) → end + k ≤ length old → Reading old left n (end + k)
  onward k h = record { more = omega (arith, r.more); within = h; long = r.long; kept = r.kept }

-- ---- after sliding
-- the unread bytes are within the lent ones
pub slid_fits : {old : List ℕ} {c r : Held} {left : List ℕ} → Slid old c r left → r.end ≤ length left
slid_fits {old} {c} p =
    omega (arith, p.count, ap length p.bytes ∙ length-append (unread_of old c) (drop (length (unread_of old c)) old))

pub slid_read : {old : List ℕ} {c m r : Held} {mid : List ℕ} {i : Input} {left : List ℕ} → Slid old c m mid → length mid ≡ length old
    → ReadOn mid m r i left → FilledUp old c r i left
slid_read {old} {c} {m} {r} {mid} {i} {left} p l q =
    let u = unread_of old c in record {
      first = q.first ∙ p.first;
      more = omega (arith, p.count, q.more);
      within = omega (arith, q.within);
      kept =
          ap (λ (k : ℕ). take k left) (sym p.count)
          ∙ q.kept
          ∙ (λ j. take (p.count j) (p.bytes j))
          ∙ take-append_seam u (drop (length u) old);
      full = λ e. q.full e ∙ l;
    }

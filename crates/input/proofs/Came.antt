-- What came from a reader whose bytes are known: read after read, its first ones in their order, behind the first n of the lent bytes.
use mathlib.Core.Path.{◌≡◌, sym, ap, ◌∙◌, subst}
use mathlib.Core.List.{List, ◌++◌}
use Prim.Native.Nat.{ℕ, ◌+◌, ◌-◌, ◌≤◌}
use native.Mathlib.Omega.{arith}
use borrow.Rule.Slice.PartMut.{mid_of, put_mid, post_of, mid_len}
use lib.ListN.{length, take, drop, length-take}
use Rattle.std.specs.Io.KnownBytes.{Consumes}
use Rattle.std.specs.declared.option.Option.{Option}
use Rattle.std.proofs.KnownBytes.{Consumes-trans}
use Rattle.std.proofs.Math.Seq.{take-append-add}
use Rattle.std.proofs.lemmas.List.{take-append-le, drop-append-le}
use Rattle.input.specs.declared.Held.{Held}
use Rattle.input.specs.declared.Input.{Input}
use Rattle.input.specs.Held.{unread_of, Slid, ReadOn}

module _ (a b c : Option (List ℕ)) (left : List ℕ) (n end : ℕ) (more : n ≤ end) (within : end ≤ length left)
    (so_far : Consumes a b (drop n (take end left))) (ys : List ℕ) where
  some_joined : (k : ℕ) → k ≤ length ys → drop n (take (end + k) (put_mid end (length left - end) left ys)) ≡ drop n (take end left) ++ take k ys
  some_joined k fits =
      let front = take end left in
      let post = post_of end (length left - end) left in
      let long : length front ≡ end = omega (arith, length-take end left) in
      ap (λ (m : ℕ). drop n (take (m + k) (front ++ (ys ++ post)))) (sym long)
      ∙ ap (drop n) (take-append-add front (ys ++ post) k ∙ ap (λ (l : List ℕ). front ++ l) (take-append-le k ys post fits))
      ∙ drop-append-le n front (take k ys) (omega (arith, long, more))

  -- a read that got k bytes
  pub some_from : (k : ℕ) → k ≤ length ys → Consumes b c (take k ys) → Consumes a c (drop n (take (end + k) (put_mid end (length left - end) left ys)))
  some_from k fits h =
      subst (Consumes a c) (sym (some_joined k fits)) (Consumes-trans a b c (drop n (take end left)) (take k ys) so_far h)

-- as many as there is room for
pub mid_room : (end : ℕ) (left ys : List ℕ) → end ≤ length left → length ys ≡ length (mid_of end (length left - end) left)
    → length ys + end ≡ length left
mid_room end left ys h e = omega (arith, h, e, mid_len end (length left) left (omega arith))

-- after sliding, by the unread bytes
pub slid_from : (a b : Option (List ℕ)) {old mid left : List ℕ} {c m r : Held} {i : Input} → Slid old c m mid → ReadOn mid m r i left
    → Consumes a b (drop m.end (take r.end left)) → Consumes a b (drop (length (unread_of old c)) (unread_of left r))
unfolding unread_of
slid_from a b {old} {mid} {left} {c} {m} {r} p q h =
    let e : take r.end left ≡ unread_of left r = ap (λ (k : ℕ). drop k (take r.end left)) (sym (q.first ∙ p.first)) in
    subst (Consumes a b) (λ j. drop (p.count j) (e j)) h

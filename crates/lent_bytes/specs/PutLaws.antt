-- Laws of bytes put and moved: two lists put one after the other are their join put at once, also where the room ends within either.
use Rattle.std.specs.Prelude.{◌≡◌, List, [], ◌++◌, ℕ, ◌+◌, ◌-◌, ◌≤◌, min, length, take, drop}
use Rattle.std.proofs.Common.{sym, ap, ◌∙◌, subst, append_assoc, arith, length-append, drop-drop}
use Rattle.std.proofs.Math.Decide.{dec_le}
use Rattle.std.proofs.Math.Seq.{paste, paste-zero, take-length, take-append-add}
use Rattle.std.proofs.lemmas.List.Edits.{length-paste, take-paste, drop-paste}
use Rattle.std.proofs.lemmas.List.{take-append-le}
use Rattle.lent_bytes.specs.Put.{room_for, Put, slid_of}

pub put_same : {old : List ℕ} {at : ℕ} {t u : List ℕ} {r : ℕ} {left : List ℕ} → t ≡ u → Put old at t r left → Put old at u r left
put_same {old} {at} {t} {u} {r} {left} e p = subst (λ (x : List ℕ). Put old at x r left) e p

pub put_none : (old : List ℕ) (at : ℕ) → Put old at [] at old
unfolding room_for
put_none old at =
    let z : room_for old at [] ≡ 0 = omega arith in
    record { next = omega arith; bytes = paste-zero old at [] ∙ ap (paste old at []) (sym z) }

-- where there is room, all of it is put
pub put_whole : {old : List ℕ} {at : ℕ} {t : List ℕ} {r : ℕ} {left : List ℕ} → Put old at t r left → at + length t ≤ length old
    → left ≡ paste old at t (length t)
unfolding room_for
put_whole {old} {at} {t} p h = let e : room_for old at t ≡ length t = omega arith in p.bytes ∙ ap (paste old at t) e

pub slid_whole : (old : List ℕ) (from n : ℕ) → from + n ≤ length old → slid_of old from n ≡ paste old 0 (drop from old) n
unfolding slid_of
slid_whole old from n h = let e : min n (length old - from) ≡ n = omega arith in ap (paste old 0 (drop from old)) e

-- a list put where a whole one ends
whole-then : (old a b : List ℕ) (at m : ℕ) → at + length a ≤ length old
    → paste (paste old at a (length a)) (at + length a) b m ≡ paste old at (a ++ b) (length a + m)
whole-then old a b at m h =
    (λ j. (front j ++ take m b) ++ beyond j)
    ∙ ap (λ (x : List ℕ). x ++ drop (at + length a + m) old) (append_assoc (take at old) a (take m b))
    ∙ (λ j. (take at old ++ sym (take-append-add a b m) j) ++ drop (sum j) old)
  where
    sum : at + length a + m ≡ at + (length a + m)
    sum = omega arith

    front : take (at + length a) (paste old at a (length a)) ≡ take at old ++ a
    front = take-paste old at a (length a) (omega arith) (omega arith) ∙ ap (λ (x : List ℕ). take at old ++ x) (take-length a)

    beyond : drop (at + length a + m) (paste old at a (length a)) ≡ drop (at + length a + m) old
    beyond =
        sym (drop-drop m (at + length a) (paste old at a (length a)))
        ∙ ap (drop m) (drop-paste old at a (length a) (omega arith) (omega arith))
        ∙ drop-drop m (at + length a) old

-- putting changes no length
pub put_long : {old : List ℕ} {at : ℕ} {t : List ℕ} {r : ℕ} {left : List ℕ} → Put old at t r left → length left ≡ length old
unfolding room_for
put_long {old} {at} {t} p = elim (dec_le at (length old)) [
  | yes h ↦ ap length p.bytes ∙ length-paste old at t (room_for old at t) (omega arith) (omega arith)
  | no h ↦
      let z : room_for old at t ≡ 0 = omega arith in
      ap length (p.bytes ∙ ap (paste old at t) z ∙ sym (paste-zero old at t))
]

pub put_then : {old : List ℕ} {at : ℕ} {a : List ℕ} {r : ℕ} {mid : List ℕ} {b : List ℕ} {s : ℕ} {left : List ℕ}
    → Put old at a r mid → Put mid r b s left → Put old at (a ++ b) s left
unfolding room_for
put_then {old} {at} {a} {r} {mid} {b} {s} {left} p q = elim (dec_le (at + length a) (length old)) [
  | yes h ↦
      let n : room_for old at a ≡ length a = omega arith in
      let m : room_for old at (a ++ b) ≡ length a + room_for mid r b = omega (arith, p.next, put_long p, length-append a b) in
      let e : r ≡ at + length a = omega (arith, p.next) in
      record {
        next = omega (arith, q.next);
        bytes =
            q.bytes
            ∙ (λ j. paste ((p.bytes ∙ ap (paste old at a) n) j) (e j) b (room_for mid r b))
            ∙ whole-then old a b at (room_for mid r b) h
            ∙ ap (paste old at (a ++ b)) (sym m);
      }
  | no h ↦
      let m : room_for mid r b ≡ 0 = omega (arith, p.next, put_long p) in
      let n : room_for old at (a ++ b) ≡ room_for old at a = omega (arith, length-append a b) in
      let k : room_for old at a ≤ length a = omega arith in
      record {
        next = omega (arith, q.next, p.next);
        bytes =
            q.bytes
            ∙ ap (paste mid r b) m
            ∙ sym (paste-zero mid r b)
            ∙ p.bytes
            ∙ ap (λ (x : List ℕ). (take at old ++ x) ++ drop (at + room_for old at a) old) (sym (take-append-le (room_for old at a) a b k))
            ∙ ap (paste old at (a ++ b)) (sym n);
      }
]

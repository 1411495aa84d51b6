-- A loop that copies elements one by one, at any element type: what it has done so far is a paste of so many, and what lies beyond is as it was.
use Rattle.std.specs.Prelude.{◌≡◌, refl, List, [], ◌∷◌, ◌++◌, ℕ, zero, suc, ◌+◌, ◌≤◌, ◌<◌, length, get_or, take, drop, set}
use Rattle.std.proofs.Common.{sym, ap, ◌∙◌, append_assoc, append-nil, zero-add, suc-add, add-one, arith, length-set, length-drop, drop_of_length-le, get_or-drop, take-add, drop-drop}
use Rattle.std.proofs.Math.Seq.{paste, paste-zero, paste-suc, take-nil}
use Rattle.std.proofs.lemmas.List.Edits.{take-paste, drop-paste}

-- j elements of src stand in dst from a place on, where old stood
pub record Copying {A : Type 0} (src old dst : List A) (at j : ℕ) : Type 0 where
  pub same : dst ≡ paste old at src j
  pub long : length dst ≡ length old

pub copying_begin : {A : Type 0} (src old : List A) (at : ℕ) → Copying src old old at 0
copying_begin src old at = record { same = paste-zero old at src; long = refl }

module _ {A : Type 0} (src old dst : List A) (at j : ℕ) (r : Copying src old dst at j) where
  pub copying_turn : (z : A) (o : ℕ) (v : A) → o ≡ at + j → v ≡ get_or src j z → at + j < length old → j < length src
      → Copying src old (set dst o v) at (j + 1)
  copying_turn z o v e f h l = record {
    same = (λ t. set (r.same t) (e t) (f t)) ∙ paste-suc old at src j z h l ∙ ap (paste old at src) (sym (add-one j));
    long = length-set dst o v ∙ r.long;
  }

  pub copying_end : (n : ℕ) → j ≡ n → dst ≡ paste old at src n
  copying_end n e = r.same ∙ ap (paste old at src) e

  -- what lies beyond is still to be read
  pub copying_beyond : (z : A) (k : ℕ) → at + j ≤ length old → j ≤ length src → get_or dst (at + j + k) z ≡ get_or old (at + j + k) z
  copying_beyond z k h l =
      sym (get_or-drop (at + j) dst k z)
      ∙ ap (λ (x : List A). get_or x k z) (ap (drop (at + j)) r.same ∙ drop-paste old at src j (omega arith) l)
      ∙ get_or-drop (at + j) old k z

-- elements of one list moved to its front: going forward, what is read next is as it was
pub slide_next : {A : Type 0} (old dst : List A) (from j : ℕ) (z : A) → Copying (drop from old) old dst 0 j → from + j < length old
    → get_or dst (from + j) z ≡ get_or (drop from old) j z
slide_next old dst from j z r h =
    let e : from + j ≡ 0 + j + from = omega arith in
    ap (λ (k : ℕ). get_or dst k z) e
    ∙ copying_beyond (drop from old) old dst 0 j r z from (omega arith) (simp length-drop (omega arith))
    ∙ ap (λ (k : ℕ). get_or old k z) (sym e)
    ∙ sym (get_or-drop from old j z)

-- a part of a list, cut from either side first
pub take-drop : {A : Type 0} (n m : ℕ) (l : List A) → take m (drop n l) ≡ drop n (take (n + m) l)
take-drop zero m l = rw zero-add
take-drop (suc n) m [] = rw (take-nil, take-nil)
take-drop (suc n) m (x ∷ l) = rw suc-add (take-drop n m l)

-- a second piece of src pasted where the first one ends
pub paste_next : {A : Type 0} (src old next : List A) (at a m : ℕ) → at + a ≤ length old → a ≤ length src → take m next ≡ take m (drop a src)
    → paste (paste old at src a) (at + a) next m ≡ paste old at src (a + m)
paste_next {A = A} src old next at a m h l e =
    (λ j. (take-paste old at src a (omega arith) l j ++ e j) ++ beyond j)
    ∙ ap (λ (x : List A). x ++ drop (at + (a + m)) old)
    (append_assoc (take at old) (take a src) (take m (drop a src)) ∙ ap (λ (x : List A). take at old ++ x) (sym (take-add a m src)))
  where
    beyond : drop (at + a + m) (paste old at src a) ≡ drop (at + (a + m)) old
    beyond =
        let s : at + a + m ≡ at + (a + m) = omega arith in
        sym (drop-drop m (at + a) (paste old at src a))
        ∙ ap (drop m) (drop-paste old at src a (omega arith) l)
        ∙ drop-drop m (at + a) old
        ∙ ap (λ (n : ℕ). drop n old) s

-- all of a list of n replaced
pub paste_whole : {A : Type 0} (src old : List A) (n : ℕ) → length old ≡ n → paste old 0 src n ≡ take n src
paste_whole {A = A} src old n e =
    let p : length old ≤ 0 + n = omega arith in
    ap (λ (l : List A). take n src ++ l) (drop_of_length-le old {i = 0 + n} p) ∙ append-nil (take n src)

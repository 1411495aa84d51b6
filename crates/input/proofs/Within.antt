-- The unread bytes by places within the lent ones.
use mathlib.Core.Path.{◌≡◌, sym, ap, ◌∙◌}
use mathlib.Core.List.{List, ◌++◌}
use Prim.Native.Nat.{ℕ, ◌+◌, ◌-◌, ◌≤◌, min}
use native.Mathlib.Decide.{dec_le}
use native.Mathlib.Nat.{zero-add}
use native.Mathlib.Omega.{arith}
use lib.ListN.{length, take, drop, length-take, length-drop, drop_of_length-le}
use lib.Seq.{take_all}
use Rattle.standard.specs.CopyLaws.{take-drop}
use Rattle.lent_bytes.specs.Put.{slid_of}
use Rattle.lent_bytes.specs.PutLaws.{slid_whole}
use Rattle.input.specs.declared.Held.{Held}
use Rattle.input.specs.Held.{unread_of}

-- cut at a place beyond the end
take-least : (l : List ℕ) (n : ℕ) → take (min n (length l)) l ≡ take n l
take-least l n = elim (dec_le n (length l)) [
  | yes h ↦ let e : min n (length l) ≡ n = omega arith in ap (λ (k : ℕ). take k l) e
  | no h ↦ take_all (min n (length l)) l (omega arith) ∙ sym (take_all n l (omega arith))
]

drop-least : (l : List ℕ) (n : ℕ) → drop (min n (length l)) l ≡ drop n l
drop-least l n = elim (dec_le n (length l)) [
  | yes h ↦ let e : min n (length l) ≡ n = omega arith in ap (λ (k : ℕ). drop k l) e
  | no h ↦
      let p : length l ≤ min n (length l) = omega arith in
      let q : length l ≤ n = omega arith in
      drop_of_length-le l {i = min n (length l)} p ∙ sym (drop_of_length-le l {i = n} q)
]

-- e and f are the record's places, brought within the lent bytes
module _ (bytes : List ℕ) (c : Held) (e f : ℕ) (he : e ≡ min c.end (length bytes)) (hf : f ≡ min c.from e) where
  pub unread_part : take (e - f) (drop f bytes) ≡ unread_of bytes c
  unfolding unread_of
  unread_part =
      let s : f + (e - f) ≡ e = omega arith in
      let l : length (take c.end bytes) ≡ e = length-take c.end bytes ∙ sym he in
      let g : f ≡ min c.from (length (take c.end bytes)) = hf ∙ ap (min c.from) (sym l) in
      take-drop f (e - f) bytes
      ∙ ap (λ (k : ℕ). drop f (take k bytes)) (s ∙ he)
      ∙ (λ j. drop (g j) (take-least bytes c.end j))
      ∙ drop-least (take c.end bytes) c.from

  pub unread_count : e - f ≡ length (unread_of bytes c)
  unread_count = sym (ap length (sym unread_part) ∙ simp (length-take, length-drop) (omega arith))

  pub unread_slid : slid_of bytes f (e - f) ≡ unread_of bytes c ++ drop (length (unread_of bytes c)) bytes
  unread_slid =
      slid_whole bytes f (e - f) (omega arith)
      ∙ (λ j. unread_part j ++ drop ((zero-add (e - f) ∙ unread_count) j) bytes)

-- A codeword needs its own bits and no others: what some bits read as, fewer read as too, as long as the codeword is among them; and where
-- it is not, the bits end within a codeword.
use Rattle.std.specs.Prelude.{Ok, Err}
use mathlib.Core.Path.{◌≡◌, refl, sym, ap, ◌∙◌}
use mathlib.Core.Bool.{Bool, true, false}
use mathlib.Core.List.{List, [], ◌∷◌}
use Prim.Native.Nat.{ℕ, zero, suc, ◌-◌, ◌<◌, ◌≤◌}
use native.Mathlib.Omega.{arith}
use borrow.Author.Tests.{eq-eqb}
use Rattle.standard.specs.ToldLaws.{never, both_of}
use Rattle.standard.specs.Bits.{bit_at, bits, between}
use lib.ListN.{length, get_or-eq_default, get_or-append}
use Rattle.standard.specs.RowsLaws.{every, every-at}
use Rattle.standard.specs.Codes.{Entry, entry, decode, low_bits, pair, quad, silent, table1, table2, table3, table5, table6, table7, table8, table9, table10, table11, table12, table13, table15, table16, table24, table_a, table_b, codes, published, word_of, taken, Codeword}
use Rattle.standard.proofs.CodesLaws.{after, open_all, more, whole, decode-bit, decode-end, decode-leaf, published-whole}
use Rattle.standard.specs.declared.Taken.{Taken}
use Rattle.standard.specs.declared.Unread.TheVariants.{Cut}
use Rattle.huffman.specs.Owns.{Owns}
use Rattle.huffman.specs.Signed.{with_signs, spread, branch, held_codes, held}

-- as `left_whole` in standard's CodesLaws, which is private there
kept : (f : ℕ) (v : ℕ) (x : Bool) (w : List Bool) (es : List Entry) → whole (suc f) (entry v (x ∷ w) ∷ es) ≡ true
    → (b : Bool) → (open_all es ≡ true) × (whole f (after b (entry v (x ∷ w) ∷ es)) ≡ true)
unfolding whole
kept f v x w es t false =
    let p = both_of (open_all es) _ t in (p.0, (both_of (whole f (after false (entry v (x ∷ w) ∷ es))) _ p.1).0)
kept f v x w es t true =
    let p = both_of (open_all es) _ t in (p.0, (both_of (whole f (after false (entry v (x ∷ w) ∷ es))) _ p.1).1)

Same : List Entry → List ℕ → ℕ → ℕ → ℕ → ℕ → Type 0
Same es s at v n w = (n ≤ w → decode es (bits s at w) ≡ Ok (taken v n)) × (w < n → decode es (bits s at w) ≡ Err Cut)

-- of a codeword that has a bit, the first is read
less : (c : Codeword) (v n : ℕ) → more c ≡ Ok (taken v n) → (m : ℕ) × (n ≡ suc m) × (c ≡ Ok (taken v m))
unfolding more
less (Ok c) v n e =
    let t : taken c.value (suc c.used) ≡ taken v n = cc in
    (c.used, sym (ap (λ (x : Taken ℕ). x.used) t), λ j. Ok (taken (t j).value c.used))
less (Err why) v n e = let z : ◌≡◌ {A = ℕ} 0 1 = cc in let w : ⊥ = omega arith in absurd w

no_bits : (v n : ℕ) → ◌≡◌ {A = Codeword} (Err Cut) (Ok (taken v n)) → ⊥
no_bits v n e = let z : ◌≡◌ {A = ℕ} 0 1 = cc in omega arith

-- one bit more
bit_more : (f v₀ : ℕ) (x : Bool) (ws : List Bool) (rest : List Entry) (s : List ℕ) (at v n m : ℕ) → open_all rest ≡ true → n ≡ suc m
    → ((w : ℕ) → Same (after (bit_at s at) (entry v₀ (x ∷ ws) ∷ rest)) s (suc at) v m w) → (w : ℕ) → Same (entry v₀ (x ∷ ws) ∷ rest) s at v n w
unfolding Same bits more
bit_more f v₀ x ws rest s at v n m o e given zero =
    ((λ h. absurd (omega arith)), (λ h. decode-end (entry v₀ (x ∷ ws) ∷ rest) o))
bit_more f v₀ x ws rest s at v n m o e given (suc w) =
    let d = decode-bit (entry v₀ (x ∷ ws) ∷ rest) (bit_at s at) (bits s (suc at) w) o in
    ((λ h. d ∙ ap more ((given w).0 (omega arith)) ∙ ap (λ (i : ℕ). Ok (taken v i)) (sym e)), (λ h. d ∙ ap more ((given w).1 (omega arith))))

same : (f : ℕ) (es : List Entry) → whole f es ≡ true → (s : List ℕ) (at k v n : ℕ) → decode es (bits s at k) ≡ Ok (taken v n) → (w : ℕ) → Same es s at v n w
unfolding whole Same bits
same zero es t s at k v n e w = never t
same (suc f) [] t s at k v n e w = never t
same (suc f) (entry u [] ∷ []) t s at k v n e w =
    let p : (b : List Bool) → decode (entry u [] ∷ []) b ≡ Ok (taken u 0) = λ b. decode-leaf u (entry u [] ∷ []) b (eq-eqb u u refl) in
    let q : ◌≡◌ {A = Codeword} (Ok (taken u 0)) (Ok (taken v n)) = sym (p (bits s at k)) ∙ e in
    let t : taken u 0 ≡ taken v n = cc in
    let z = ap (λ (x : Taken ℕ). x.used) t in
    ((λ h. p (bits s at w) ∙ q), (λ h. absurd (omega arith)))
same (suc f) (entry u [] ∷ (a ∷ es)) t s at k v n e w = never t
same (suc f) (entry u (x ∷ ws) ∷ es) t s at zero v n e w =
    absurd (no_bits v n (sym (decode-end (entry u (x ∷ ws) ∷ es) (kept f u x ws es t false).0) ∙ e))
same (suc f) (entry u (x ∷ ws) ∷ es) t s at (suc k) v n e w =
    let q = kept f u x ws es t (bit_at s at) in
    let l = less (decode (after (bit_at s at) (entry u (x ∷ ws) ∷ es)) (bits s (suc at) k)) v n (sym (decode-bit (entry u (x ∷ ws) ∷ es) (bit_at s at) (bits s (suc at) k) q.0) ∙ e) in
    bit_more f u x ws es s at v n l.0 q.0 l.1
    (λ y. same f (after (bit_at s at) (entry u (x ∷ ws) ∷ es)) q.1 s (suc at) k v l.0 l.2 y) w

-- ---- every code that is held is whole
all_whole : every (whole 20) held_codes ≡ true
unfolding every whole held_codes with_signs spread branch codes low_bits pair quad silent table1 table2 table3 table5 table6 table7 table8 table9 table10 table11 table12 table13 table15 table16 table24 table_a table_b
all_whole = refl

silent-whole : whole 20 silent ≡ true
unfolding whole silent pair low_bits
silent-whole = refl

held_whole : (t : ℕ) → whole 20 (held t) ≡ true
unfolding held
held_whole t = every-at (whole 20) silent held_codes silent-whole all_whole t

-- and the published ones are held
codes-long : length codes ≡ 34
unfolding codes
codes-long = refl

pub held-table : (t : ℕ) → t < 34 → held t ≡ published t
unfolding held held_codes published
held-table t h = get_or-append codes (with_signs table_a ∷ with_signs table_b ∷ []) silent t (omega (arith, codes-long))

pub held-past : (t : ℕ) → 34 ≤ t → held 0 ≡ published t
unfolding held held_codes codes published
held-past t h = let l : length codes ≤ t = omega (arith, codes-long) in sym (get_or-eq_default codes silent l)

-- no codeword is longer than 19 bits
brief : (f : ℕ) (es : List Entry) → whole f es ≡ true → (b : List Bool) (v n : ℕ) → decode es b ≡ Ok (taken v n) → n < f
unfolding whole
brief zero es t b v n e = never t
brief (suc f) [] t b v n e = never t
brief (suc f) (entry u [] ∷ []) t b v n e =
    let q : ◌≡◌ {A = Codeword} (Ok (taken u 0)) (Ok (taken v n)) = sym (decode-leaf u (entry u [] ∷ []) b (eq-eqb u u refl)) ∙ e in
    let t : taken u 0 ≡ taken v n = cc in
    let z = ap (λ (x : Taken ℕ). x.used) t in
    omega arith
brief (suc f) (entry u [] ∷ (a ∷ es)) t b v n e = never t
brief (suc f) (entry u (x ∷ ws) ∷ es) t [] v n e =
    absurd (no_bits v n (sym (decode-end (entry u (x ∷ ws) ∷ es) (kept f u x ws es t false).0) ∙ e))
brief (suc f) (entry u (x ∷ ws) ∷ es) t (y ∷ b) v n e =
    let q = kept f u x ws es t y in
    let l = less (decode (after y (entry u (x ∷ ws) ∷ es)) b) v n (sym (decode-bit (entry u (x ∷ ws) ∷ es) y b q.0) ∙ e) in
    omega (arith, brief f (after y (entry u (x ∷ ws) ∷ es)) q.1 b v l.0 l.2, l.1)

pub held-brief : (k : ℕ) (b : List Bool) (v n : ℕ) → decode (held k) b ≡ Ok (taken v n) → n ≤ 19
held-brief k b v n e = let h = brief 20 (held k) (held_whole k) b v n e in omega (arith, h)

-- what is read under the number of a table's code is that table's codeword
pub known_word : (k table : ℕ) → held k ≡ published table → (b : List Bool) (c : Codeword) → decode (held k) b ≡ c → word_of table b ≡ c
unfolding word_of
known_word k table h b c e = sym (ap (λ (es : List Entry). decode es b) h) ∙ e

module _ (table : ℕ) (s : List ℕ) (at k v n : ℕ) (e : word_of table (bits s at k) ≡ Ok (taken v n)) where
  -- a codeword owns its bits
  pub word_owns : Owns (word_of table) (Ok (taken v n)) (Err Cut) s at n
  unfolding word_of Same
  word_owns =
      record {
        whole = λ m h. (same 20 (published table) (published-whole table) s at k v n e m).0 h;
        short = λ m h. (same 20 (published table) (published-whole table) s at k v n e m).1 h;
      }

  pub word_whole : (end : ℕ) → n ≤ end - at → Ok (taken v n) ≡ word_of table (between s at end)
  unfolding between
  word_whole end h = sym (word_owns.whole (end - at) h)

  pub word_cut_off : (end : ℕ) → end - at < n → Err Cut ≡ word_of table (between s at end)
  unfolding between
  word_cut_off end h = sym (word_owns.short (end - at) h)

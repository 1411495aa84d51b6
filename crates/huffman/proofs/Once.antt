-- Tables 16 to 23 are one table in memory, and 24 to 31 another: all eight of a kind have one code, one link leads to it, and a pair of each is found by that
-- link and the table's own escape width, in which alone they differ.
use mathlib.Core.Path.{◌≡◌, refl, sym, ap, ◌∙◌}
use mathlib.Core.List.{List}
use Prim.Native.Nat.{ℕ, ◌+◌, ◌-◌, ◌≤◌, ◌<◌}
use native.Mathlib.Omega.{arith}
use lib.ListN.{get_or, take, drop, replicate, get_or-replicate}
use lib.Seq.{get_or-take, get_or-drop}
use Rattle.standard.specs.Codes.{Entry, silent, codes, published, escape_width, table16, table24}
use Rattle.huffman.specs.Cells.{roots, silent_link, cells}
use Rattle.huffman.specs.Found.{root_of, TableAs}
use Rattle.huffman.proofs.Reading.{held-table}

-- where n of a row's members from one on are the same, each of them is it
run_of : {A : Type 0} (x d : A) (from n : ℕ) (l : List A) → take n (drop from l) ≡ replicate n x → (t : ℕ) → from ≤ t → t < from + n → get_or l t d ≡ x
run_of {A = A} x d from n l e t low high =
    let k : t - from < n = omega arith in
    let z : from + (t - from) ≡ t = omega arith in
    sym (get_or-take n (drop from l) (t - from) d k ∙ get_or-drop from l (t - from) d ∙ ap (λ (i : ℕ). get_or l i d) z)
    ∙ ap (λ (r : List A). get_or r (t - from) d) e ∙ get_or-replicate n (t - from) x d k

pub record OneTable (first : ℕ) (code : List Entry) (t : ℕ) : Type 0 where
  pub code_is : published t ≡ code
  pub link_is : root_of t ≡ root_of first
  pub pair-by : TableAs t (root_of first) (escape_width t)

module _ (first : ℕ) (code : List Entry) (codes-are : take 8 (drop first codes) ≡ replicate 8 code)
    (links_are : take 8 (drop first (take roots cells)) ≡ replicate 8 (root_of first)) (t : ℕ) (low : first ≤ t) (high : t < first + 8) (known : t < 34) where
  one_table : OneTable first code t
  unfolding published
  one_table =
      let same = run_of (root_of first) silent_link first 8 (take roots cells) links_are t low high in
      record {
        code_is = run_of code silent first 8 codes codes-are t low high;
        link_is = same;
        pair-by = record { code = t; is = sym same; same = held-table t known; escape = refl };
      }

pub from_16 : (t : ℕ) → 16 ≤ t → t < 24 → OneTable 16 table16 t
unfolding codes cells
from_16 t low high = one_table 16 table16 refl refl t low high (omega arith)

pub from_24 : (t : ℕ) → 24 ≤ t → t < 32 → OneTable 24 table24 t
unfolding codes cells
from_24 t low high = one_table 24 table24 refl refl t low high (omega arith)

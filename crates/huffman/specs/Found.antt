-- What a lookup in the flat table finds of a word.
use Rattle.std.specs.Prelude.{Ok, ◌≡◌, Bool, ◌||◌, List, ℕ, ◌/◌, ◌%◌, ◌≤◌, ◌<◌, eqb, get_or, take}
use Rattle.standard.specs.Bits.{one, bits}
use Rattle.standard.specs.Written.{bits_of, pack}
use Rattle.standard.specs.Codes.{decode, published, escape_width, taken}
use Rattle.huffman.specs.Cells.{roots, silent_link, cells}
use Rattle.huffman.specs.Signed.{held}

-- the link of a code that is held; another number has that of table 0
abbrev pub root_of : ℕ → ℕ
root_of code = get_or (take roots cells) code silent_link

pub record IsRoot (link : ℕ) : Type 0 where
  pub code : ℕ
  pub is : link ≡ root_of code

-- the eight bytes of a word
unfoldable pub bytes_of : ℕ → List ℕ
bytes_of word = pack 8 (bits_of 64 word)

-- a value of a pair is 15, which may have an escape
abbrev pub has_fifteen : ℕ → Bool
has_fifteen v = eqb (v / 16) 15 || eqb (v % 16) 15

pub record FoundIn (link word leaf used : ℕ) : Type 0 where
  pub reads : (code : ℕ) → link ≡ root_of code → decode (held code) (bits (bytes_of word) 0 57) ≡ Ok (taken (leaf % 256) used)
  pub flagged : leaf / 4096 % 2 ≡ one (has_fifteen (leaf % 256))
  pub small : leaf < 65536
  pub few : used ≤ 19

-- a link and an escape width are those of a table
pub record TableAs (table link width : ℕ) : Type 0 where
  pub code : ℕ
  pub is : link ≡ root_of code
  pub same : held code ≡ published table
  pub escape : width ≡ escape_width table

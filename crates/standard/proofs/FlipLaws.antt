-- One flipped bit under a CRC is refused by 16: of the side information, of the CRC, or of the header's third and fourth byte, as far as the side
-- information is as long under what these then read to. A bit of the first two bytes is not covered.
use Rattle.std.specs.Prelude.{◌≡◌, Bool, true, false, ◌&&◌, length, replicate, Ok, Err}
use Rattle.std.proofs.Math.Path.{refl, sym, ap}
use Rattle.std.proofs.Common.{◌∙◌, eqb-true, le-ltb, ltb-false}
use Rattle.std.proofs.Math.Bool.{not}
use mathlib.Core.List.{List, [], ◌∷◌, ◌++◌, append_assoc, append-nil}
use Prim.Native.Nat.{ℕ, zero, suc, ◌+◌, ◌-◌, ◌*◌, ◌≤◌, ◌<◌}
use Rattle.std.proofs.Math.Decide.{dec_le}
use native.Mathlib.Omega.{arith}
use Rattle.std.proofs.Math.ListN.{get_or}
use Rattle.standard.specs.ToldLaws.{picked, passed, never, no_refusal}
use Rattle.standard.specs.Bits.{one, bit_at, bits, between, value, field_at}
use Rattle.standard.specs.BitsLaws.{length-bits, bits-add, get_d_bits, byte-value}
use Rattle.standard.specs.Written.{Bytes, value-one}
use Rattle.standard.specs.Crc.{check_word, covered, crc_fits}
use Rattle.standard.specs.CrcLaws.{fed-long, flipped}
use Rattle.standard.specs.Header.{is_mpeg1, is_two, last_bytes, second_byte, header_of, is_header, header_size, side_bytes, side_size}
use Rattle.standard.specs.SideInfo.{side_from, side_of}
use Rattle.standard.specs.Frame.{no_step, frame_of}
use Rattle.standard.proofs.FrameLaws.{frame-no_side}
use Rattle.standard.specs.declared.FrameHeader.{FrameHeader}
use Rattle.standard.specs.declared.SideInfo.{SideInfo}
use Rattle.standard.specs.declared.Refusal.TheVariants.{WrongCrc}

-- the bytes t are the bytes s, but for the bit at i
pub record Flipped (s t : List ℕ) (i : ℕ) : Type 0 where
  pub as_many : length t ≡ length s
  pub here : bit_at t i ≡ not (bit_at s i)
  pub others : (j : ℕ) → (j ≡ i → ⊥) → bit_at t j ≡ bit_at s j

no_own : (b : Bool) → not b ≡ b → ⊥
no_own true e = never e
no_own false e = never (sym e)

-- what the CRC says where it fits
word_fits : (s : List ℕ) (end : ℕ) → crc_fits s end ≡ true → check_word (covered s end) ≡ bits s 32 16
unfolding crc_fits field_at value check_word
word_fits s end e =
    let w = check_word (covered s end) in
    (value-one w (bits s 32 16) 0 0 (fed-long (replicate 16 true) (covered s end) refl ∙ sym (length-bits s 32 16)) (eqb-true _ _ e)).1

module _ {s t : List ℕ} {i : ℕ} (f : Flipped s t i) where
  -- bits without the one that is flipped
  bits-same : (n at : ℕ) → ((j : ℕ) → at ≤ j → j < at + n → j ≡ i → ⊥) → bits t at n ≡ bits s at n
  unfolding bits
  bits-same zero at h = refl
  bits-same (suc n) at h =
      λ j. f.others at (h at (omega arith) (omega arith)) j ∷ bits-same n (suc at) (λ k a b. h k (omega arith) (omega arith)) j

  before_same : (at n : ℕ) → at + n ≤ i → bits t at n ≡ bits s at n
  before_same at n l = bits-same n at (λ j a b e. omega arith)

  after_same : (at n : ℕ) → i < at → bits t at n ≡ bits s at n
  after_same at n l = bits-same n at (λ j a b e. omega arith)

  -- and with it
  around : (u : List ℕ) (at n : ℕ) → at ≤ i → i < at + n → bits u at n ≡ bits u at (i - at) ++ bit_at u i ∷ bits u (suc i) (at + n - suc i)
  unfolding bits
  around u at n l h =
      let p : n ≡ (i - at) + suc (at + n - suc i) = omega arith in
      let q : at + (i - at) ≡ i = omega arith in
      ap (bits u at) p ∙ bits-add u (i - at) at (suc (at + n - suc i))
      ∙ ap (λ (k : ℕ). bits u at (i - at) ++ bits u k (suc (at + n - suc i))) q

  apart : (x y : List Bool) (at n : ℕ) → at ≤ i → i < at + n → check_word (x ++ bits t at n ++ y) ≡ check_word (x ++ bits s at n ++ y) → ⊥
  apart x y at n l h e =
      let p = bits s at (i - at) in
      let q = bits s (suc i) (at + n - suc i) in
      let of_s : bits s at n ≡ p ++ bit_at s i ∷ q = around s at n l h in
      let of_t : bits t at n ≡ p ++ not (bit_at s i) ∷ q =
      around t at n l h ∙ (λ j. before_same at (i - at) (omega arith) j ++ f.here j ∷ after_same (suc i) (at + n - suc i) (omega arith) j) in
      flipped (x ++ p) (q ++ y) (bit_at s i) (sym (ap check_word (parted p q (not (bit_at s i)) of_t)) ∙ e ∙ ap check_word (parted p q (bit_at s i) of_s))
    where
      parted : {u : List Bool} (p q : List Bool) (b : Bool) → u ≡ p ++ b ∷ q → x ++ u ++ y ≡ (x ++ p) ++ b ∷ (q ++ y)
      parted {u} p q b e =
          ap (λ (v : List Bool). x ++ v ++ y) e ∙ ap (λ (v : List Bool). v ++ y) (sym (append_assoc x p (b ∷ q))) ∙ append_assoc (x ++ p) (b ∷ q) y

  module _ (end : ℕ) (fits : crc_fits s end ≡ true) (covers : 16 ≤ i) (within : i < 8 * end) where
    never_fits : crc_fits t end ≡ true → ⊥
    unfolding covered between
    never_fits e =
        let ws = word_fits s end fits in
        let wt = word_fits t end e in
        let last = 8 * end - 48 in
        elim (dec_le 32 i) [
          | no l ↦
              let word : bits t 32 16 ≡ bits s 32 16 = after_same 32 16 (omega arith) in
              apart [] (bits s 48 last) 16 16 covers (omega arith)
              (ap (λ (x : List Bool). check_word (bits t 16 16 ++ x)) (sym (after_same 48 last (omega arith))) ∙ wt ∙ word ∙ sym ws)
          | yes l ↦ elim (dec_le 48 i) [
            | no k ↦
                let same : check_word (covered t end) ≡ check_word (covered s end) =
                ap check_word (λ j. before_same 16 16 (omega arith) j ++ after_same 48 last (omega arith) j) in
                let word : bits t 32 16 ≡ bits s 32 16 = sym wt ∙ same ∙ ws in
                let place : 32 + (i - 32) ≡ i = omega arith in
                no_own (bit_at s i)
                (sym f.here ∙ ap (bit_at t) (sym place) ∙ sym (get_d_bits 16 t 32 (i - 32) (omega arith)) ∙ ap (λ (b : List Bool). get_or b (i - 32) false) word
                ∙ get_d_bits 16 s 32 (i - 32) (omega arith) ∙ ap (bit_at s) place)
            | yes k ↦
                let word : bits t 32 16 ≡ bits s 32 16 = before_same 32 16 (omega arith) in
                apart (bits s 16 16) [] 48 last k (omega arith)
                (ap check_word (append-nil (bits s 16 16 ++ bits t 48 last))
                ∙ ap (λ (x : List Bool). check_word (x ++ bits t 48 last)) (sym (before_same 16 16 (omega arith))) ∙ wt ∙ word ∙ sym ws
                ∙ ap check_word (sym (append-nil (bits s 16 16 ++ bits s 48 last))))
          ]
        ]

    -- THE STATEMENT, of the word: where it fitted it fits no more
    pub no_fit : crc_fits t end ≡ false
    no_fit = go (crc_fits t end) refl
      where
        go : (b : Bool) → crc_fits t end ≡ b → b ≡ false
        go true e = absurd (never_fits e)
        go false e = refl

-- ---- side information, and a frame
-- where side information was read under a header with a CRC, this fitted and all bytes were there
pub read_fits : (h : FrameHeader) (s : List ℕ) (x : SideInfo) → is_header h ≡ true → h.crc ≡ true → side_of h s ≡ Ok x
    → (crc_fits s (header_size h + side_size h) ≡ true) × (header_size h + side_size h ≤ length s)
unfolding side_of side_from side_size
read_fits h s x known has e =
    let a = no_refusal _ _ _ x (sym (picked _ known) ∙ e) in
    let b = no_refusal (h.crc && not (crc_fits s (header_size h + side_bytes (is_mpeg1 h.version) (is_two h.channels)))) _ _ x a.1 in
    (fits h.crc _ has b.0, ltb-false _ _ a.0)
  where
    fits : (c b : Bool) → c ≡ true → c && not b ≡ false → b ≡ true
    fits true true p q = refl
    fits true false p q = never (sym q)
    fits false b p q = never p

-- a header of the same size has a CRC too
crc_as : (h g : FrameHeader) → h.crc ≡ true → header_size g ≡ header_size h → g.crc ≡ true
unfolding header_size
crc_as h g has e = go g.crc (e ∙ ap (λ (c : Bool). 4 + 2 * one c) has)
  where
    go : (c : Bool) → 4 + 2 * one c ≡ 6 → c ≡ true
    go true p = refl
    go false p = absurd (omega arith)

-- the bytes s read to a header with a CRC and to side information, and t are these but for one bit
module _ {s t : List ℕ} {i : ℕ} (h : FrameHeader) {x : SideInfo} (known : is_header h ≡ true) (has : h.crc ≡ true) (info : side_of h s ≡ Ok x)
    (f : Flipped s t i) (within : i < 8 * (header_size h + side_size h)) where
  -- THE STATEMENT: under the header g that t reads to, where the sizes are as they were
  pub flip_refused : 16 ≤ i → (g : FrameHeader) → is_header g ≡ true → header_size g ≡ header_size h → side_size g ≡ side_size h → side_of g t ≡ Err WrongCrc
  unfolding side_of side_from side_size
  flip_refused covers g fine front side =
      let r = read_fits h s x known has info in
      let end : header_size g + side_size g ≡ header_size h + side_size h = λ j. front j + side j in
      picked _ fine
      ∙ passed _ (le-ltb (length t) (header_size g + side_size g) (omega (arith, f.as_many, end, r.1)))
      ∙ picked _
      (ap (λ (c : Bool). c && not (crc_fits t (header_size g + side_size g))) (crc_as h g has front)
      ∙ ap not (ap (crc_fits t) end ∙ no_fit f (header_size h + side_size h) r.0 covers within))

  -- and of the frame: nothing is told of it, and the reservoir stays
  pub flip_step : 16 ≤ i → {g : FrameHeader} → header_of t ≡ Ok g → is_header g ≡ true → header_size g ≡ header_size h → side_size g ≡ side_size h → (old : List ℕ)
      → frame_of t old ≡ no_step WrongCrc
  flip_step covers {g} e fine front side old = frame-no_side t old e (flip_refused covers g fine front side)

-- ---- a bit after the header's fourth byte leaves the header as it is
module _ {s t : List ℕ} {i : ℕ} (f : Flipped s t i) (b : Bytes s) (c : Bytes t) (after : 32 ≤ i) where
  byte-same : (k : ℕ) → k < 4 → get_or t k 0 ≡ get_or s k 0
  unfolding field_at
  byte-same k l = sym (byte-value t k (c k)) ∙ ap value (before_same f (8 * k) 8 (omega arith)) ∙ byte-value s k (b k)

  pub header-same : header_of t ≡ header_of s
  unfolding header_of second_byte last_bytes
  header-same =
      rw (f.as_many, byte-same 0 (omega arith), byte-same 1 (omega arith), byte-same 2 (omega arith), byte-same 3 (omega arith))

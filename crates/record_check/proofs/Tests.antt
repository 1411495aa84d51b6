-- Which records and side information bits read to: the tests, and the loops over sharing bits and slots.
use mathlib.Core.Path.{◌≡◌, refl, ap, ◌∙◌}
use mathlib.Core.Bool.{Bool, true, false, not, ◌&&◌, ◌||◌, beq}
use mathlib.Core.List.{List, [], ◌∷◌}
use Prim.Native.Nat.{ℕ, zero, suc, ◌-◌, ◌*◌, ◌%◌, ◌^◌, ◌<◌, ◌≤◌}
use native.Mathlib.Omega.{arith}
use borrow.Author.Tests.{eq-eqb, lt-ltb}
use lib.Dec.{leb, ltb}
use lib.ListN.{length, take, drop, length-drop}
use lib.Seq.{take_all}
use Rattle.std.specs.List.{list_all, list_any}
use mathlib.Core.Bool.{and_assoc}
use Rattle.standard.specs.Record.{compress_width, is_preflag, is_head, is_record}
use Rattle.standard.specs.SideInfo.{is_absent, no_shares, fit_slots, are_shares, are_slots, is_side_by, is_side}
use Rattle.standard.specs.Header.{is_mpeg1, is_two, is_slow}
use Rattle.standard.specs.declared.FrameHeader.{FrameHeader}
use Rattle.standard.specs.declared.SlotRecord.{SlotRecord}
use Rattle.standard.specs.declared.SideInfo.{SideInfo}
use Rattle.record_check.specs.declared.layout.Layout.{Layout}
use Rattle.record_check.specs.Layouts.{layout_of}
use Rattle.record_check.proofs.Widths.{width, mask}

-- ---- records
preflag_is : (mpeg1 : Bool) (r : SlotRecord) → mpeg1 || beq r.preflag (leb 500 r.scalefac_compress) ≡ is_preflag mpeg1 r
unfolding is_preflag
preflag_is true r = refl
preflag_is false r = refl

pub head_is : (mpeg1 : Bool) (r : SlotRecord) {c : ℕ} → c ≡ compress_width mpeg1 → r.global_gain < 256
    → ltb r.part2_3_length 4096 && leb r.big_values 288 && ltb r.scalefac_compress (1 * 2 ^ c % 2 ^ 16) &&
    (mpeg1 || beq r.preflag (leb 500 r.scalefac_compress)) ≡ is_head mpeg1 r
unfolding is_head
head_is mpeg1 r {c} e h =
    let k : compress_width mpeg1 < 16 = omega (arith, width mpeg1) in
    rw (e, mask 16 (compress_width mpeg1) k, preflag_is mpeg1 r, lt-ltb r.global_gain 256 h)

-- ---- sharing bits: none from the n-th on is set
shares-past : (n : ℕ) (l : List Bool) → not (list_any (λ (x : Bool). beq x true) (drop n l)) ≡ no_shares n l
unfolding no_shares
shares-past zero [] = refl
shares-past zero (true ∷ l) = refl
shares-past zero (false ∷ l) = shares-past zero l
shares-past (suc n) [] = refl
shares-past (suc n) (x ∷ l) = shares-past n l

-- what stands from the n-th on, as a slice of m gives it
rest_is : {A : Type 0} (m n : ℕ) (l : List A) → length l ≡ m → take (m - n) (drop n l) ≡ drop n l
rest_is m n l e = take_all (m - n) (drop n l) (omega (arith, length-drop n l))

pub shares-are : (n : ℕ) (l : List Bool) → length l ≡ 8 → not (list_any (λ (x : Bool). beq x true) (take (8 - n) (drop n l))) ≡ are_shares n l
unfolding are_shares
shares-are n l e = rw (rest_is 8 n l e, eq-eqb (length l) 8 e) (shares-past n l)

-- ---- slots: n records, and then lacking ones
slots-past : (m w : Bool) (n : ℕ) (l : List SlotRecord) → n ≤ length l → list_all (is_record m w) (take n l) && list_all is_absent (drop n l) ≡ fit_slots m w n l
unfolding fit_slots
slots-past m w zero [] h = refl
slots-past m w zero (r ∷ l) h = ap (λ (b : Bool). is_absent r && b) (slots-past m w zero l (omega arith))
slots-past m w (suc n) [] h = absurd (omega arith)
slots-past m w (suc n) (r ∷ l) h =
    and_assoc (is_record m w r) (list_all (is_record m w) (take n l)) (list_all is_absent (drop n l))
    ∙ ap (λ (b : Bool). is_record m w r && b) (slots-past m w n l (omega arith))

pub slots-are : (m w : Bool) (n : ℕ) (l : List SlotRecord) → length l ≡ 4 → n ≤ 4
    → list_all (is_record m w) (take n l) && list_all is_absent (take (4 - n) (drop n l)) ≡ are_slots m w n l
unfolding are_slots
slots-are m w n l e h = rw (rest_is 4 n l e, eq-eqb (length l) 4 e) (slots-past m w n l (omega arith))

-- ---- the whole
pub side_is : (h : FrameHeader) (i : SideInfo) {l : Layout} {a b : Bool} → l ≡ layout_of (is_mpeg1 h.version) (is_two h.channels) → l.main_data_begin < 16
    → a ≡ are_shares l.shares i.scfsi → b ≡ are_slots (is_mpeg1 h.version) (is_slow h.rate) l.slots i.slots
    → ltb i.main_data_begin (1 * 2 ^ l.main_data_begin % 2 ^ 16) && a && b ≡ is_side h i
unfolding is_side is_side_by
side_is h i {l} e w f g = rw (mask 16 l.main_data_begin w, f, g, e)

-- Bits read to a slot's record exactly when `is_record` says so.
-- One way, the record's fields are written one after the other and read back; the other, a field of n bits is below 2 ^ n.
use Rattle.std.specs.Prelude.{◌≡◌, Bool, ◌&&◌, ◌↔◌, List, [], ◌∷◌, ◌++◌, ℕ, zero, suc, ◌+◌, ◌^◌, ◌<◌, ◌≤◌, length, get_or, ltb, leb, Float, Ok, Err}
use Rattle.std.proofs.Math.Path.{refl, sym, ap}
use Rattle.std.proofs.Common.{subst, ◌∙◌, arith}
use Rattle.std.proofs.Math.Bool.{true, false, not, beq}
use borrow.Author.Tests.{eqb-true, eqb-false, ltb-true, leb-true, ltb-false, not-true, lt-ltb, le-leb, eq-eqb, le-ltb}
use Rattle.std.proofs.Math.Dec.{eqb}
use Rattle.std.specs.Float.Ieee.{nan}
use Rattle.standard.specs.Told.{pick}
use Rattle.standard.specs.ToldLaws.{picked, passed, never, no_refusal, told_is, both_of, both}
use Rattle.standard.specs.Rows.{member, place, later}
use Rattle.standard.specs.RowsLaws.{member-at, place_at, place-member}
use Rattle.standard.specs.Same.{same_float}
use Rattle.standard.specs.SameLaws.{beq_self, beq_is, float_self, float_is}
use Rattle.standard.specs.Bits.{one, field, flag}
use Rattle.standard.specs.BitsLaws.{one-le, one-is, field_lt}
use Rattle.standard.specs.Written.{Part, ◌in-bits◌, write, Fit, fit_append, Stand, stands_alone, width, length-write}
use Rattle.standard.specs.Record.{gain_of, compress_width, record_width, block_of, shape_by, shape_of, is_mixed, is_long, region0_of, region1_of, preflag_of, scale_at, count1_at, long_of, switched_of, record_in, record_of, gains_row, gain_number, gain_below, trio, below, is_long_body, is_switched_body, is_preflag, is_head, is_unmixed, is_record}
use Rattle.standard.specs.declared.BlockType.{BlockType}
use Rattle.standard.specs.declared.BlockType.TheVariants.{Long, Start, Short, End}
use Rattle.standard.specs.declared.Refusal.TheVariants.{ForbiddenBlock, MixedBlock}
use Rattle.standard.specs.declared.SlotRecord.{SlotRecord}
use Rattle.standard.specs.declared.Shape.TheVariants.{AllLong, AllShort, LongThenShort}

-- ---- the eight gains
row_gain : (n : ℕ) → n < 8 → get_or gains_row n nan ≡ gain_of n
unfolding gains_row
row_gain zero h = refl
row_gain (suc zero) h = refl
row_gain (suc (suc zero)) h = refl
row_gain (suc (suc (suc zero))) h = refl
row_gain (suc (suc (suc (suc zero)))) h = refl
row_gain (suc (suc (suc (suc (suc zero))))) h = refl
row_gain (suc (suc (suc (suc (suc (suc zero)))))) h = refl
row_gain (suc (suc (suc (suc (suc (suc (suc zero))))))) h = refl
row_gain (suc (suc (suc (suc (suc (suc (suc (suc n)))))))) h = absurd (omega arith)

eight : length gains_row ≡ 8
unfolding gains_row
eight = refl

gain_member : (g : Float) → gain_below 8 g ≡ member same_float g gains_row
unfolding gain_number
gain_member g = ap (ltb (place same_float g gains_row)) (sym eight) ∙ place-member same_float g gains_row

pub gain_known : (n : ℕ) → n < 8 → gain_below 8 (gain_of n) ≡ true
gain_known n h =
    gain_member (gain_of n) ∙ ap (λ (g : Float). member same_float g gains_row) (sym (row_gain n h)) ∙ member-at same_float float_self nan gains_row n (rw eight h)

pub gain_back : (g : Float) → gain_below 8 g ≡ true → (gain_of (gain_number g) ≡ g) × (gain_number g < 8)
unfolding gain_number
gain_back g e =
    let w = place_at same_float float_is nan g gains_row (sym (gain_member g) ∙ e) in
    let l : place same_float g gains_row < 8 = rw eight at w.1 in
    (sym (row_gain (place same_float g gains_row) l) ∙ w.0, l)

pub no_gain_lem : gain_below 1 (gain_of 0) ≡ true
unfolding gain_number place later gains_row
no_gain_lem =
    ap (λ (b : Bool). ltb (later b (place same_float (gain_of 0) (gain_of 1 ∷ gain_of 2 ∷ gain_of 3 ∷ gain_of 4 ∷ gain_of 5 ∷ gain_of 6 ∷ gain_of 7 ∷ []))) 1)
    (float_self (gain_of 0))

pub no_gain_is : (g : Float) → gain_below 1 g ≡ true → gain_of 0 ≡ g
no_gain_is g e =
    let h : gain_number g < 1 = ltb-true (gain_number g) 1 e in
    let q : 0 ≡ gain_number g = omega arith in
    ap gain_of q ∙ (gain_back g (lt-ltb (gain_number g) 8 (omega arith))).0

pub no_table_is : (n : ℕ) → below 1 n ≡ true → 0 ≡ n
no_table_is n e = let h : n < 1 = ltb-true n 1 e in omega arith

-- ---- a list of three
pub trio-is : {A : Type 0} (p q r : A → Bool) (d : A) (l : List A) → trio p q r l ≡ true → (get_or l 0 d ∷ get_or l 1 d ∷ get_or l 2 d ∷ [] ≡ l)
    × (p (get_or l 0 d) ≡ true) × (q (get_or l 1 d) ≡ true) × (r (get_or l 2 d) ≡ true)
unfolding trio
trio-is p q r d [] e = never e
trio-is p q r d (x ∷ []) e = never e
trio-is p q r d (x ∷ y ∷ []) e = never e
trio-is p q r d (x ∷ y ∷ z ∷ []) e =
    let v = both_of (p x && q y) (r z) e in
    let w = both_of (p x) (q y) v.0 in
    (refl, w.0, w.1, v.1)
trio-is p q r d (x ∷ y ∷ z ∷ w ∷ l) e = never e

pub trio-all : {A : Type 0} (p q r : A → Bool) (x y z : A) → p x ≡ true → q y ≡ true → r z ≡ true → trio p q r (x ∷ y ∷ z ∷ []) ≡ true
unfolding trio
trio-all p q r x y z e f g = both (both e f) g

-- three that are read to the three of a list
pub three : {A : Type 0} {x y z x' y' z' : A} {l : List A} → x ≡ x' → y ≡ y' → z ≡ z' → x' ∷ y' ∷ z' ∷ [] ≡ l → x ∷ y ∷ z ∷ [] ≡ l
three e f g h = (λ j. e j ∷ f j ∷ g j ∷ []) ∙ h

-- ---- block types
type_of : BlockType → ℕ
type_of Long = 0
type_of Start = 1
type_of Short = 2
type_of End = 3

type_back : (t : BlockType) → block_of (type_of t) ≡ t
unfolding block_of type_of
type_back Long = refl
type_back Start = refl
type_back Short = refl
type_back End = refl

type_lt : (t : BlockType) → type_of t < 4
unfolding type_of
type_lt Long = omega arith
type_lt Start = omega arith
type_lt Short = omega arith
type_lt End = omega arith

type_switched : (t : BlockType) → is_long t ≡ false → eqb (type_of t) 0 ≡ false
unfolding type_of
type_switched Long e = never (sym e)
type_switched Start e = refl
type_switched Short e = refl
type_switched End e = refl

pub long-is : (t : BlockType) → is_long t ≡ true → Long ≡ t
long-is Long e = refl
long-is Start e = never e
long-is Short e = never e
long-is End e = never e

-- ---- the layout: what is written one after the other
abbrev last_parts : Bool → SlotRecord → List Part
last_parts true r = (one r.preflag in-bits 1) ∷ (one r.scalefac_scale in-bits 1) ∷ (one r.count1table_select in-bits 1) ∷ []
last_parts false r = (one r.scalefac_scale in-bits 1) ∷ (one r.count1table_select in-bits 1) ∷ []

abbrev long_parts : SlotRecord → List Part
long_parts r =
    (0 in-bits 1) ∷ (get_or r.table_select 0 0 in-bits 5) ∷ (get_or r.table_select 1 0 in-bits 5) ∷ (get_or r.table_select 2 0 in-bits 5)
    ∷ (r.region0_count in-bits 4) ∷ (r.region1_count in-bits 3) ∷ []

abbrev switched_parts : SlotRecord → List Part
switched_parts r =
    (1 in-bits 1) ∷ (type_of r.block_type in-bits 2) ∷ (one r.mixed_block_flag in-bits 1)
    ∷ (get_or r.table_select 0 0 in-bits 5) ∷ (get_or r.table_select 1 0 in-bits 5)
    ∷ (gain_number (get_or r.subblock_gain 0 nan) in-bits 3) ∷ (gain_number (get_or r.subblock_gain 1 nan) in-bits 3) ∷
    (gain_number (get_or r.subblock_gain 2 nan) in-bits 3) ∷ []

abbrev parts_by : Bool → Bool → SlotRecord → List Part
parts_by long mpeg1 r =
    (r.part2_3_length in-bits 12) ∷ (r.big_values in-bits 9) ∷ (r.global_gain in-bits 8) ∷ (r.scalefac_compress in-bits compress_width mpeg1)
    ∷ (pick long (long_parts r) (switched_parts r) ++ last_parts mpeg1 r)

pub bits_of_record : Bool → SlotRecord → List Bool
bits_of_record mpeg1 r = write (parts_by (is_long r.block_type) mpeg1 r)

pub length-record : (mpeg1 : Bool) (r : SlotRecord) → length (bits_of_record mpeg1 r) ≡ record_width mpeg1
unfolding bits_of_record pick
length-record mpeg1 r = length-write (parts_by (is_long r.block_type) mpeg1 r) ∙ all_bits (is_long r.block_type) mpeg1
  where
    all_bits : (l m : Bool) → width (parts_by l m r) ≡ record_width m
    all_bits true true = refl
    all_bits true false = refl
    all_bits false true = refl
    all_bits false false = refl

-- ---- and where the definition reads it
infixr 3 ◌and◌
abbrev ◌and◌ : Type 0 → Type 0 → Type 0
A and B = A × B

abbrev LastAt : Bool → SlotRecord → List Bool → Type 0
LastAt true r b =
    (field b 56 1 ≡ one r.preflag) and (field b 57 1 ≡ one r.scalefac_scale) and (field b 58 1 ≡ one r.count1table_select) and Unit {0}
LastAt false r b = (field b 61 1 ≡ one r.scalefac_scale) and (field b 62 1 ≡ one r.count1table_select) and Unit {0}

abbrev BodyAt : Bool → ℕ → SlotRecord → List Bool → Type 0 → Type 0
BodyAt true c r b Last =
    (field b (29 + c) 1 ≡ 0) and (field b (30 + c) 5 ≡ get_or r.table_select 0 0) and (field b (35 + c) 5 ≡ get_or r.table_select 1 0)
    and (field b (40 + c) 5 ≡ get_or r.table_select 2 0) and (field b (45 + c) 4 ≡ r.region0_count) and (field b (49 + c) 3 ≡ r.region1_count) and Last
BodyAt false c r b Last =
    (field b (29 + c) 1 ≡ 1) and (field b (30 + c) 2 ≡ type_of r.block_type) and (field b (32 + c) 1 ≡ one r.mixed_block_flag) and
    (field b (33 + c) 5 ≡ get_or r.table_select 0 0)
    and (field b (38 + c) 5 ≡ get_or r.table_select 1 0) and (field b (43 + c) 3 ≡ gain_number (get_or r.subblock_gain 0 nan))
    and (field b (46 + c) 3 ≡ gain_number (get_or r.subblock_gain 1 nan)) and (field b (49 + c) 3 ≡ gain_number (get_or r.subblock_gain 2 nan)) and Last

abbrev RecordAt : Bool → Bool → SlotRecord → List Bool → Type 0
RecordAt long m r b =
    (field b 0 12 ≡ r.part2_3_length) and (field b 12 9 ≡ r.big_values) and (field b 21 8 ≡ r.global_gain) and
    (field b 29 (compress_width m) ≡ r.scalefac_compress)
    and BodyAt long (compress_width m) r b (LastAt m r b)

record_at_lem : (long mpeg1 : Bool) (r : SlotRecord) (b : List Bool) → Stand b 0 (parts_by long mpeg1 r) → RecordAt long mpeg1 r b
unfolding pick
record_at_lem true true r b e = e
record_at_lem true false r b e = e
record_at_lem false true r b e = e
record_at_lem false false r b e = e

-- ---- what the checks say
head_is : (mpeg1 : Bool) (r : SlotRecord) → is_head mpeg1 r ≡ true → (r.part2_3_length < 4096) × (r.big_values ≤ 288) × (r.global_gain < 256)
    × (r.scalefac_compress < 2 ^ compress_width mpeg1) × (is_preflag mpeg1 r ≡ true)
unfolding is_head
head_is mpeg1 r e =
    let p = both_of _ (is_preflag mpeg1 r) e in
    let q = both_of _ _ p.0 in
    let u = both_of _ _ q.0 in
    let v = both_of _ _ q.1 in
    (ltb-true _ _ u.0, leb-true _ _ u.1, ltb-true _ _ v.0, ltb-true _ _ v.1, p.1)

flag_is : (b : List Bool) (at : ℕ) (x : Bool) → field b at 1 ≡ one x → flag b at ≡ x
unfolding flag
flag_is b at x e = ap (λ (n : ℕ). eqb n 1) e ∙ one-is x

one-lt : (x : Bool) → one x < 2
one-lt x = omega (arith, one-le x)

last_from : (mpeg1 : Bool) (r : SlotRecord) (b : List Bool) → is_preflag mpeg1 r ≡ true → field b 29 (compress_width mpeg1) ≡ r.scalefac_compress
    → LastAt mpeg1 r b → (preflag_of mpeg1 b ≡ r.preflag) × (flag b (scale_at mpeg1) ≡ r.scalefac_scale) × (flag b (count1_at mpeg1) ≡ r.count1table_select)
unfolding preflag_of is_preflag
last_from true r b h c (p, (s, (t, u))) = (flag_is b 56 r.preflag p, flag_is b 57 r.scalefac_scale s, flag_is b 58 r.count1table_select t)
last_from false r b h c (s, (t, u)) =
    (ap (leb 500) c ∙ sym (beq_is r.preflag _ h), flag_is b 61 r.scalefac_scale s, flag_is b 62 r.count1table_select t)

-- written, the parts fit their bits
parts_fit : (long mpeg1 : Bool) (r : SlotRecord) → is_head mpeg1 r ≡ true → Fit (pick long (long_parts r) (switched_parts r)) → Fit (parts_by long mpeg1 r)
parts_fit long mpeg1 r h f =
    let k = head_is mpeg1 r h in
    (k.0, (omega arith, (k.2, (k.3, fit_append (pick long (long_parts r) (switched_parts r)) (last_parts mpeg1 r) f (last mpeg1)))))
  where
    last : (m : Bool) → Fit (last_parts m r)
    last true = (one-lt r.preflag, (one-lt r.scalefac_scale, (one-lt r.count1table_select, tt)))
    last false = (one-lt r.scalefac_scale, (one-lt r.count1table_select, tt))

-- ---- a record that is not switched
module _ (r : SlotRecord) (t : is_long r.block_type ≡ true) (body : is_long_body r ≡ true) where
  long-body : (trio (below 32) (below 32) (below 32) r.table_select ≡ true)
      × (trio (gain_below 1) (gain_below 1) (gain_below 1) r.subblock_gain ≡ true) × (r.region0_count < 16) × (r.region1_count < 8)
      × (r.mixed_block_flag ≡ false)
  unfolding is_long_body
  long-body =
      let flag_off = both_of _ (not r.mixed_block_flag) body in
      let p = both_of
      (trio (below 32) (below 32) (below 32) r.table_select && trio (gain_below 1) (gain_below 1) (gain_below 1) r.subblock_gain) _ flag_off.0 in
      let q = both_of (trio (below 32) (below 32) (below 32) r.table_select) _ p.0 in
      let u = both_of (ltb r.region0_count 16) _ p.1 in
      (q.0, q.1, ltb-true _ _ u.0, ltb-true _ _ u.1, not-true _ flag_off.1)

  long-fit : Fit (long_parts r)
  long-fit =
      let ts = trio-is (below 32) (below 32) (below 32) 0 r.table_select long-body.0 in
      (omega arith, (ltb-true _ _ ts.1, (ltb-true _ _ ts.2, (ltb-true _ _ ts.3, (long-body.2, (long-body.3, tt))))))

  long-from : (mpeg1 slow : Bool) (b : List Bool) → is_head mpeg1 r ≡ true → RecordAt true mpeg1 r b → record_of mpeg1 slow b ≡ Ok r
  unfolding record_of record_in long_of
  long-from mpeg1 slow b h (length_at, (pairs-at, (gain_at, (compress-at, (window-at, (t0, (t1, (t2, (region0-at, (region1-at, last-at)))))))))) =
      let k = head_is mpeg1 r h in
      let last = last_from mpeg1 r b k.4 compress-at last-at in
      let gs = trio-is (gain_below 1) (gain_below 1) (gain_below 1) nan r.subblock_gain long-body.1 in
      let ts = trio-is (below 32) (below 32) (below 32) 0 r.table_select long-body.0 in
      passed _ (le-ltb 288 (field b 12 9) (rw pairs-at k.1))
      ∙ (picked _ (ap not (flag_is b (29 + compress_width mpeg1) false window-at))
      ∙ (λ j.
      Ok
      (record {
        part2_3_length = length_at j;
        big_values = pairs-at j;
        global_gain = gain_at j;
        scalefac_compress = compress-at j;
        block_type = long-is r.block_type t j;
        mixed_block_flag = sym long-body.4 j;
        subblock_gain = three (no_gain_is _ gs.1) (no_gain_is _ gs.2) (no_gain_is _ gs.3) gs.0 j;
        table_select = three t0 t1 t2 ts.0 j;
        region0_count = region0-at j;
        region1_count = region1-at j;
        preflag = last.0 j;
        scalefac_scale = last.1 j;
        count1table_select = last.2 j;
      })))

-- ---- and one that is
module _ (r : SlotRecord) (t : is_long r.block_type ≡ false) (body : is_switched_body r ≡ true) where
  switched-body : (trio (below 32) (below 32) (below 1) r.table_select ≡ true)
      × (trio (gain_below 8) (gain_below 8) (gain_below 8) r.subblock_gain ≡ true) × (r.region0_count ≡ region0_of (shape_of r))
      × (r.region1_count ≡ region1_of (shape_of r))
  unfolding is_switched_body
  switched-body =
      let p = both_of
      (trio (below 32) (below 32) (below 1) r.table_select && trio (gain_below 8) (gain_below 8) (gain_below 8) r.subblock_gain) _ body in
      let q = both_of (trio (below 32) (below 32) (below 1) r.table_select) _ p.0 in
      let u = both_of (eqb r.region0_count (region0_of (shape_of r))) _ p.1 in
      (q.0, q.1, eqb-true _ _ u.0, eqb-true _ _ u.1)

  switched-fit : Fit (switched_parts r)
  switched-fit =
      let ts = trio-is (below 32) (below 32) (below 1) 0 r.table_select switched-body.0 in
      let gs = trio-is (gain_below 8) (gain_below 8) (gain_below 8) nan r.subblock_gain switched-body.1 in
      let g0 = (gain_back _ gs.1).1 in
      let g1 = (gain_back _ gs.2).1 in
      let g2 = (gain_back _ gs.3).1 in (
        omega arith,
        (
          type_lt r.block_type,
          (one-lt r.mixed_block_flag, (ltb-true _ _ ts.1, (ltb-true _ _ ts.2, (g0, (g1, (g2, tt)))))),
        ),
      )

  switched-from : (mpeg1 slow : Bool) (b : List Bool) → is_head mpeg1 r ≡ true → is_unmixed slow r ≡ true → RecordAt false mpeg1 r b
      → record_of mpeg1 slow b ≡ Ok r
  unfolding record_of record_in switched_of
  switched-from mpeg1 slow b h unmixed (length_at, (pairs-at, (gain_at, (compress-at, (window-at, (type_at, (mixed-at, (t0, (t1, (g0, (g1, (g2, l)))))))))))) =
      let c = compress_width mpeg1 in
      let k = head_is mpeg1 r h in
      let last = last_from mpeg1 r b k.4 compress-at l in
      let gs = trio-is (gain_below 8) (gain_below 8) (gain_below 8) nan r.subblock_gain switched-body.1 in
      let ts = trio-is (below 32) (below 32) (below 1) 0 r.table_select switched-body.0 in
      let block_at = ap block_of type_at ∙ type_back r.block_type in
      let flag_at = flag_is b (32 + c) r.mixed_block_flag mixed-at in
      passed _ (le-ltb 288 (field b 12 9) (rw pairs-at k.1))
      ∙ (passed _ (ap not (flag_is b (29 + c) true window-at))
      ∙ (passed _ (ap (λ (n : ℕ). eqb n 0) type_at ∙ type_switched r.block_type t)
      ∙ (passed _ ((λ j. slow && is_mixed (shape_by (block_at j) (flag_at j))) ∙ not-true _ unmixed)
      ∙ (λ j.
      Ok
      (record {
        part2_3_length = length_at j;
        big_values = pairs-at j;
        global_gain = gain_at j;
        scalefac_compress = compress-at j;
        block_type = block_at j;
        mixed_block_flag = flag_at j;
        subblock_gain =
            three (ap gain_of g0 ∙ (gain_back _ gs.1).0) (ap gain_of g1 ∙ (gain_back _ gs.2).0) (ap gain_of g2 ∙ (gain_back _ gs.3).0) gs.0 j;
        table_select = three t0 t1 (no_table_is _ ts.3) ts.0 j;
        region0_count = ((λ k. region0_of (shape_by (block_at k) (flag_at k))) ∙ sym switched-body.2) j;
        region1_count = ((λ k. region1_of (shape_by (block_at k) (flag_at k))) ∙ sym switched-body.3) j;
        preflag = last.0 j;
        scalefac_scale = last.1 j;
        count1table_select = last.2 j;
      })))))

pub record_back : (mpeg1 slow : Bool) (r : SlotRecord) → is_record mpeg1 slow r ≡ true → record_of mpeg1 slow (bits_of_record mpeg1 r) ≡ Ok r
unfolding is_record bits_of_record pick
record_back mpeg1 slow r e =
    let p = both_of (is_head mpeg1 r && is_unmixed slow r) _ e in
    let q = both_of (is_head mpeg1 r) _ p.0 in
    go (is_long r.block_type) refl q.0 q.1 p.1
  where
    go : (l : Bool) → is_long r.block_type ≡ l → is_head mpeg1 r ≡ true → is_unmixed slow r ≡ true → pick l (is_long_body r) (is_switched_body r) ≡ true
        → record_of mpeg1 slow (write (parts_by l mpeg1 r)) ≡ Ok r
    go true t h u b =
        long-from r t b mpeg1 slow _ h (record_at_lem true mpeg1 r _ (stands_alone (parts_by true mpeg1 r) (parts_fit true mpeg1 r h (long-fit r t b))))
    go false t h u b =
        switched-from r t b mpeg1 slow _ h u (record_at_lem false mpeg1 r _ (stands_alone (parts_by false mpeg1 r) (parts_fit false mpeg1 r h (switched-fit r t b))))

-- ---- what is read passes the check
never_mixed : (slow : Bool) → not (slow && false) ≡ true
never_mixed true = refl
never_mixed false = refl

module _ (mpeg1 slow : Bool) (b : List Bool) (pairs-le : field b 12 9 ≤ 288) where
  preflag_known : (m : Bool) (r : SlotRecord) → r.scalefac_compress ≡ field b 29 (compress_width m) → r.preflag ≡ preflag_of m b → is_preflag m r ≡ true
  unfolding is_preflag preflag_of
  preflag_known true r e f = refl
  preflag_known false r e f =
      ap (λ (x : Bool). beq x (leb 500 r.scalefac_compress)) (f ∙ ap (leb 500) (sym e)) ∙ beq_self (leb 500 r.scalefac_compress)

  head_known : (r : SlotRecord) → r.part2_3_length ≡ field b 0 12 → r.big_values ≡ field b 12 9 → r.global_gain ≡ field b 21 8
      → r.scalefac_compress ≡ field b 29 (compress_width mpeg1) → r.preflag ≡ preflag_of mpeg1 b → is_head mpeg1 r ≡ true
  unfolding is_head
  head_known r e f g h k =
      both (both (both (lt-ltb r.part2_3_length 4096 (rw e (field_lt b 0 12))) (le-leb r.big_values 288 (rw f pairs-le)))
      (both (lt-ltb r.global_gain 256 (rw g (field_lt b 21 8)))
      (lt-ltb r.scalefac_compress (2 ^ compress_width mpeg1) (rw h (field_lt b 29 (compress_width mpeg1))))))
      (preflag_known mpeg1 r h k)

  long-known : is_record mpeg1 slow (long_of mpeg1 (compress_width mpeg1) b) ≡ true
  unfolding is_record long_of pick is_long_body
  long-known =
      let c = compress_width mpeg1 in
      both (both (head_known (long_of mpeg1 c b) refl refl refl refl refl) (never_mixed slow))
      (both (both (both
      (trio-all (below 32) (below 32) (below 32) _ _ _ (lt-ltb _ 32 (field_lt b (30 + c) 5)) (lt-ltb _ 32 (field_lt b (35 + c) 5))
      (lt-ltb _ 32 (field_lt b (40 + c) 5)))
      (trio-all (gain_below 1) (gain_below 1) (gain_below 1) _ _ _ no_gain_lem no_gain_lem no_gain_lem))
      (both (lt-ltb _ 16 (field_lt b (45 + c) 4)) (lt-ltb _ 8 (field_lt b (49 + c) 3)))) refl)

  switched-known : (t : BlockType) (x : Bool) → is_long t ≡ false → slow && is_mixed (shape_by t x) ≡ false
      → is_record mpeg1 slow (switched_of mpeg1 (compress_width mpeg1) t x b) ≡ true
  unfolding is_record switched_of is_switched_body
  switched-known t x h u =
      let c = compress_width mpeg1 in
      both (both (head_known (switched_of mpeg1 c t x b) refl refl refl refl refl) (ap not u))
      (passed (is_long_body (switched_of mpeg1 c t x b)) h
      ∙ both (both (trio-all (below 32) (below 32) (below 1) _ _ _ (lt-ltb _ 32 (field_lt b (33 + c) 5)) (lt-ltb _ 32 (field_lt b (38 + c) 5)) refl)
      (trio-all (gain_below 8) (gain_below 8) (gain_below 8) _ _ _ (gain_known _ (field_lt b (43 + c) 3)) (gain_known _ (field_lt b (46 + c) 3))
      (gain_known _ (field_lt b (49 + c) 3))))
      (both (eq-eqb (region0_of (shape_by t x)) (region0_of (shape_by t x)) refl) (eq-eqb (region1_of (shape_by t x)) (region1_of (shape_by t x)) refl)))

block_switched : (n : ℕ) → n < 4 → (n ≡ 0 → ⊥) → is_long (block_of n) ≡ false
unfolding block_of
block_switched zero h k = absurd (k refl)
block_switched (suc zero) h k = refl
block_switched (suc (suc zero)) h k = refl
block_switched (suc (suc (suc zero))) h k = refl
block_switched (suc (suc (suc (suc n)))) h k = absurd (omega arith)

pub record_known : (mpeg1 slow : Bool) (b : List Bool) (r : SlotRecord) → record_of mpeg1 slow b ≡ Ok r → is_record mpeg1 slow r ≡ true
unfolding record_of record_in
record_known mpeg1 slow b r e0 =
    let p = no_refusal (ltb 288 (field b 12 9)) _ _ r e0 in
    go (ltb-false _ _ p.0) (not (flag b (29 + compress_width mpeg1))) p.1
  where
    go : field b 12 9 ≤ 288 → (l : Bool)
        → pick l (Ok (long_of mpeg1 (compress_width mpeg1) b))
        (pick (eqb (field b (30 + compress_width mpeg1) 2) 0) (Err ForbiddenBlock)
        (pick (slow && is_mixed (shape_by (block_of (field b (30 + compress_width mpeg1) 2)) (flag b (32 + compress_width mpeg1)))) (Err MixedBlock)
        (Ok (switched_of mpeg1 (compress_width mpeg1) (block_of (field b (30 + compress_width mpeg1) 2)) (flag b (32 + compress_width mpeg1)) b)))) ≡ Ok r
        → is_record mpeg1 slow r ≡ true
    go l true e = subst (λ (x : SlotRecord). is_record mpeg1 slow x ≡ true) (told_is (sym (picked _ refl) ∙ e)) (long-known mpeg1 slow b l)
    go l false e =
        let c = compress_width mpeg1 in
        let p = no_refusal (eqb (field b (30 + c) 2) 0) _ _ r (sym (passed _ refl) ∙ e) in
        let t = block_of (field b (30 + c) 2) in
        let q = no_refusal (slow && is_mixed (shape_by t (flag b (32 + c)))) _ _ r p.1 in
        subst (λ (x : SlotRecord). is_record mpeg1 slow x ≡ true) (told_is q.1)
        (switched-known mpeg1 slow b l t (flag b (32 + c)) (block_switched (field b (30 + c) 2) (field_lt b (30 + c) 2) (eqb-false _ _ p.0)) q.0)

-- THE STATEMENT: a record is accepted exactly when some bits, as many as a record has, read to it
pub record_read : (mpeg1 slow : Bool) (r : SlotRecord)
    → (is_record mpeg1 slow r ≡ true) ↔ ((b : List Bool) × (length b ≡ record_width mpeg1) × (record_of mpeg1 slow b ≡ Ok r))
record_read mpeg1 slow r = (
  λ e. (bits_of_record mpeg1 r, length-record mpeg1 r, record_back mpeg1 slow r e),
  λ w. record_known mpeg1 slow w.0 r w.2,
)

-- ---- the regions of a switched window, by its shape
pub switched-regions : (mpeg1 slow : Bool) (r : SlotRecord) → is_record mpeg1 slow r ≡ true → is_long r.block_type ≡ false
    → (shape_of r ≡ AllLong → (r.region0_count ≡ 7) × (r.region1_count ≡ 13))
    × (shape_of r ≡ AllShort → (r.region0_count ≡ 8) × (r.region1_count ≡ 12))
    × (shape_of r ≡ LongThenShort → (r.region0_count ≡ 7) × (r.region1_count ≡ 13))
unfolding is_record
switched-regions mpeg1 slow r e t =
    let k = switched-body r t (sym (passed (is_long_body r) t) ∙ (both_of (is_head mpeg1 r && is_unmixed slow r) _ e).1) in (
      λ s. (k.2 ∙ ap region0_of s, k.3 ∙ ap region1_of s),
      λ s. (k.2 ∙ ap region0_of s, k.3 ∙ ap region1_of s),
      λ s. (k.2 ∙ ap region0_of s, k.3 ∙ ap region1_of s),
    )

-- ---- mixed_block_flag: a record whose window is not switched has it not, and at 8 kHz none is that of a mixed short block
module _ (mpeg1 slow : Bool) (r : SlotRecord) (e : is_record mpeg1 slow r ≡ true) where
  pub long-unflagged : r.block_type ≡ Long → r.mixed_block_flag ≡ false
  unfolding is_record
  long-unflagged f =
      let t = ap is_long f in
      (long-body r t (sym (picked (is_switched_body r) t) ∙ (both_of (is_head mpeg1 r && is_unmixed slow r) _ e).1)).4

  pub slow_unmixed : slow ≡ true → is_mixed (shape_of r) ≡ false
  unfolding is_record
  slow_unmixed f =
      let unmixed = (both_of (is_head mpeg1 r) (is_unmixed slow r) (both_of (is_head mpeg1 r && is_unmixed slow r) _ e).0).1 in
      not-true _ (sym (ap (λ (x : Bool). is_unmixed x r) f) ∙ unmixed)

-- What bounds the slots of a frame, whatever the bytes: at most 576 numbers each, none above 8,206 in magnitude; no slot without a codeword
-- (25); and, of side information that bytes read to, four slots of 4,095 bits at most, 16,380 in all.
use Rattle.std.specs.Prelude.{◌≡◌, refl, Bool, true, false, ◌&&◌, leb, ltb, get_or, take, Result}
use mathlib.Core.List.{List, [], ◌∷◌}
use Prim.Native.Nat.{ℕ, zero, suc, ◌+◌, ◌*◌, ◌≤◌, ◌<◌, min}
use Rattle.std.proofs.Math.Decide.{dec_le}
use Rattle.std.proofs.Common.{arith, length-take}
use Rattle.std.proofs.Math.ListN.{length}
use Rattle.standard.specs.Told.{told_or}
use Rattle.standard.specs.ToldLaws.{either_way}
use Rattle.standard.specs.Codes.{word_of}
use Rattle.standard.specs.Header.{is_mpeg1, is_two, is_slow, granules_in, channels_in, granules, channel_count, is_header}
use Rattle.standard.specs.Record.{shape_of, absent}
use Rattle.standard.specs.SideInfo.{is_side}
use Rattle.standard.proofs.SideLaws.{slot_record, small-record}
use Rattle.standard.specs.Factors.{plan_of, sources_of, plan_bits}
use Rattle.standard.specs.Numbers.{Numbers, halted, got}
use Rattle.standard.proofs.NumbersLaws.{Bounded, AtMost, Gives, numbers-bounded, published-fits}
use Rattle.standard.specs.Slots.{Outcome, stopped, holds, any_of, with_factors, slot_by, slot_of, slot_in, then_slots, slots_from, slots_of, read_slots, start_of, records, outcome_of}
use Rattle.standard.proofs.HaltLaws.{allowed, slot_allowed, is_other, not_alien}
use Rattle.standard.proofs.SlotsLaws.{length-slots, few_numbers}
use Rattle.standard.specs.declared.FrameHeader.{FrameHeader}
use Rattle.standard.specs.declared.SideInfo.{SideInfo}
use Rattle.standard.specs.declared.SlotRecord.{SlotRecord}
use Rattle.standard.specs.declared.Setting.{Setting}
use Rattle.standard.specs.declared.Shape.{Shape}
use Rattle.standard.specs.declared.Refusal.TheVariants.{MissingBits}
use Rattle.standard.specs.declared.Refusal.{Refusal}

-- ---- what holds of each slot's own bits, and of a missing slot, holds of each slot of a frame
module _ (P : Outcome → Type 0) (Q : SlotRecord → Type 0) (missing : P (stopped MissingBits))
    (own : (g : Setting) (r : SlotRecord) (lost : Bool) (old : List ℕ) (b : List Bool) → Q r → P (slot_of g r lost old b)) where
  each_from : (h : FrameHeader) (i : SideInfo) (s : List ℕ) (rs : List SlotRecord) (n at : ℕ) (done : List Outcome)
      → ((k : ℕ) → k < length rs → Q (get_or rs k absent)) → P (get_or (slots_from h i s at done rs) n (stopped MissingBits))
  unfolding slots_from then_slots slot_in
  each_from h i s [] n at done q = missing
  each_from h i s (r ∷ rs) zero at done q =
      either_way P (leb (at + r.part2_3_length) (8 * length s)) _ _ (λ e. own _ r _ _ _ (q 0 (omega arith))) (λ e. missing)
  each_from h i s (r ∷ rs) (suc n) at done q = each_from h i s rs n (at + r.part2_3_length) _ (λ k l. q (suc k) (omega arith))

  each_slot : (h : FrameHeader) (i : SideInfo) (s : List ℕ) (n : ℕ) → ((k : ℕ) → k < length (records h i) → Q (get_or (records h i) k absent))
      → P (outcome_of h i s n)
  unfolding outcome_of slots_of
  each_slot h i s n q = each_from h i s (records h i) n 0 [] q

-- ---- no slot is refused for want of a codeword, of made-up side information neither
pub never_alien : (h : FrameHeader) (i : SideInfo) (s : List ℕ) (n : ℕ) → allowed (is_other 25) (outcome_of h i s n) ≡ true
unfolding allowed is_other
never_alien h i s n =
    each_slot (λ (o : Outcome). allowed (is_other 25) o ≡ true) (λ (r : SlotRecord). Unit {0}) refl
    (λ g r lost old b q. slot_allowed (is_other 25) not_alien g r lost old b) h i s n (λ k l. tt)

-- ---- how many numbers, and how large
abbrev pub Small : Outcome → Type 0
Small (stopped r) = Unit {0}
Small (holds long short vs) = Bounded (AtMost 576) vs

factors_small : (mpeg1 : Bool) (k : Shape) (fs : List ℕ) (q : Numbers) → Gives (AtMost 576) q → Small (with_factors mpeg1 k fs q)
unfolding with_factors
factors_small mpeg1 k fs (halted r) g = tt
factors_small mpeg1 k fs (got vs b) g = g

own_small : (g : Setting) (r : SlotRecord) (lost : Bool) (old : List ℕ) (b : List Bool) → r.big_values ≤ 288 → Small (slot_of g r lost old b)
unfolding slot_of slot_by
own_small g r lost old b h =
    either_way Small (ltb r.part2_3_length (plan_bits (sources_of (plan_of g r)))) _ _ (λ e. tt)
    (λ e. either_way Small (any_of g.shares && lost) _ _ (λ f. tt)
    (λ f. factors_small g.mpeg1 (shape_of r) _ _ (numbers-bounded word_of published-fits g.rate r h _)))

-- ---- of side information that bytes read to
get_d_take : {A : Type 0} (k n : ℕ) (l : List A) (d : A) → k < length (take n l) → get_or (take n l) k d ≡ get_or l k d
get_d_take k zero l d h = absurd (omega arith)
get_d_take k (suc n) [] d h = refl
get_d_take zero (suc n) (x ∷ l) d h = refl
get_d_take (suc k) (suc n) (x ∷ l) d h = get_d_take k n l d (omega arith)

lengths_le : (rs : List SlotRecord) (n : ℕ) → ((k : ℕ) → k < length rs → (get_or rs k absent).part2_3_length < 4096) → start_of n rs ≤ 4095 * n
unfolding start_of
lengths_le rs zero q = omega arith
lengths_le [] (suc n) q = omega arith
lengths_le (r ∷ rs) (suc n) q = let a = q 0 (omega arith) in let b = lengths_le rs n (λ k l. q (suc k) (omega arith)) in omega arith

-- a frame has at most four slots, with made-up side information too
pub slots-le : (h : FrameHeader) (i : SideInfo) → length (records h i) ≤ 4
unfolding granules channel_count
slots-le h i = rw length-take (go (is_mpeg1 h.version) (is_two h.channels))
  where
    go : (mpeg1 two : Bool) → min (granules_in mpeg1 * channels_in two) (length i.slots) ≤ 4
    go true true = omega arith
    go true false = omega arith
    go false true = omega arith
    go false false = omega arith

-- so the lent numbers have room for them, if the call took any
pub read-room : (h : FrameHeader) (i : SideInfo) (s : List ℕ) (d : ℕ) → 576 * length (told_or [] (read_slots h i s d)) ≤ d
unfolding read_slots told_or
read-room h i s d =
    elim (dec_le 2304 d) [
      | yes k ↦
          either_way (λ (t : Result (List Outcome) Refusal). 576 * length (told_or [] t) ≤ d) (ltb d 2304) _ _ (λ e. omega arith)
          (λ e. either_way (λ (t : Result (List Outcome) Refusal). 576 * length (told_or [] t) ≤ d) (is_header h && is_side h i) _ _
          (λ f. omega (arith, length-slots h i s, slots-le h i)) (λ f. omega arith))
      | no k ↦ rw (few_numbers h i s d (omega arith)) (omega arith)
    ]

module _ (h : FrameHeader) (i : SideInfo) (known : is_side h i ≡ true) where
  record_small : (k : ℕ) → k < length (records h i) → ((get_or (records h i) k absent).part2_3_length < 4096) × ((get_or (records h i) k absent).big_values ≤ 288)
  record_small k l =
      let m : k < granules h * channel_count h = omega (arith, length-take (granules h * channel_count h) i.slots, l) in
      rw (get_d_take k (granules h * channel_count h) i.slots absent l) (small-record (is_mpeg1 h.version) (is_slow h.rate) _ (slot_record h i known k m))

  -- where the n-th slot starts
  pub start_le : (n : ℕ) → n ≤ 4 → start_of n (records h i) ≤ 16380
  start_le n l = omega (arith, lengths_le (records h i) n (λ k m. (record_small k m).0))

  pub slot_small : (s : List ℕ) (n : ℕ) → Small (outcome_of h i s n)
  slot_small s n = each_slot Small (λ (r : SlotRecord). r.big_values ≤ 288) tt own_small h i s n (λ k l. (record_small k l).1)

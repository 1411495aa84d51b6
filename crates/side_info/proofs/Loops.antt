-- The loops that fill an array from its front: with the slots' records, and with the sharing bits.
use Rattle.std.specs.Prelude.{Result, Ok, Err}
use mathlib.Core.Path.{◌≡◌, refl, sym, ap, ◌∙◌}
use mathlib.Core.Bool.{Bool, false}
use mathlib.Core.List.{List, [], ◌∷◌, ◌++◌, append_assoc, append-nil}
use Prim.Native.Nat.{ℕ, suc, ◌+◌, ◌-◌, ◌*◌, ◌≤◌, ◌<◌}
use native.Mathlib.Nat.{sub-zero, suc-mul}
use native.Mathlib.Omega.{arith}
use lib.ListN.{length, set, replicate, length-append}
use lib.Seq.{set_at}
use Rattle.standard.specs.Bits.{bit_at, bits}
use Rattle.standard.specs.BitsLaws.{length-bits, drop_bits, take-bits, bits-add}
use Rattle.standard.specs.Record.{absent, record_width, record_of}
use Rattle.standard.specs.SideInfo.{then_records, records_of}
use Rattle.standard.specs.declared.SlotRecord.{SlotRecord}
use Rattle.standard.specs.declared.Refusal.{Refusal}
use Rattle.side_info.specs.Parts.{record_bits, filled}
use Rattle.record_check.proofs.Widths.{width}

-- one more is stored in an array of n places
stored : {A : Type 0} (n i : ℕ) (d x : A) (done : List A) {xs : List A} → length done ≡ i → i < n → xs ≡ done ++ replicate (n - i) d
    → set xs i x ≡ (done ++ x ∷ []) ++ replicate (n - (i + 1)) d
stored {A} n i d x done l h e =
    let q : n - i ≡ suc (n - (i + 1)) = omega arith in
    ap (λ (y : List A). set y i x) (e ∙ ap (λ (k : ℕ). done ++ replicate k d) q)
    ∙ set_at done d (replicate (n - (i + 1)) d) x i l
    ∙ sym (append_assoc done (x ∷ []) (replicate (n - (i + 1)) d))

-- ---- records
module _ (mpeg1 slow : Bool) (s : List ℕ) where
  -- the records of the k slots from a place on
  abbrev rest : ℕ → ℕ → Result (List SlotRecord) Refusal
  rest k at = records_of mpeg1 slow k (bits s at (k * record_width mpeg1))

  rest-step : (k at : ℕ)
      → records_of mpeg1 slow (suc k) (bits s at (suc k * record_width mpeg1))
      ≡ then_records (record_of mpeg1 slow (record_bits mpeg1 s at)) (records_of mpeg1 slow k (bits s (at + record_width mpeg1) (k * record_width mpeg1)))
  unfolding records_of
  rest-step k at =
      let w = record_width mpeg1 in
      let h : w ≤ suc k * w = omega (arith, suc-mul k w) in
      let q : suc k * w - w ≡ k * w = omega (arith, suc-mul k w) in
      λ j. then_records (record_of mpeg1 slow (take-bits w s at (suc k * w) h j))
      (records_of mpeg1 slow k ((drop_bits w s at (suc k * w) ∙ ap (bits s (at + w)) q) j))

-- what was read before
after : List SlotRecord → Result (List SlotRecord) Refusal → Result (List SlotRecord) Refusal
after done (Err k) = Err k
after done (Ok rs) = Ok (done ++ rs)

after_none : (y : Result (List SlotRecord) Refusal) → y ≡ after [] y
unfolding after
after_none (Err k) = refl
after_none (Ok rs) = refl

after_one : (done : List SlotRecord) (r : SlotRecord) (y : Result (List SlotRecord) Refusal) → after done (then_records (Ok r) y) ≡ after (done ++ r ∷ []) y
unfolding after then_records
after_one done r (Err k) = refl
after_one done r (Ok rs) = ap Ok (sym (append_assoc done (r ∷ []) rs))

pub record RecordsLoop (mpeg1 slow : Bool) (n : ℕ) (s : List ℕ) (start : ℕ) (slots : List SlotRecord) (at i : ℕ) : Type 0 where
  pub done : List SlotRecord
  pub some : i ≤ n
  pub count : length done ≡ i
  pub place : at ≤ start + 63 * i
  pub held : slots ≡ done ++ replicate (4 - i) absent
  same : rest mpeg1 slow s n start ≡ after done (rest mpeg1 slow s (n - i) at)

pub records-begin : (mpeg1 slow : Bool) (n : ℕ) (s : List ℕ) (start : ℕ) → RecordsLoop mpeg1 slow n s start (replicate 4 absent) start 0
records-begin mpeg1 slow n s start = record {
  done = [];
  some = omega arith;
  count = refl;
  place = omega arith;
  held = refl;
  same = after_none (rest mpeg1 slow s n start) ∙ ap (λ (k : ℕ). after [] (rest mpeg1 slow s k start)) (sym (sub-zero n));
}

module _ {mpeg1 slow : Bool} {n : ℕ} {s : List ℕ} {start : ℕ} {slots : List SlotRecord} {at i : ℕ} (l : RecordsLoop mpeg1 slow n s start slots at i) where
  one_more : i < n
      → rest mpeg1 slow s n start
      ≡ after l.done (then_records (record_of mpeg1 slow (record_bits mpeg1 s at)) (rest mpeg1 slow s (n - (i + 1)) (at + record_width mpeg1)))
  one_more h =
      let q : n - i ≡ suc (n - (i + 1)) = omega arith in
      l.same ∙ ap (λ (k : ℕ). after l.done (rest mpeg1 slow s k at)) q ∙ ap (after l.done) (rest-step mpeg1 slow s (n - (i + 1)) at)

  -- a record is refused
  pub records-stop : {r : Refusal} → record_of mpeg1 slow (record_bits mpeg1 s at) ≡ Err r → i < n
      → Err r ≡ filled n (records_of mpeg1 slow n (bits s start (n * record_width mpeg1)))
  unfolding after then_records
  records-stop e h =
      sym
      (ap (filled n)
      (one_more h
      ∙ ap (λ (t : Result SlotRecord Refusal). after l.done (then_records t (rest mpeg1 slow s (n - (i + 1)) (at + record_width mpeg1)))) e))

  -- or read
  pub records-turn : {x : SlotRecord} {w : ℕ} → record_of mpeg1 slow (record_bits mpeg1 s at) ≡ Ok x → w ≡ record_width mpeg1 → i < n → n ≤ 4
      → RecordsLoop mpeg1 slow n s start (set slots i x) (at + w) (i + 1)
  records-turn {x} {w} e f h m = record {
    done = l.done ++ x ∷ [];
    some = omega arith;
    count = length-append l.done (x ∷ []) ∙ ap (λ (k : ℕ). k + 1) l.count;
    place = omega (arith, l.place, f, width mpeg1);
    held = stored 4 i absent x l.done l.count (omega arith) l.held;
    same =
        one_more h
        ∙ ap (λ (t : Result SlotRecord Refusal). after l.done (then_records t (rest mpeg1 slow s (n - (i + 1)) (at + record_width mpeg1)))) e
        ∙ after_one l.done x (rest mpeg1 slow s (n - (i + 1)) (at + record_width mpeg1))
        ∙ ap (λ (k : ℕ). after (l.done ++ x ∷ []) (rest mpeg1 slow s (n - (i + 1)) (at + k))) (sym f);
  }

  pub records-end : n ≤ i → Ok slots ≡ filled n (records_of mpeg1 slow n (bits s start (n * record_width mpeg1)))
  unfolding after records_of
  records-end h =
      let q : n - i ≡ 0 = omega arith in
      let p : i ≡ n = omega (arith, l.some) in
      ap Ok (l.held ∙ ap (λ (k : ℕ). l.done ++ replicate (4 - k) absent) p)
      ∙ sym (ap (filled n) (l.same ∙ ap (λ (k : ℕ). after l.done (rest mpeg1 slow s k at)) q ∙ ap Ok (append-nil l.done)))

-- ---- sharing bits
pub record SharesLoop (s : List ℕ) (at n : ℕ) (shares : List Bool) (i : ℕ) : Type 0 where
  pub some : i ≤ n
  pub held : shares ≡ bits s at i ++ replicate (8 - i) false

pub shares_begin : (s : List ℕ) (at n : ℕ) → SharesLoop s at n (replicate 8 false) 0
unfolding bits
shares_begin s at n = record { some = omega arith; held = refl }

bits-one : (s : List ℕ) (at i : ℕ) → bits s at (i + 1) ≡ bits s at i ++ bit_at s (at + i) ∷ []
unfolding bits
bits-one s at i = bits-add s i at 1

module _ {s : List ℕ} {at n : ℕ} {shares : List Bool} {i : ℕ} (l : SharesLoop s at n shares i) where
  pub shares_turn : {x : Bool} → x ≡ bit_at s (at + i) → i < n → n ≤ 8 → SharesLoop s at n (set shares i x) (i + 1)
  shares_turn {x} e h m = record {
    some = omega arith;
    held =
        stored 8 i false x (bits s at i) (length-bits s at i) (omega arith) l.held
        ∙ ap (λ (y : List Bool). y ++ replicate (8 - (i + 1)) false) (ap (λ (b : Bool). bits s at i ++ b ∷ []) e ∙ sym (bits-one s at i));
  }

  pub shares_end : n ≤ i → shares ≡ bits s at n ++ replicate (8 - n) false
  shares_end h = let p : i ≡ n = omega (arith, l.some) in l.held ∙ ap (λ (k : ℕ). bits s at k ++ replicate (8 - k) false) p

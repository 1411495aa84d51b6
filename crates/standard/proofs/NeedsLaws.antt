-- Refusal 2 is given exactly when a needed byte is absent before any other fault shows, and its offset is the first such place: of a header, of side
-- information under a header, of a frame. Where there is a header the place is below the frame's length.
use Rattle.std.specs.Prelude.{◌≡◌, Bool, ◌&&◌, ◌||◌, ◌↔◌, List, ℕ, ◌+◌, ◌*◌, ◌≤◌, ◌<◌, ltb, leb, eqb, get_or, Result, Ok, Err}
use Rattle.std.proofs.Math.Path.{refl, sym, ap, subst}
use Rattle.std.proofs.Common.{◌∙◌, lt-ltb, le-ltb, le-leb, leb-false, eqb-true}
use Rattle.std.proofs.Math.Bool.{true, false, not}
use Rattle.std.proofs.Math.Decide.{dec_le}
use native.Mathlib.Omega.{arith}
use Rattle.std.proofs.lemmas.Bool.{lt-leb}
use Rattle.std.proofs.Math.ListN.{length}
use Rattle.standard.specs.Told.{pick, verdict_of, Verdict}
use Rattle.standard.specs.ToldLaws.{picked, passed, never, no_refusal, told_is, either_way}
use Rattle.standard.specs.Refusals.{number_of, offset_of}
use Rattle.standard.proofs.RefusalsLaws.{why_is, unlike}
use Rattle.standard.specs.Bits.{one, bits}
use Rattle.standard.specs.Crc.{crc_fits}
use Rattle.standard.specs.Written.{Bytes}
use Rattle.standard.specs.Header.{fields, last_bytes, second_byte, header_of, is_header, is_mpeg1, is_two, is_slow, header_size, side_bytes, side_size, main_size, data_size, frame_length}
use Rattle.standard.specs.Header.{sync_least, ID, layer, protection_bit}
use Rattle.standard.proofs.HeaderLaws.{header-size, side_size_lem, main_and_side}
use Rattle.standard.proofs.HeaderBytes.{header-known}
use Rattle.standard.specs.SideInfo.{needed_from, absent_from, side_in, side_from, side_of}
use Rattle.standard.specs.Frame.{Step, with_turn, frame_of, step_verdict}
use Rattle.standard.proofs.FrameLaws.{frame-no_header, frame-no_side, frame-absent, frame-turn}
use Rattle.standard.proofs.StepLaws.{only, but, side_in_but}
use Rattle.standard.specs.Needs.{wrong_second, wrong_last, header_needs, side_needs, needs_by, frame_needs, FirstAbsent}
use Rattle.standard.specs.declared.FrameHeader.{FrameHeader}
use Rattle.standard.specs.declared.SideInfo.{SideInfo}
use Rattle.standard.specs.declared.Refusal.{Refusal}
use Rattle.standard.specs.declared.Refusal.TheVariants.{AbsentBytes, MadeUpRecord, WrongCrc}
use Rattle.standard.specs.Reservoir.{Turn, short, reached}

-- ---- the first absent place is the one that the definition names
module _ (from end : ℕ) (s : List ℕ) where
  first-is : {n : ℕ} → FirstAbsent from end s n → n ≡ absent_from from (length s)
  unfolding absent_from
  first-is {n} f =
      elim (dec_le from (length s)) [
        | yes l ↦
            let k = f.least (length s) l (omega (arith, f.absent, f.before)) (omega arith) in
            let e : n ≡ length s = omega (arith, f.absent, k) in
            e ∙ sym (passed _ (le-ltb (length s) from l))
        | no l ↦
            let k = f.least from (omega arith) (omega (arith, f.after, f.before)) (omega arith) in
            let e : n ≡ from = omega (arith, f.after, k) in
            e ∙ sym (picked _ (lt-ltb (length s) from (omega arith)))
      ]

  first-at : from < end → length s < end → FirstAbsent from end s (absent_from from (length s))
  unfolding absent_from
  first-at g h =
      elim (dec_le from (length s)) [
        | yes l ↦ subst (FirstAbsent from end s) (sym (passed _ (le-ltb (length s) from l)))
            (record { after = l; before = h; absent = omega arith; least = λ p a b c. c })
        | no l ↦ subst (FirstAbsent from end s) (sym (picked _ (lt-ltb (length s) from (omega arith))))
            (record { after = omega arith; before = g; absent = omega arith; least = λ p a b c. a })
      ]

absent-zero : (n : ℕ) → absent_from 0 n ≡ n
unfolding absent_from
absent-zero n = passed _ (le-ltb n 0 (omega arith))

-- ---- a reading that needs the bytes before `end`: refused by 2 with the offset m where they are not all there, and never otherwise
record Fit (end m : ℕ) (s : List ℕ) (v : Verdict) : Type 0 where
  short : length s < end → v ≡ Err (AbsentBytes m)
  long : end ≤ length s → (n : ℕ) → v ≡ Err (AbsentBytes n) → ⊥

exactly : {from end n : ℕ} {s : List ℕ} {v : Verdict} → from < end → Fit end (absent_from from (length s)) s v
    → (v ≡ Err (AbsentBytes n)) ↔ FirstAbsent from end s n
exactly {from} {end} {n} {s} {v} g f = (
  λ e. elim (dec_le end (length s)) [
    | yes l ↦ absurd (f.long l n e)
    | no l ↦
        let w : length s < end = omega arith in
        let r : absent_from from (length s) ≡ n = ap offset_in (sym (f.short w) ∙ e) in
        subst (FirstAbsent from end s) r (first-at from end s g w)
  ],
  λ a. let w : length s < end = omega (arith, a.absent, a.before) in
      f.short w ∙ sym (ap (λ (k : ℕ). Err (AbsentBytes k)) (first-is from end s a)),
)
  where
    offset_in : Verdict → ℕ
    offset_in (Ok tt) = 0
    offset_in (Err r) = offset_of r

-- what tells another refusal than 2 is not one for absent bytes
not_2 : {r : Refusal} {n : ℕ} → but 2 (number_of r) ≡ true → r ≡ AbsentBytes n → ⊥
not_2 f g = never (sym (ap (λ (q : Refusal). but 2 (number_of q)) g) ∙ f)

only-not : {A : Type 0} {n : ℕ} (t : Result A Refusal) → only (but 2) t ≡ true → verdict_of t ≡ Err (AbsentBytes n) → ⊥
unfolding only verdict_of
only-not (Err r) f e = not_2 f (why_is e)
only-not (Ok a) f e = unlike (sym e)

-- ---- the header: a test for absent bytes, one for a fault, and the bytes of the CRC
at_least : (m : ℕ) (b : Bool) (x y : ℕ) → m ≤ x → m ≤ y → m ≤ pick b x y
at_least m b x y p q = either_way (λ (n : ℕ). m ≤ n) b x y (λ e. p) (λ e. q)

or_pick : (a b : Bool) (x y : ℕ) → pick (a || b) x y ≡ pick a x (pick b x y)
unfolding pick
or_pick true b x y = refl
or_pick false b x y = refl

or_three : (a b c : Bool) (x y : ℕ) → pick (a || b || c) x y ≡ pick a x (pick b x (pick c x y))
or_three a b c x y = or_pick (a || b) c x y ∙ or_pick a b x (pick c x y)

or_four : (a b c d : Bool) (x y : ℕ) → pick (a || b || c || d) x y ≡ pick a x (pick b x (pick c x (pick d x y)))
or_four a b c d x y = or_pick (a || b || c) d x y ∙ or_three a b c x (pick d x y)

-- a test that a later one covers adds nothing
covered : (c d : Bool) (x y : ℕ) → (c ≡ true → d ≡ true) → pick c x (pick d x y) ≡ pick d x y
unfolding pick
covered true true x y f = refl
covered true false x y f = never (f refl)
covered false d x y f = refl

-- the reserved layer is none of Layer III, and has a refusal of its own
second_needs : (b1 x y : ℕ) → pick (wrong_second b1) x y
    ≡ pick (ltb b1 sync_least) x (pick (eqb (ID b1) 1) x (pick (eqb (layer b1) 0) x (pick (not (eqb (layer b1) 1)) x y)))
second_needs b1 x y =
    or_three _ _ _ x y
    ∙ ap (λ (n : ℕ). pick (ltb b1 sync_least) x (pick (eqb (ID b1) 1) x n))
    (sym (covered (eqb (layer b1) 0) (not (eqb (layer b1) 1)) x y (λ e. ap (λ (n : ℕ). not (eqb n 1)) (eqb-true (layer b1) 0 e))))

module _ {A : Type 0} (s : List ℕ) where
  abbrev Fits : ℕ → Result A Refusal → Type 0
  Fits end t = Fit end (length s) s (verdict_of t)

  fit_absent : (k end : ℕ) (t : Result A Refusal) → k < end → (k < length s → Fits end t) → Fits end (pick (leb (length s) k) (Err (AbsentBytes (length s))) t)
  unfolding verdict_of
  fit_absent k end t h f =
      elim (dec_le (length s) k) [
        | yes l ↦
            let e = picked {x = Err (AbsentBytes (length s))} t (le-leb (length s) k l) in
            record { short = λ g. ap verdict_of e; long = λ g n. absurd (let w : ⊥ = omega arith in w) }
        | no l ↦
            let e = passed (Err (AbsentBytes (length s))) {y = t} (lt-leb (length s) k (omega arith)) in
            subst (Fit end (length s) s) (sym (ap verdict_of e)) (f (omega arith))
      ]

  fit_fault : (b : Bool) (r : Refusal) (k end : ℕ) (t : Result A Refusal) → k ≤ length s → but 2 (number_of r) ≡ true → Fits end t
      → Fits (pick b k end) (pick b (Err r) t)
  unfolding pick verdict_of
  fit_fault true r k end t h e f = record { short = λ g. absurd (let w : ⊥ = omega arith in w); long = λ g n q. not_2 e (why_is q) }
  fit_fault false r k end t h e f = f

  fit_crc : (c : Bool) (a : A) → 4 ≤ length s → Fits (4 + 2 * one c) (pick (c && leb (length s) 5) (Err (AbsentBytes (length s))) (Ok a))
  unfolding pick verdict_of
  fit_crc true a h = fit_absent 5 6 (Ok a) (omega arith) (λ g. record { short = λ l. absurd (let w : ⊥ = omega arith in w); long = λ l n e. unlike (sym e) })
  fit_crc false a h = record { short = λ l. absurd (let w : ⊥ = omega arith in w); long = λ l n e. unlike (sym e) }

last_fit : (s : List ℕ) → 3 < length s
    → Fit (pick (wrong_last (get_or s 2 0) (get_or s 3 0)) 4 (4 + 2 * one (eqb (protection_bit (get_or s 1 0)) 0))) (length s) s (verdict_of (last_bytes s))
unfolding last_bytes
last_fit s h =
    let l : 4 ≤ length s = omega arith in
    subst (λ (n : ℕ). Fit n (length s) s (verdict_of (last_bytes s))) (sym (or_four _ _ _ _ _ _))
    (fit_fault s _ _ _ _ _ l refl (fit_fault s _ _ _ _ _ l refl (fit_fault s _ _ _ _ _ l refl (fit_fault s _ _ _ _ _ l refl (fit_crc s
    (eqb (protection_bit (get_or s 1 0)) 0) (fields (get_or s 1 0) (get_or s 2 0) (get_or s 3 0)) l)))))

header-fit : (s : List ℕ) → Fit (header_needs s) (length s) s (verdict_of (header_of s))
unfolding header_needs header_of second_byte
header-fit s =
    let last = pick (wrong_last (get_or s 2 0) (get_or s 3 0)) 4 (4 + 2 * one (eqb (protection_bit (get_or s 1 0)) 0)) in
    let four : 4 ≤ last = at_least 4 _ _ _ (omega arith) (omega arith) in
    let two : 2 ≤ pick (wrong_second (get_or s 1 0)) 2 last = at_least 2 _ _ _ (omega arith) (omega (arith, four)) in
    fit_absent s 0 _ _ (at_least 1 _ _ _ (omega arith) (omega (arith, two))) (λ a. fit_fault s _ _ _ _ _ a refl
    (fit_absent s 1 _ _ two (λ b. let l : 2 ≤ length s = omega arith in
    subst (λ (n : ℕ). Fit n (length s) s (verdict_of (second_byte s))) (sym (second_needs (get_or s 1 0) 2 last))
    (fit_fault s _ _ _ _ _ l refl (fit_fault s _ _ _ _ _ l refl (fit_fault s _ _ _ _ _ l refl (fit_fault s _ _ _ _ _ l refl
    (fit_absent s 3 _ _ four (last_fit s)))))))))

some_needed : (s : List ℕ) → 0 < header_needs s
unfolding header_needs
some_needed s = at_least 1 _ _ _ (omega arith) (at_least 1 _ _ _ (omega arith) (at_least 1 _ _ _ (omega arith) (omega arith)))

-- THE STATEMENT, of a header
pub header-absent : (s : List ℕ) (n : ℕ) → (verdict_of (header_of s) ≡ Err (AbsentBytes n)) ↔ FirstAbsent 0 (header_needs s) s n
header-absent s n = exactly (some_needed s) (rw (absent-zero (length s)) (header-fit s))

-- ---- side information under a header that bytes read to
needed_before : (h : FrameHeader) → needed_from h.crc (header_size h) ≤ header_size h
unfolding header_size
needed_before h = go h.crc
  where
    go : (c : Bool) → needed_from c (4 + 2 * one c) ≤ 4 + 2 * one c
    go true = omega arith
    go false = omega arith

module _ (h : FrameHeader) (known : is_header h ≡ true) (s : List ℕ) where
  abbrev end : ℕ
  end = header_size h + side_size h

  side_fit : Fit end (absent_from (needed_from h.crc (header_size h)) (length s)) s (verdict_of (side_of h s))
  unfolding side_of side_from side_size verdict_of
  side_fit =
      let mpeg1 = is_mpeg1 h.version in
      let two = is_two h.channels in
      let slow = is_slow h.rate in
      let own = bits s (8 * header_size h) (8 * side_bytes mpeg1 two) in
      let to = header_size h + side_bytes mpeg1 two in
      let none : Result SideInfo Refusal = Err (AbsentBytes (absent_from (needed_from h.crc (header_size h)) (length s))) in
      let wrong = h.crc && not (crc_fits s to) in
      let checked : Result SideInfo Refusal = pick wrong (Err WrongCrc) (side_in mpeg1 two slow own) in
      let e = ap verdict_of (picked (Err MadeUpRecord) known) in
      record {
        short = λ l. e ∙ ap verdict_of (picked checked (lt-ltb (length s) to l));
        long = λ l n q. only-not checked (side_in_but 2 refl refl wrong mpeg1 two slow own)
            (sym (e ∙ ap verdict_of (passed none (le-ltb (length s) to l))) ∙ q);
      }

  -- THE STATEMENT, of side information: of the header's own bytes those are needed that a CRC covers, and this
  pub side_absent : (n : ℕ) → (verdict_of (side_of h s) ≡ Err (AbsentBytes n)) ↔ FirstAbsent (needed_from h.crc (header_size h)) (header_size h + side_size h) s n
  side_absent n = exactly (omega (arith, needed_before h, side_size_lem h)) side_fit

-- ---- a frame
-- a header that was read is there, with its CRC
crc_there : (c : Bool) (n : ℕ) → 4 ≤ n → c && leb n 5 ≡ false → 4 + 2 * one c ≤ n
crc_there true n l e = omega (arith, leb-false n 5 e)
crc_there false n l e = l

last_there : (s : List ℕ) (h : FrameHeader) → 3 < length s → last_bytes s ≡ Ok h → header_size h ≤ length s
unfolding last_bytes header_size fields
last_there s h l e =
    let e1 = (no_refusal _ _ _ h e).1 in
    let e2 = (no_refusal _ _ _ h e1).1 in
    let e3 = (no_refusal _ _ _ h e2).1 in
    let e4 = (no_refusal _ _ _ h e3).1 in
    let e5 = no_refusal (eqb (protection_bit (get_or s 1 0)) 0 && leb (length s) 5) _ _ h e4 in
    subst (λ (x : FrameHeader). header_size x ≤ length s) (told_is e5.1) (crc_there (eqb (protection_bit (get_or s 1 0)) 0) (length s) (omega arith) e5.0)

header-there : (s : List ℕ) (h : FrameHeader) → header_of s ≡ Ok h → header_size h ≤ length s
unfolding header_of second_byte
header-there s h e =
    let e1 = (no_refusal _ _ _ h e).1 in
    let e2 = (no_refusal _ _ _ h e1).1 in
    let e3 = (no_refusal _ _ _ h e2).1 in
    let e4 = (no_refusal _ _ _ h e3).1 in
    let e5 = (no_refusal _ _ _ h e4).1 in
    let e6 = (no_refusal _ _ _ h e5).1 in
    let e7 = (no_refusal _ _ _ h e6).1 in
    let e8 = no_refusal (leb (length s) 3) _ _ h e7 in
    last_there s h (leb-false (length s) 3 e8.0) e8.1

-- after its turn with the reservoir a frame is not refused by 2
turn_not : (h : FrameHeader) (i : SideInfo) (t : Turn) (n : ℕ) → step_verdict (with_turn h i t) ≡ Err (AbsentBytes n) → ⊥
unfolding with_turn
turn_not h i (short bs) n e = not_2 refl (why_is e)
turn_not h i (reached bs) n e = unlike (sym e)

module _ (s old : List ℕ) (bytes : Bytes s) where
  abbrev FrameFits : ℕ → Type 0
  FrameFits end = Fit end (length s) s (step_verdict (frame_of s old))

  by_side : (h : FrameHeader) → header_of s ≡ Ok h → (t : Result SideInfo Refusal) → side_of h s ≡ t → FrameFits (side_needs h t)
  unfolding side_needs verdict_of absent_from
  by_side h e (Err r) f =
      let v = ap step_verdict (frame-no_side s old e f) ∙ sym (ap verdict_of f) in
      let from = needed_from h.crc (header_size h) in
      let here : absent_from from (length s) ≡ length s = passed _ (le-ltb (length s) from (omega (arith, needed_before h, header-there s h e))) in
      subst (Fit (header_size h + side_size h) (length s) s) (sym v)
      (subst (λ (m : ℕ). Fit (header_size h + side_size h) m s (verdict_of (side_of h s))) here (side_fit h (header-known s h bytes e) s))
  by_side h e (Ok i) f = record {
    short = λ l. ap step_verdict (frame-absent s old e f l);
    long = λ l n q. turn_not h i _ n (sym (ap step_verdict (frame-turn s old e f l)) ∙ q);
  }

  by_header : (t : Result FrameHeader Refusal) → header_of s ≡ t → FrameFits (needs_by s t)
  unfolding needs_by verdict_of
  by_header (Err r) e =
      let v = ap step_verdict (frame-no_header s old e) ∙ sym (ap verdict_of e) in
      subst (Fit (header_needs s) (length s) s) (sym v) (header-fit s)
  by_header (Ok h) e = by_side h e (side_of h s) refl

  frame-fit : FrameFits (frame_needs s)
  unfolding frame_needs
  frame-fit = by_header (header_of s) refl

  -- all that a frame needs is before its end
  needs_by_lem : {h : FrameHeader} → header_of s ≡ Ok h → frame_needs s ≤ frame_length h
  unfolding frame_needs needs_by side_needs frame_length
  needs_by_lem {h} e =
      let known = header-known s h bytes e in
      subst (λ (t : Result FrameHeader Refusal). needs_by s t ≤ frame_length h) (sym e) (go (side_of h s) (main_and_side h known))
    where
      go : (t : Result SideInfo Refusal) → main_size h + side_size h ≡ data_size h → side_needs h t ≤ frame_length h
      go (Err r) m = omega arith
      go (Ok i) m = omega arith

  needs_some : (t : Result FrameHeader Refusal) → header_of s ≡ t → 0 < needs_by s t
  unfolding needs_by side_needs frame_length
  needs_some (Err r) e = some_needed s
  needs_some (Ok h) e = go (side_of h s)
    where
      go : (t : Result SideInfo Refusal) → 0 < side_needs h t
      go (Err r) = omega (arith, header-size h)
      go (Ok i) = omega (arith, header-size h)

  -- THE STATEMENT, of a frame
  pub absent-exactly : (n : ℕ) → (step_verdict (frame_of s old) ≡ Err (AbsentBytes n)) ↔ FirstAbsent 0 (frame_needs s) s n
  unfolding frame_needs
  absent-exactly n = exactly (needs_some (header_of s) refl) (rw (absent-zero (length s)) frame-fit)

  -- and where there is a header, the place is below the frame's length
  pub absent-within : {h : FrameHeader} (n : ℕ) → header_of s ≡ Ok h → step_verdict (frame_of s old) ≡ Err (AbsentBytes n) → n < frame_length h
  absent-within n e q = omega (arith, ((absent-exactly n).0 q).before, needs_by_lem e)

-- What a frame's turn comes to by its sizes, and what storing its bytes makes of the lent memory; the reservoir never outgrows 1,931 bytes.
use Rattle.std.specs.Prelude.{◌≡◌, ℕ, ◌+◌, ◌-◌, ◌≤◌, ◌<◌, ltb, take, Result, Ok, Err}
use Rattle.std.proofs.Math.Path.{sym, ap}
use Rattle.std.proofs.Common.{◌∙◌, lt-ltb, le-ltb, length-append, take_at, length-take-le}
use mathlib.Core.List.{List, ◌++◌}
use native.Mathlib.Omega.{arith}
use Rattle.std.proofs.Math.ListN.{length, drop, length-drop}
use Rattle.std.proofs.Math.Seq.{paste, drop-paste, drop-drop, take-length}
use Rattle.standard.specs.ToldLaws.{picked, passed, either_left, either_right, neither}
use Rattle.standard.specs.CopyLaws.{take-drop}
use Rattle.standard.specs.Reservoir.{reaching, adding, Turn, short, reached, turn_of, keeping, reservoir_after, bytes_after, unfit, turn_in, turn_verdict, turn_kept, Turned}
use Rattle.standard.specs.declared.Reservoir.{Reservoir}
use Rattle.standard.specs.Told.{Verdict}
use Rattle.standard.specs.declared.Refusal.TheVariants.{UnfitMemory}
use Rattle.standard.specs.declared.Refusal.{Refusal}

module _ (lent : List ℕ) (stated begin : ℕ) (main : List ℕ) where
  -- ---- refused for the memory
  pub few_lent : length lent < 4096 → turn_in lent stated begin main ≡ Err UnfitMemory
  unfolding turn_in unfit
  few_lent h = picked _ (either_left _ (either_left _ (lt-ltb _ _ h)))

  pub much_stated : 4096 < stated → turn_in lent stated begin main ≡ Err UnfitMemory
  unfolding turn_in unfit
  much_stated h = picked _ (either_left (ltb 4096 (begin + length main)) (either_right (ltb (length lent) 4096) (lt-ltb 4096 stated h)))

  pub too_long : 4096 < begin + length main → turn_in lent stated begin main ≡ Err UnfitMemory
  unfolding turn_in
  too_long h = picked _ (either_right (unfit lent stated) (lt-ltb 4096 (begin + length main) h))

  -- ---- a turn that fits the memory
  module _ (lent_fits : 4096 ≤ length lent) (stated-fits : stated ≤ 4096) (fits : begin + length main ≤ 4096) where
    old_long : length (take stated lent) ≡ stated
    old_long = length-take-le stated lent (omega arith)

    pub fitting : turn_in lent stated begin main ≡ Ok (turn_of begin (take stated lent) main)
    unfolding turn_in unfit
    fitting = passed _ (neither (neither (le-ltb _ _ lent_fits) (le-ltb _ _ stated-fits)) (le-ltb _ _ fits))

    pub short_turn : stated < begin → turn_in lent stated begin main ≡ Ok (short (take stated lent ++ main))
    unfolding turn_of adding
    short_turn h = fitting ∙ ap Ok (picked _ (lt-ltb (length (take stated lent)) begin (omega (arith, old_long))))

    pub reached_turn : begin ≤ stated → turn_in lent stated begin main ≡ Ok (reached (take begin (drop (stated - begin) lent) ++ main))
    unfolding turn_of reaching
    reached_turn h =
        let e : stated - begin + begin ≡ stated = omega arith in
        fitting
        ∙ ap Ok (passed _ (le-ltb (length (take stated lent)) begin (omega (arith, old_long))))
        ∙ ap (λ (n : ℕ). Ok (reached (drop (n - begin) (take stated lent) ++ main))) old_long
        ∙ ap (λ (l : List ℕ). Ok (reached (l ++ main)))
        (ap (λ (n : ℕ). drop (stated - begin) (take n lent)) (sym e) ∙ sym (take-drop (stated - begin) begin lent))

    -- ---- and what it stores
    paste_all : (d : List ℕ) (at : ℕ) → paste d at main (length main) ≡ (take at d ++ main) ++ drop (at + length main) d
    paste_all d at = ap (λ (l : List ℕ). (take at d ++ l) ++ drop (at + length main) d) (take-length main)

    pub short_bytes : paste lent stated main (length main) ≡ bytes_after lent (keeping (take stated lent ++ main))
    unfolding bytes_after
    short_bytes =
        paste_all lent stated
        ∙ ap (λ (n : ℕ). (take stated lent ++ main) ++ drop n lent) (sym (length-append (take stated lent) main ∙ ap (λ (n : ℕ). n + length main) old_long))

    pub short_length : length (take stated lent ++ main) ≡ stated + length main
    short_length = length-append (take stated lent) main ∙ ap (λ (n : ℕ). n + length main) old_long

    module _ (h : begin ≤ stated) where
      kept_long : length (take begin (drop (stated - begin) lent)) ≡ begin
      kept_long = length-take-le begin (drop (stated - begin) lent) (simp length-drop (omega arith))

      pub reached_length : length (take begin (drop (stated - begin) lent) ++ main) ≡ begin + length main
      reached_length = length-append (take begin (drop (stated - begin) lent)) main ∙ ap (λ (n : ℕ). n + length main) kept_long

      pub reached_bytes : paste (paste lent 0 (drop (stated - begin) lent) begin) begin main (length main)
          ≡ bytes_after lent (keeping (take begin (drop (stated - begin) lent) ++ main))
      unfolding bytes_after
      reached_bytes =
          let slid = paste lent 0 (drop (stated - begin) lent) begin in
          paste_all slid begin
          ∙ (λ j. (take_at (take begin (drop (stated - begin) lent)) (drop (0 + begin) lent) begin kept_long j ++ main) ++ beyond j)
          ∙ ap (λ (n : ℕ). (take begin (drop (stated - begin) lent) ++ main) ++ drop n lent) (sym reached_length)
        where
          beyond : drop (begin + length main) (paste lent 0 (drop (stated - begin) lent) begin) ≡ drop (begin + length main) lent
          beyond =
              let slid = paste lent 0 (drop (stated - begin) lent) begin in
              let e : 0 + begin ≡ begin = omega arith in
              sym (drop-drop (length main) begin slid)
              ∙ ap (drop (length main))
              (ap (λ (n : ℕ). drop n slid) (sym e) ∙ drop-paste lent 0 (drop (stated - begin) lent) begin (omega arith) (simp length-drop (omega arith))
              ∙ ap (λ (n : ℕ). drop n lent) e)
              ∙ drop-drop (length main) begin lent

-- ---- the answers
pub unfit-turned : {lent : List ℕ} {old : Reservoir} {t : Result Turn Refusal} {r : Verdict} {new : Reservoir} {left : List ℕ} → t ≡ Err UnfitMemory
    → r ≡ Err UnfitMemory → new ≡ old → left ≡ lent → Turned lent old t r new left
unfolding turn_verdict turn_kept reservoir_after bytes_after
unfit-turned {lent} {old} e a n l = record {
  verdict = a ∙ sym (ap turn_verdict e);
  reservoir = n ∙ sym (ap (λ (u : Result Turn Refusal). reservoir_after old (turn_kept u)) e);
  bytes = l ∙ sym (ap (λ (u : Result Turn Refusal). bytes_after lent (turn_kept u)) e);
}

-- a turn that changed the reservoir: what is answered of it, and the new length and bytes
pub changed_turned : {lent : List ℕ} {old : Reservoir} {t u : Result Turn Refusal} {bs : List ℕ} {r : Verdict} {new : Reservoir} {left : List ℕ} {n : ℕ} → t ≡ u
    → turn_kept u ≡ keeping bs → r ≡ turn_verdict u → new ≡ record { length = n } → length bs ≡ n
    → left ≡ bytes_after lent (keeping bs) → Turned lent old t r new left
unfolding reservoir_after
changed_turned {lent} {old} {bs = bs} e k v a m l = record {
  verdict = v ∙ sym (ap turn_verdict e);
  reservoir = a ∙ sym (ap (λ (w : Result Turn Refusal). reservoir_after old (turn_kept w)) e ∙ ap (reservoir_after old) k ∙ (λ j. record { length = m j }));
  bytes = l ∙ sym (ap (λ (w : Result Turn Refusal). bytes_after lent (turn_kept w)) e ∙ ap (bytes_after lent) k);
}

-- ---- one answer and one state
pub one-turn : {lent left gone : List ℕ} {old new other : Reservoir} {t : Result Turn Refusal} {r q : Verdict} → Turned lent old t r new left
    → Turned lent old t q other gone → (r ≡ q) × (new ≡ other) × (left ≡ gone)
one-turn a b = (a.verdict ∙ sym b.verdict, a.reservoir ∙ sym b.reservoir, a.bytes ∙ sym b.bytes)

-- `reservoir::turn` meets its contract: each test is one of the turn's sizes, and the bytes put are those that the turn keeps.
-- Assumes nothing.
use mathlib.Core.Path.{refl, ap, ◌∙◌}
use mathlib.Core.List.{List}
use Prim.Native.Nat.{ℕ, ◌+◌, ◌-◌, ◌≤◌, ◌<◌}
use native.Mathlib.Omega.{arith}
use lib.ListN.{length}
use lib.Seq.{paste}
use Rattle.standard.specs.Reservoir.{turn_kept, turn_verdict}
use Rattle.standard.proofs.ReservoirLaws.{few_lent, much_stated, too_long, short_turn, reached_turn, short_bytes, short_length, reached_length, reached_bytes, unfit-turned, changed_turned}
use Rattle.lent_bytes.specs.PutLaws.{put_whole, slid_whole}
use Rattle.reservoir.proofs.turn.Goals as goal

pub returns-then-bytes-lt-RESERVOIR_BYTES : goal.returns-then-bytes-lt-RESERVOIR_BYTES
returns-then-bytes-lt-RESERVOIR_BYTES c = unfit-turned (few_lent _ _ _ _ c.if-bytes-lt-RESERVOIR_BYTES.true) refl refl refl

pub returns-then-stated-gt-RESERVOIR_BYTES : goal.returns-then-stated-gt-RESERVOIR_BYTES
returns-then-stated-gt-RESERVOIR_BYTES c = unfit-turned (much_stated _ _ _ _ c.if-stated-gt-RESERVOIR_BYTES.true) refl refl refl

pub returns-then-main-gt-RESERVOIR_BYTES : goal.returns-then-main-gt-RESERVOIR_BYTES
returns-then-main-gt-RESERVOIR_BYTES c =
    let a = c.args in
    let h : 4096 < a.begin + length a.main.now = omega arith in
    unfit-turned (too_long _ _ _ _ h) refl refl refl

pub returns-then-back-main-gt-RESERVOIR_BYTES : goal.returns-then-back-main-gt-RESERVOIR_BYTES
returns-then-back-main-gt-RESERVOIR_BYTES c = unfit-turned (too_long _ _ _ _ c.if-back-main-gt-RESERVOIR_BYTES.true) refl refl refl

pub returns-then-stated-back : goal.returns-then-stated-back
unfolding turn_kept turn_verdict
returns-then-stated-back c =
    let a = c.args in
    let lent = a.bytes.now in
    let main = a.main.now in
    let stated = a.reservoir.now.length in
    let lent_fits : 4096 ≤ length lent = omega arith in
    let stated-fits : stated ≤ 4096 = omega arith in
    let fits : a.begin + length main ≤ 4096 = omega arith in
    changed_turned (short_turn lent stated a.begin main lent_fits stated-fits fits (omega arith)) refl refl refl (short_length lent stated a.begin main lent_fits stated-fits fits)
    (put_whole c.put.ensures (omega arith) ∙ short_bytes lent stated a.begin main lent_fits stated-fits fits)

pub returns : goal.returns
unfolding turn_kept turn_verdict
returns c =
    let a = c.args in
    let lent = a.bytes.now in
    let main = a.main.now in
    let stated = a.reservoir.now.length in
    let lent_fits : 4096 ≤ length lent = omega arith in
    let stated-fits : stated ≤ 4096 = omega arith in
    let fits : a.begin + length main ≤ 4096 = omega arith in
    let reach : a.begin ≤ stated = omega arith in
    changed_turned (reached_turn lent stated a.begin main lent_fits stated-fits fits reach) refl refl refl (reached_length lent stated a.begin main lent_fits stated-fits fits reach)
    (put_whole c.put-reservoir.ensures (omega arith)
    ∙ ap (λ (x : List ℕ). paste x a.begin main (length main))
    (c.slide.ensures ∙ slid_whole lent (stated - a.begin) a.begin (omega arith))
    ∙ reached_bytes lent stated a.begin main lent_fits stated-fits fits reach)

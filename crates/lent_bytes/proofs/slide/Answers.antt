-- `lent_bytes::slide` meets its contract.
use mathlib.Core.Path.{◌≡◌, sym, ap, ◌∙◌}
use Prim.Native.Nat.{ℕ, ◌+◌, ◌-◌}
use native.Mathlib.Omega.{arith}
use lib.ListN.{drop}
use lib.Seq.{paste, paste-zero}
use Rattle.lent_bytes.specs.Put.{slid_of}
use Rattle.lent_bytes.proofs.Room.{room}
use Rattle.lent_bytes.proofs.slide.Goals as goal

pub returns : goal.returns
unfolding slid_of
returns c =
    let old = c.args.lent.now in
    let s = c.min-start.result in
    let n : s + c.min-there.result - s ≡ c.min-there.result = omega arith in
    c.copy_within.ensures.after
    ∙ ap (paste old 0 (drop s old)) n
    ∙ room (λ (s n : ℕ). paste old 0 (drop s old) n) (λ a b. sym (paste-zero old 0 (drop a old)) ∙ paste-zero old 0 (drop b old)) _ c.args.from c.args.n
    c.min-start.ensures c.min-there.ensures

-- `scale_factors::places::Places::short_of` meets its contract: where there are none all is zeros; laid out in bands and flat again, the factors are
-- the same. Assumes nothing.
use mathlib.Core.Path.{◌≡◌, ◌∙◌}
use native.Mathlib.Omega.{arith}
use lib.ListN.{length}
use borrow.Author.Rules.{rules}
use Rattle.scale_factors.proofs.Plans.{none_placed, bands_back}
use Rattle.scale_factors.proofs.places.Places.short_of.Goals as goal

pub returns-then-self-eq0 : goal.returns-then-self-eq0
returns-then-self-eq0 c =
    let k = c.args.self in
    none_placed c.args.fs k.long k.short k.from c.if-self-eq0.true (omega (arith, k.few))

pub returns : goal.returns
returns c =
    let k = c.args.self in
    let many : length c.args.fs ≡ 36 = search rules in
    c.flat.ensures ∙ bands_back c.args.fs k.long k.short k.from many (omega (arith, k.few)) (omega (arith, k.few)) c.bands_of.ensures

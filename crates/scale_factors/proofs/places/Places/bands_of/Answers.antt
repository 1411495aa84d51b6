-- `scale_factors::places::Places::bands_of` meets its contract: there is room for all that is put, zeros are left before it and behind it, and the
-- bands are those of the whole. Assumes nothing.
use mathlib.Core.Path.{◌≡◌, ap, ◌∙◌}
use mathlib.Core.List.{◌++◌}
use Prim.Native.Nat.{ℕ, ◌+◌, ◌-◌}
use native.Mathlib.Omega.{arith}
use lib.ListN.{length, take, drop, replicate, length-drop}
use lib.Seq.{length-take-le}
use borrow.Author.Rules.{rules}
use borrow.Rule.Slice.PartMut.{put_mid}
use Rattle.standard.specs.Factors.{bands_of}
use Rattle.scale_factors.proofs.Plans.{put_in}
use Rattle.scale_factors.proofs.places.Places.bands_of.Goals as goal

pub returns : goal.returns
returns c =
    let k = c.args.self in
    let fs = c.args.fs in
    let many : length fs ≡ 36 = search rules in
    let d : k.long + k.short - k.long ≡ k.short = omega arith in
    let part = take k.short (drop k.long fs) in
    let l : length part ≡ k.short = length-take-le k.short (drop k.long fs) (omega (arith, length-drop k.long fs, k.few)) in
    c.bands.ensures
    ∙ ap (bands_of 13)
    (ap (put_mid k.from (k.from + k.short - k.from) (replicate 39 0)) (c.copy_from_slice.ensures.after ∙ ap (λ (n : ℕ). take n (drop k.long fs)) d)
    ∙ put_in k.from (k.from + k.short - k.from) 39 part (omega arith) (omega (arith, k.few))
    ∙ ap (λ (n : ℕ). replicate k.from 0 ++ part ++ replicate (39 - (k.from + n)) 0) l)

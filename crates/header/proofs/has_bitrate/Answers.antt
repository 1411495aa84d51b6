-- `header::has_bitrate` meets its contract: by whether the version is MPEG-1 its row is one of two, and each is a range. Assumes nothing.
use mathlib.Core.Path.{◌≡◌, refl, sym, ◌∙◌}
use mathlib.Core.Bool.{Bool, true, not, ◌&&◌}
use Prim.Native.Nat.{ℕ}
use lib.Dec.{eqb}
use Rattle.standard.specs.Rows.{member}
use Rattle.standard.specs.Header.{bps, is_mpeg1, bitrates, same_bitrate}
use Rattle.standard.proofs.HeaderRows.{as_mpeg1, as_mpeg2, between, bitrate_rows}
use Rattle.standard.specs.declared.MpegVersion.{MpegVersion}
use Rattle.standard.specs.declared.BitRate.{BitRate}
use Rattle.header.proofs.has_bitrate.Goals as goal

-- in MPEG-1 the row is the first of two, and a range but for one value
of_mpeg1 : (v : MpegVersion) (b : BitRate) {m w : Bool} {n : ℕ} → m ≡ is_mpeg1 v → m ≡ true → w ≡ between n 32000 320000 → n ≡ bps b
    → (w && not (eqb n 144000)) ≡ member same_bitrate b (bitrates v)
of_mpeg1 v b e f g h = rw (as_mpeg1 bitrates v (sym e ∙ f), (bitrate_rows b).0, g, h)

pub returns-then-within : goal.returns-then-within
unfolding bitrates
returns-then-within c =
    let m = of_mpeg1 c.args.v c.args.b c.is_mpeg1.ensures c.if-is_mpeg1.true c.within.ensures c.bps-n.ensures in rw c.if-within.true at m

pub returns-else-within : goal.returns-else-within
unfolding bitrates
returns-else-within c =
    let m = of_mpeg1 c.args.v c.args.b c.is_mpeg1.ensures c.if-is_mpeg1.true c.within.ensures c.bps-n.ensures in c.if-within.false ∙ (rw c.if-within.false at m)

pub returns : goal.returns
unfolding bitrates
returns c =
    let a = c.args in rw
    (as_mpeg2 bitrates refl a.v (sym c.is_mpeg1.ensures ∙ c.if-is_mpeg1.false), (bitrate_rows a.b).1, c.within-2.ensures, c.bps-n.ensures)

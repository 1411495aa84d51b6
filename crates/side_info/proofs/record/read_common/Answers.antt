-- `side_info::record::read_common` meets its contract: each field stands at its place, whatever the width of scalefac_compress.
-- Assumes nothing.
use Prim.Native.Nat.{◌≤◌}
use native.Mathlib.Omega.{arith}
use Rattle.side_info.proofs.Cuts.{whole}
use Rattle.side_info.proofs.Fields.{compress_there, common_read}
use Rattle.record_check.proofs.Widths.{width}
use Rattle.side_info.proofs.record.read_common.Goals as goal

pub returns : goal.returns
returns c =
    let a = c.args in
    let h : c.compress_width-c.result ≤ 9 = omega (arith, width a.mpeg1) in
    let x = compress_there a.mpeg1 a.s.now a.at c.compress_width-c.ensures (whole _ _ h c.field-compress.ensures) in
    common_read a.mpeg1 a.s.now a.at c.word-head.ensures x c.record_width.ensures (c.read_preflag-preflag.ensures x)
    c.bit-scale.ensures c.bit-count1.ensures

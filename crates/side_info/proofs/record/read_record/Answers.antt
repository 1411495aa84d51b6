-- `side_info::record::read_record` meets its contract: its parts are the record's.
-- Assumes nothing.
use Rattle.std.proofs.Common.{ap, ◌∙◌, ℕ, ◌+◌}
use Rattle.standard.specs.Bits.{field_at}
use Rattle.standard.specs.Record.{record_of}
use Rattle.side_info.specs.Parts.{record_bits}
use Rattle.side_info.proofs.record.read_record.Goals as goal

pub returns : goal.returns
returns c =
    let a = c.args in
    let window = c.word-w.ensures ∙ ap (λ (n : ℕ). field_at a.s.now (a.at + 29 + n) 23) c.compress_width-c.ensures in
    c.record_of.ensures _ _ _ (record { common = c.read_common-k.ensures; window = window })
    ∙ (λ j. let m = c.is_mpeg1-mpeg1.ensures j in record_of m (c.is_slow.ensures j) (record_bits m a.s.now a.at))

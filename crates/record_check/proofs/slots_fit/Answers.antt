-- `record_check::slots_fit` meets its contract: n records, and no others after them. Assumes nothing.
use mathlib.Core.Path.{◌≡◌, sym, ap, ◌∙◌}
use mathlib.Core.Bool.{Bool, ◌&&◌}
use Prim.Native.Nat.{◌-◌}
use borrow.Author.Rules.{rules}
use lib.ListN.{length, take, drop}
use Rattle.std.specs.List.{list_all}
use Rattle.standard.specs.Header.{is_mpeg1, is_slow}
use Rattle.standard.specs.SideInfo.{is_absent}
use Rattle.record_check.proofs.Tests.{slots-are}
use Rattle.record_check.proofs.slots_fit.Goals as goal

pub returns-then-are_records : goal.returns-then-are_records
returns-then-are_records c =
    let a = c.args in
    let l : length a.s ≡ 4 = search rules in
    let k = slots-are (is_mpeg1 a.h.version) (is_slow a.h.rate) a.n a.s l c.requires in
    c.are_absent.ensures ∙ ap (λ (b : Bool). b && list_all is_absent (take (4 - a.n) (drop a.n a.s))) (sym c.if-are_records.true ∙ c.are_records.ensures) ∙ k

pub returns-else-are_records : goal.returns-else-are_records
returns-else-are_records c =
    let a = c.args in
    let l : length a.s ≡ 4 = search rules in
    let k = slots-are (is_mpeg1 a.h.version) (is_slow a.h.rate) a.n a.s l c.requires in
    c.if-are_records.false ∙ ap (λ (b : Bool). b && list_all is_absent (take (4 - a.n) (drop a.n a.s))) (sym c.if-are_records.false ∙ c.are_records.ensures) ∙ k

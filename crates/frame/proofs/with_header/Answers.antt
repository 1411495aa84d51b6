-- `frame::with_header` meets its contract: the side information is the definition's, and the main data is what follows it.
-- Assumes nothing.
use mathlib.Core.Path.{refl, sym, ap, ◌∙◌}
use native.Mathlib.Omega.{arith}
use Rattle.standard.proofs.HeaderLaws.{frame-length_le, frame-length_any}
use Rattle.standard.proofs.HeaderBytes.{header-known}
use Rattle.standard.proofs.SideBytes.{side_known}
use Rattle.standard.proofs.FrameLaws.{step-refused, frame-no_side, frame-absent}
use Rattle.std.specs.Prelude.{Err}
use Rattle.frame.proofs.Stages.{side_read, parts, main_length, whole-frame, passed_ok, passed_err}
use Rattle.std.proofs.lemmas.Result.{err_from_is_err_and}
use Rattle.frame.proofs.with_header.Goals as goal

pub slice_bounds-with_main-end : goal.slice_bounds-with_main-end
slice_bounds-with_main-end c =
    let h = c.args.h in
    let k = header-known c.args.frame.now h (λ i. omega (arith, c.type_inv.frame i)) c.requires.2 in
    omega (
      arith,
      c.if-there-frame_length.false,
      c.frame_length.ensures,
      c.header_size.ensures,
      c.side_size.ensures,
      c.main_size.ensures,
      parts h k,
    )

pub returns-in_err-i : goal.returns-in_err-i
returns-in_err-i c =
    let p = err_from_is_err_and c.from_residual.result c.from_residual.ensures.1 in
    let q = passed_err _ _ c.map_err.ensures.cases c.in_err-i.was in
    step-refused
    (frame-no_side _ _ c.requires.2
    (side_read c.args.h c.args.frame.now (λ i. omega (arith, c.type_inv.frame i)) c.requires.2 ∙ sym c.side_under.ensures ∙ q.1))
    (p.1 ∙ ap Err (p.2 ∙ q.2)) refl refl refl

pub overflow_cast-offset : goal.overflow_cast-offset
overflow_cast-offset c =
    let h = c.args.h in
    omega (arith, c.if-there-frame_length.true, c.frame_length.ensures, frame-length_any h)

pub returns-then-there-frame_length : goal.returns-then-there-frame_length
returns-then-there-frame_length c =
    step-refused
    (frame-absent _ _ c.requires.2
    (side_read c.args.h c.args.frame.now (λ i. omega (arith, c.type_inv.frame i)) c.requires.2 ∙ sym c.side_under.ensures ∙ passed_ok _ _ c.map_err.ensures.cases c.in_ok-i.was)
    (omega (arith, c.if-there-frame_length.true, c.frame_length.ensures))) refl refl refl refl

pub overflow_add-from : goal.overflow_add-from
overflow_add-from c =
    let h = c.args.h in
    let k = header-known c.args.frame.now c.args.h (λ i. omega (arith, c.type_inv.frame i)) c.requires.2 in
    record { fits = omega (arith, c.header_size.ensures, c.side_size.ensures, parts h k, frame-length_le h k) }

pub overflow_add-to : goal.overflow_add-to
overflow_add-to c =
    let h = c.args.h in
    let k = header-known c.args.frame.now c.args.h (λ i. omega (arith, c.type_inv.frame i)) c.requires.2 in
    record {
      fits = omega
          (arith, c.header_size.ensures, c.side_size.ensures, c.main_size.ensures, parts h k, frame-length_le h k);
    }

pub with_main-requires : goal.with_main-requires
with_main-requires c =
    let h = c.args.h in
    let t = (side_read c.args.h c.args.frame.now (λ i. omega (arith, c.type_inv.frame i)) c.requires.2 ∙ sym c.side_under.ensures ∙ passed_ok _ _ c.map_err.ensures.cases c.in_ok-i.was) in
    let k = header-known c.args.frame.now c.args.h (λ i. omega (arith, c.type_inv.frame i)) c.requires.2 in
    let hs = c.header_size.ensures in
    let ss = c.side_size.ensures in
    let ms = c.main_size.ensures in (
      c.requires.0,
      c.requires.1,
      k,
      side_known _ _ _ k t,
      main_length h c.args.frame.now k
          (omega (
            arith,
            c.if-there-frame_length.false,
            c.frame_length.ensures,
          )) hs ss ms,
    )

pub returns : goal.returns
returns c =
    let hs = c.header_size.ensures in
    let ss = c.side_size.ensures in
    let ms = c.main_size.ensures in
    whole-frame c.args.frame.now c.args.h _ c.requires.2
    (side_read c.args.h c.args.frame.now (λ i. omega (arith, c.type_inv.frame i)) c.requires.2 ∙ sym c.side_under.ensures ∙ passed_ok _ _ c.map_err.ensures.cases c.in_ok-i.was)
    (omega (
      arith,
      c.if-there-frame_length.false,
      c.frame_length.ensures,
    )) hs ss ms
    c.with_main.ensures

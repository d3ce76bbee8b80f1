-- Open memory holds a design; else the refusal of opening it.
-- Assumes nothing.
use native.Mathlib.Omega.{arith}
use Rattle.std.proofs.lemmas.Result.{err_from_is_err_and}
use Rattle.netlist.specs.Results.{lent}
use Rattle.session.proofs.OpenLaws.{opened, not_opened}
use Rattle.session.proofs.HoldLaws.{wire-fits}
use Rattle.show.proofs.ShowLaws.{shown-there, shown-missing, shown-refused}
use Rattle.show.proofs.find_shown.Goals as goal

pub returns-then-own-number : goal.returns-then-own-number
returns-then-own-number c =
    let args = c.args in
    let open-memory = c.open_memory in
    let module-wires = c.module_wires-own in
    let all =
    shown-missing
    (opened
    (lent args.design.now.names.now args.design.now.strings.now args.design.now.bits.now args.design.now.wires.now args.design.now.rows.now args.design.now.renames args.design.now.room)
    _ open-memory.ensures _ c.in_ok-place.was) _ _ _ module-wires.ensures c.if-own-number.true in
    record { shown_at = all.0; in_range = all.1.0; shown_as = all.1.1 }

pub overflow_add-row : goal.overflow_add-row
overflow_add-row c =
    let args = c.args in
    let open-memory = c.open_memory in
    let module-wires = c.module_wires-own in
    omega (
      arith,
      wire-fits
          (opened
          (lent args.design.now.names.now args.design.now.strings.now args.design.now.bits.now args.design.now.wires.now args.design.now.rows.now args.design.now.renames args.design.now.room)
          _ open-memory.ensures _ c.in_ok-place.was) args.m.0 args.w.0 _ module-wires.ensures
          c.if-own-number.false,
    )

pub returns : goal.returns
returns c =
    let args = c.args in
    let open-memory = c.open_memory in
    let module-wires = c.module_wires-own in
    let if1 = c.if-own-number in
    let all =
    shown-there
    (opened
    (lent args.design.now.names.now args.design.now.strings.now args.design.now.bits.now args.design.now.wires.now args.design.now.rows.now args.design.now.renames args.design.now.room)
    _ open-memory.ensures _ c.in_ok-place.was) args.m.0 args.w.0 _ module-wires.ensures if1.false
    _ c.shown_wire.ensures in
    record { shown_at = all.0; in_range = all.1.0; shown_as = all.1.1 }

pub returns-in_err-place : goal.returns-in_err-place
returns-in_err-place c =
    let args = c.args in
    let p = err_from_is_err_and c.from_residual.result c.from_residual.ensures.1 in
    let all =
    shown-refused
    (lent args.design.now.names.now args.design.now.strings.now args.design.now.bits.now args.design.now.wires.now args.design.now.rows.now args.design.now.renames args.design.now.room)
    args.m.0 args.w.0 _
    (not_opened
    (lent args.design.now.names.now args.design.now.strings.now args.design.now.bits.now args.design.now.wires.now args.design.now.rows.now args.design.now.renames args.design.now.room)
    _ c.open_memory.ensures _ c.in_err-place.was) in
    rw (p.1, p.2) (record { shown_at = all.0; in_range = all.1.0; shown_as = all.1.1 })

use native.Mathlib.Omega.{arith}
use Rattle.netlist.specs.Results.{lent}
use Rattle.session.proofs.OpenLaws.{opened}
use Rattle.session.proofs.HoldLaws.{wire-fits}
use Rattle.look_up.proofs.AskLaws.{index-there, index-missing}
use Rattle.look_up.proofs.index.Goals as goal

pub returns-then-own-number : goal.returns-then-own-number
returns-then-own-number c =
    let args = c.args in
    let open-memory = c.open_memory in
    let module-wires = c.module_wires-own in
    index-missing
    (opened
    (lent args.design.now.names.now args.design.now.strings.now args.design.now.bits.now args.design.now.wires.now args.design.now.rows.now args.design.now.renames args.design.now.room)
    _ open-memory.ensures _ c.in-Ok.is) _ _ _ _ module-wires.ensures c.if-own-number.true

pub overflow_add-own : goal.overflow_add-own
overflow_add-own c =
    let args = c.args in
    let open-memory = c.open_memory in
    let module-wires = c.module_wires-own in
    omega (
      arith,
      wire-fits
          (opened
          (lent args.design.now.names.now args.design.now.strings.now args.design.now.bits.now args.design.now.wires.now args.design.now.rows.now args.design.now.renames args.design.now.room)
          _ open-memory.ensures _ c.in-Ok.is) args.m.0 args.w.0 _
          module-wires.ensures c.if-own-number.false,
    )

pub returns-else-own-number : goal.returns-else-own-number
returns-else-own-number c =
    let args = c.args in
    let open-memory = c.open_memory in
    let module-wires = c.module_wires-own in
    let if1 = c.if-own-number in
    index-there
    (opened
    (lent args.design.now.names.now args.design.now.strings.now args.design.now.bits.now args.design.now.wires.now args.design.now.rows.now args.design.now.renames args.design.now.room)
    _ open-memory.ensures _ c.in-Ok.is) args.m.0 args.w.0 args.bit _ module-wires.ensures
    _ if1.false c.row_index.ensures

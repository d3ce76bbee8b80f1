use Rattle.netlist.specs.Results.{lent}
use Rattle.session.proofs.OpenLaws.{opened}
use Rattle.look_up.proofs.AskLaws.{looked-up}
use Rattle.look_up.proofs.look_up.Goals as goal

pub returns-in-Ok : goal.returns-in-Ok
returns-in-Ok c =
    let args = c.args in
    let open-memory = c.open_memory in
    looked-up
    (opened
    (lent args.design.now.names.now args.design.now.strings.now args.design.now.bits.now args.design.now.wires.now args.design.now.rows.now args.design.now.renames args.design.now.room)
    _ open-memory.ensures _ c.in-Ok.is) args.m.0 args.name.now _ _
    c.module_of.ensures c.find.ensures

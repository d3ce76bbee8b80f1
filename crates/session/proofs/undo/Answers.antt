use Rattle.netlist.specs.Results.{result, lent}
use Rattle.session.proofs.OpenLaws.{opened, not_opened}
use Rattle.session.proofs.CallLaws.{not-open}
use Rattle.session.proofs.undo.Goals as goal

pub undo_open-requires : goal.undo_open-requires
undo_open-requires c =
    let args = c.args in
    let open-memory = c.open_memory in
    opened
    (lent args.names.now args.strings.now args.bits.now args.wires.now args.rows.now args.renames args.room)
    _ open-memory.ensures _ c.in-Ok.is

pub returns-in-Err : goal.returns-in-Err
returns-in-Err c =
    let args = c.args in
    let open-memory = c.open_memory in
    not-open
    (λ n. result n 0 (lent args.names.now args.strings.now args.bits.now args.wires.now
    args.rows.now args.renames args.room)) _ _
    (not_opened
    (lent args.names.now args.strings.now args.bits.now args.wires.now args.rows.now args.renames args.room)
    _ open-memory.ensures _ c.in-Err.is)

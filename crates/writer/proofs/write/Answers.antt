-- Open memory holds a design; else the refusal of opening it.
-- Assumes nothing.
use Rattle.netlist.specs.Results.{lent}
use Rattle.session.proofs.OpenLaws.{opened, not_opened}
use Rattle.session.proofs.CallLaws.{not-open}
use Rattle.writer.proofs.TextLaws.{bits-few, written}
use Rattle.writer.proofs.write.Goals as goal

pub write_rows-requires : goal.write_rows-requires
write_rows-requires c =
    let args = c.args in
    let open-memory = c.open_memory in
    bits-few
    (opened
    (lent args.design.now.names.now args.design.now.strings.now args.design.now.bits.now args.design.now.wires.now args.design.now.rows.now args.design.now.renames args.design.now.room)
    _ open-memory.ensures _ c.in-Ok.is)

pub returns-in-Ok : goal.returns-in-Ok
returns-in-Ok c =
    let args = c.args in
    let open-memory = c.open_memory in
    let counts-at = c.counts_at in
    let write-rows = c.write_rows in
    written
    (opened
    (lent args.design.now.names.now args.design.now.strings.now args.design.now.bits.now args.design.now.wires.now args.design.now.rows.now args.design.now.renames args.design.now.room)
    _ open-memory.ensures _ c.in-Ok.is) counts-at.result counts-at.ensures args.out.now _
    write-rows.ensures

pub returns-in-Err : goal.returns-in-Err
returns-in-Err c =
    let args = c.args in
    let open-memory = c.open_memory in
    not-open (λ n. (n, 0, args.out.now)) _ _
    (not_opened
    (lent args.design.now.names.now args.design.now.strings.now args.design.now.bits.now args.design.now.wires.now args.design.now.rows.now args.design.now.renames args.design.now.room)
    _ open-memory.ensures _ c.in-Err.is)

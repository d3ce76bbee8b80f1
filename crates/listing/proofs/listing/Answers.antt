-- Open memory holds a design; else the refusal of opening it.
use Rattle.netlist.specs.Results.{lent}
use Rattle.session.proofs.OpenLaws.{opened, not_opened}
use Rattle.session.proofs.CallLaws.{not-open}
use Rattle.listing.proofs.ListLaws.{fits, listed-missing, listed-there}
use Rattle.listing.proofs.listing.Goals as goal

pub returns-then-place-m : goal.returns-then-place-m
returns-then-place-m c =
    let args = c.args in
    let held =
    opened (lent args.design.now.names.now args.design.now.strings.now args.design.now.bits.now args.design.now.wires.now args.design.now.rows.now args.design.now.renames args.design.now.room)
    _ c.open_memory.ensures _ c.in-Ok.is in
    listed-missing held args.m.0 args.out.now c.if-place-m.true

pub list_module-requires : goal.list_module-requires
list_module-requires c =
    let args = c.args in
    let held =
    opened (lent args.design.now.names.now args.design.now.strings.now args.design.now.bits.now args.design.now.wires.now args.design.now.rows.now args.design.now.renames args.design.now.room)
    _ c.open_memory.ensures _ c.in-Ok.is in
    let all = fits held args.m.0 _ c.module_of.ensures in
    record { wires_bound = all.0; names_len = all.1 }

pub returns : goal.returns
returns c =
    let args = c.args in
    let held =
    opened (lent args.design.now.names.now args.design.now.strings.now args.design.now.bits.now args.design.now.wires.now args.design.now.rows.now args.design.now.renames args.design.now.room)
    _ c.open_memory.ensures _ c.in-Ok.is in
    listed-there held args.m.0 args.out.now c.if-place-m.false _ c.module_of.ensures _ c.list_module.ensures

pub returns-in-Err : goal.returns-in-Err
returns-in-Err c =
    let args = c.args in
    not-open (λ n. (n, 0, args.out.now)) _ _
    (not_opened (lent args.design.now.names.now args.design.now.strings.now args.design.now.bits.now args.design.now.wires.now args.design.now.rows.now args.design.now.renames args.design.now.room)
    _ c.open_memory.ensures _ c.in-Err.is)

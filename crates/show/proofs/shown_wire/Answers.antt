-- The string if it isn't empty, else the name.
-- Assumes nothing.
use Rattle.show.proofs.StepLaws.{shows-text, shows-name}
use Rattle.show.proofs.PartLaws.{name-is}
use Rattle.show.proofs.shown_wire.Goals as goal

pub returns-then-text : goal.returns-then-text
returns-then-text c =
    let args = c.args in
    let wire-line = c.wire_line-line in
    let hdlname-row = c.hdlname_row in
    let text-part = c.text_part-text in
    shows-text args.design.now.names.now args.design.now.strings.now args.design.now.wires.now args.design.now.rows.now args.from
    args.count args.m.0 args.w.0 args.k _ _ text-part.result wire-line.ensures
    hdlname-row.ensures text-part.ensures c.if-text.true

pub plain_part-requires : goal.plain_part-requires
plain_part-requires c =
    let args = c.args in
    rw c.name_part-now.ensures
    (name-is args.design.now.names.now args.design.now.wires.now args.design.now.rows.now args.from args.count args.m.0 args.w.0 args.k).1

pub returns : goal.returns
returns c =
    let args = c.args in
    let wire-line = c.wire_line-line in
    let hdlname-row = c.hdlname_row in
    let text-part = c.text_part-text in
    let if1 = c.if-text in
    shows-name args.design.now.names.now args.design.now.strings.now args.design.now.wires.now args.design.now.rows.now args.from
    args.count args.m.0 args.w.0 args.k _ _ text-part.result wire-line.ensures
    hdlname-row.ensures text-part.ensures if1.false _ _ c.name_part-now.ensures
    c.plain_part.ensures

-- A kind that names wires of the module, or another.
-- Assumes nothing.
use borrow.Author.Tests.{ne_eqb}
use Rattle.text.specs.Written.{written_as}
use Rattle.wire_names.specs.Now.{wires_in}
use Rattle.line_text.specs.LineLaws.{statement-wire, statement-cell-connection, statement-connection, statement-step, statement-plain}
use Rattle.line_text.proofs.put_statement.Goals as goal

pub returns-then-kind-eq-WIRE_KIND : goal.returns-then-kind-eq-WIRE_KIND
returns-then-kind-eq-WIRE_KIND c =
    let args = c.args in
    let column = c.column-kind in
    let if1 = c.if-kind-eq-WIRE_KIND in
    let put-wire = c.put_wire in
    written_as put-wire.ensures
    (statement-wire args.design.now.names.now args.design.now.strings.now args.design.now.bits.now args.design.now.wires.now
    args.design.now.rows.now args.m (wires_in args.design.now.names.now args.design.now.wires.now args.design.now.rows.now args.m)
    args.row _ column.ensures if1.true)

pub shape_of-out-then-kind-eq-WIRE_KIND : goal.shape_of-out-then-kind-eq-WIRE_KIND
shape_of-out-then-kind-eq-WIRE_KIND c = (returns-then-kind-eq-WIRE_KIND c).kept

pub returns-then-kind-eq-CELL_CONNECTION_KIND : goal.returns-then-kind-eq-CELL_CONNECTION_KIND
returns-then-kind-eq-CELL_CONNECTION_KIND c =
    let args = c.args in
    let column = c.column-kind in
    let if2 = c.if-kind-eq-CELL_CONNECTION_KIND in
    let put-cell-connection = c.put_cell_connection in
    written_as put-cell-connection.ensures
    (statement-cell-connection args.design.now.names.now args.design.now.strings.now args.design.now.bits.now args.design.now.wires.now
    args.design.now.rows.now args.m (wires_in args.design.now.names.now args.design.now.wires.now args.design.now.rows.now args.m)
    args.row _ column.ensures if2.true)

pub shape_of-out-then-kind-eq-CELL_CONNECTION_KIND : goal.shape_of-out-then-kind-eq-CELL_CONNECTION_KIND
shape_of-out-then-kind-eq-CELL_CONNECTION_KIND c = (returns-then-kind-eq-CELL_CONNECTION_KIND c).kept

pub returns-then-kind-eq-CONNECTION_KIND : goal.returns-then-kind-eq-CONNECTION_KIND
returns-then-kind-eq-CONNECTION_KIND c =
    let args = c.args in
    let column = c.column-kind in
    let if3 = c.if-kind-eq-CONNECTION_KIND in
    let put-connection = c.put_connection in
    written_as put-connection.ensures
    (statement-connection args.design.now.names.now args.design.now.strings.now args.design.now.bits.now args.design.now.wires.now
    args.design.now.rows.now args.m (wires_in args.design.now.names.now args.design.now.wires.now args.design.now.rows.now args.m)
    args.row _ column.ensures if3.true)

pub shape_of-out-then-kind-eq-CONNECTION_KIND : goal.shape_of-out-then-kind-eq-CONNECTION_KIND
shape_of-out-then-kind-eq-CONNECTION_KIND c = (returns-then-kind-eq-CONNECTION_KIND c).kept

pub returns-then-kind-eq-STEP_KIND : goal.returns-then-kind-eq-STEP_KIND
returns-then-kind-eq-STEP_KIND c =
    let args = c.args in
    written_as c.put_step.ensures
    (statement-step args.design.now.names.now args.design.now.strings.now args.design.now.bits.now args.design.now.wires.now
    args.design.now.rows.now args.m (wires_in args.design.now.names.now args.design.now.wires.now args.design.now.rows.now args.m)
    args.row _ c.column-kind.ensures c.if-kind-eq-STEP_KIND.true)

pub shape_of-out-then-kind-eq-STEP_KIND : goal.shape_of-out-then-kind-eq-STEP_KIND
shape_of-out-then-kind-eq-STEP_KIND c = (returns-then-kind-eq-STEP_KIND c).kept

pub returns : goal.returns
returns c =
    let args = c.args in
    let column = c.column-kind in
    let if1 = c.if-kind-eq-WIRE_KIND in
    let if2 = c.if-kind-eq-CELL_CONNECTION_KIND in
    let if3 = c.if-kind-eq-CONNECTION_KIND in
    let put-plain = c.put_plain in
    written_as
    (put-plain.ensures args.design.now.wires.now
    (wires_in args.design.now.names.now args.design.now.wires.now args.design.now.rows.now args.m) (ne_eqb _ _ if1.false)
    (ne_eqb _ _ if2.false) (ne_eqb _ _ if3.false) (ne_eqb _ _ c.if-kind-eq-STEP_KIND.false))
    (statement-plain args.design.now.names.now args.design.now.strings.now args.design.now.bits.now args.design.now.wires.now
    args.design.now.rows.now args.m (wires_in args.design.now.names.now args.design.now.wires.now args.design.now.rows.now args.m)
    args.row _ column.ensures (ne_eqb _ _ if1.false))

pub shape_of-out : goal.shape_of-out
shape_of-out c = (returns c).kept

-- The attributes that wait, then the object; nothing if the row is of another kind.
-- Assumes nothing.
use borrow.Author.Tests.{eq-eqb, ne_eqb}
use native.Mathlib.Omega.{arith}
use Rattle.text.specs.Written.{written_none, written-most, written_then}
use Rattle.design_text.specs.Rows.{row_line, object_if}
use Rattle.design_text.proofs.put_object.Goals as goal

pub returns-then-row_kind-kind : goal.returns-then-row_kind-kind
unfolding object_if
returns-then-row_kind-kind c =
    let args = c.args in
    let pre = c.requires in
    rw (← c.row_kind.ensures, ne_eqb c.row_kind.result args.kind c.if-row_kind-kind.true)
    (written_none args.at args.out.now pre.0)

pub put_kind-line-requires : goal.put_kind-line-requires
put_kind-line-requires c = (c.requires.0, c.requires.1, omega arith)

pub put_cell-requires : goal.put_cell-requires
put_cell-requires c =
    let pre = c.requires in
    let put-kind = c.put_kind-line in
    (written-most put-kind.ensures, pre.1, pre.2)

pub returns-then-kind-eq-CELL_KIND : goal.returns-then-kind-eq-CELL_KIND
unfolding object_if
returns-then-kind-eq-CELL_KIND c =
    let args = c.args in
    let row-kind = c.row_kind in
    let if1 = c.if-row_kind-kind in
    let put-kind = c.put_kind-line in
    let if2 = c.if-kind-eq-CELL_KIND in
    let put-cell = c.put_cell in
    rw (← row-kind.ensures, eq-eqb row-kind.result args.kind if1.false, eq-eqb args.kind 7 if2.true)
    (written_then put-kind.ensures put-cell.ensures)

pub shape_of-out-then-kind-eq-CELL_KIND : goal.shape_of-out-then-kind-eq-CELL_KIND
shape_of-out-then-kind-eq-CELL_KIND c = (returns-then-kind-eq-CELL_KIND c).kept

pub put_process-requires : goal.put_process-requires
put_process-requires c =
    let pre = c.requires in
    let put-kind = c.put_kind-line in
    (written-most put-kind.ensures, pre.1, pre.2)

pub returns-then-kind-eq-PROCESS_KIND : goal.returns-then-kind-eq-PROCESS_KIND
unfolding object_if
returns-then-kind-eq-PROCESS_KIND c =
    let args = c.args in
    let row-kind = c.row_kind in
    rw (← row-kind.ensures, eq-eqb row-kind.result args.kind c.if-row_kind-kind.false, ne_eqb args.kind 7 c.if-kind-eq-CELL_KIND.false, eq-eqb args.kind 11 c.if-kind-eq-PROCESS_KIND.true)
    (written_then c.put_kind-line.ensures c.put_process.ensures)

pub shape_of-out-then-kind-eq-PROCESS_KIND : goal.shape_of-out-then-kind-eq-PROCESS_KIND
shape_of-out-then-kind-eq-PROCESS_KIND c = (returns-then-kind-eq-PROCESS_KIND c).kept

pub put_line-requires : goal.put_line-requires
put_line-requires c =
    let pre = c.requires in
    let put-kind = c.put_kind-line in
    (written-most put-kind.ensures, omega arith, pre.1)

pub returns : goal.returns
unfolding row_line object_if
returns c =
    let args = c.args in
    let row-kind = c.row_kind in
    let if1 = c.if-row_kind-kind in
    let put-kind = c.put_kind-line in
    let if2 = c.if-kind-eq-CELL_KIND in
    let put-line = c.put_line in
    rw (← row-kind.ensures, eq-eqb row-kind.result args.kind if1.false, ne_eqb args.kind 7 if2.false, ne_eqb args.kind 11 c.if-kind-eq-PROCESS_KIND.false)
    (written_then put-kind.ensures put-line.ensures)

pub shape_of-out : goal.shape_of-out
shape_of-out c = (returns c).kept

-- The row is of the kind, or nothing is written.
-- Assumes nothing.
use borrow.Author.Tests.{eq-eqb, ne_eqb}
use Rattle.text.specs.Written.{written_none}
use Rattle.design_text.specs.Rows.{row_line, line_if}
use Rattle.design_text.proofs.put_row.Goals as goal

pub returns-then-row_kind-kind : goal.returns-then-row_kind-kind
unfolding row_line line_if
returns-then-row_kind-kind c =
    let args = c.args in
    let pre = c.requires in
    rw (← c.row_kind.ensures, ne_eqb c.row_kind.result args.kind c.if-row_kind-kind.true)
    (written_none args.at args.out.now pre.0)

pub returns : goal.returns
unfolding row_line line_if
returns c =
    let args = c.args in
    let row-kind = c.row_kind in
    let if1 = c.if-row_kind-kind in
    let put-line = c.put_line in
    rw (← row-kind.ensures, eq-eqb row-kind.result args.kind if1.false) put-line.ensures

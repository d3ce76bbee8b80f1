-- By the kind of line.
use Rattle.line_forms.specs.Forms.{cell_kind_of}
use Rattle.syntax.specs.Statements.{no-shape}
use Rattle.syntax.proofs.ShapeLaws.{form-whole, left_by}
use Rattle.syntax.proofs.cell_statement.Goals as goal

pub returns-in_err-kind : goal.returns-in_err-kind
returns-in_err-kind c first attributed =
    let e = c.in_err-kind.ensures in
    left_by c.from_residual.ensures e.value e.ok_part (no-shape (rw e.ok_part at (c.cell_line_kind.ensures.0 c.args.f.now first attributed)))

pub returns-in-Form : goal.returns-in-Form
unfolding cell_kind_of
returns-in-Form c first attributed =
    let k = c.in_ok-kind.ensures.ok_part in
    rw (c.cell_line_kind.ensures.0 c.args.f.now first attributed, k, c.in-Form.is)
    (c.form_statement.ensures (form-whole _ _ c.requires.ready.rows.closed c.in-Form.form (rw (k, c.in-Form.is) at c.cell_line_kind.ensures.1)) _ _)

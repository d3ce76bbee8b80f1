-- By the kind of line.
use Rattle.context.specs.Place.{context_of}
use Rattle.line_forms.specs.Processes.{process_kind_of}
use Rattle.syntax.specs.Statements.{no-shape}
use Rattle.syntax.proofs.ShapeLaws.{form-whole, left_by}
use Rattle.syntax.proofs.process_statement.Goals as goal

pub returns-in_err-kind : goal.returns-in_err-kind
unfolding context_of
returns-in_err-kind c =
    let e = c.in_err-kind.ensures in
    left_by c.from_residual.ensures e.value e.ok_part (no-shape (rw e.ok_part at (c.process_line_kind.ensures.0 c.args.f.now c.args.place.first)))

pub returns-in-Form : goal.returns-in-Form
unfolding context_of process_kind_of
returns-in-Form c =
    let k = c.in_ok-kind.ensures.ok_part in
    rw (c.process_line_kind.ensures.0 c.args.f.now c.args.place.first, k, c.in-Form.is)
    (c.form_statement.ensures (form-whole _ _ c.requires.ready.rows.closed c.in-Form.form (rw (k, c.in-Form.is) at c.process_line_kind.ensures.1)) _ _)

pub returns-in-Step : goal.returns-in-Step
unfolding context_of
returns-in-Step c =
    rw (c.process_line_kind.ensures.0 c.args.f.now c.args.place.first, c.in_ok-kind.ensures.ok_part, c.in-Step.is) c.step_statement.ensures

-- By the scope.
use Rattle.context.specs.Place.{scope_of, context_of}
use Rattle.syntax.specs.Statements.{no-shape}
use Rattle.syntax.proofs.ShapeLaws.{form-whole, left_by}
use Rattle.syntax.proofs.line_statement.Goals as goal

pub returns-in_err-form : goal.returns-in_err-form
unfolding scope_of context_of
returns-in_err-form c =
    let e = c.in_err-form.ensures in
    left_by c.from_residual.ensures e.value e.ok_part
    (rw c.if-place-eq-TOP.true (no-shape (rw e.ok_part at (c.top_line.ensures.0 c.args.f.now c.args.place.attributed))))

pub returns-then-place-eq-TOP : goal.returns-then-place-eq-TOP
unfolding scope_of context_of
returns-then-place-eq-TOP c =
    let k = c.in_ok-form.ensures.ok_part in
    rw (c.if-place-eq-TOP.true, c.top_line.ensures.0 c.args.f.now c.args.place.attributed, k)
    (c.form_statement.ensures (form-whole _ _ c.requires.ready.rows.closed c.in_ok-form.form (rw k at c.top_line.ensures.1)) _ _)

pub returns-then-place-eq-IN_MODULE : goal.returns-then-place-eq-IN_MODULE
unfolding scope_of context_of
returns-then-place-eq-IN_MODULE c = rw c.if-place-eq-IN_MODULE.true (c.module_statement.ensures c.args.place.first)

pub returns-then-place-eq-IN_CELL : goal.returns-then-place-eq-IN_CELL
unfolding scope_of context_of
returns-then-place-eq-IN_CELL c = rw c.if-place-eq-IN_CELL.true (c.cell_statement.ensures _ _)

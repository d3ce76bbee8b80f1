-- The type, the name, then the end.
use native.Mathlib.Omega.{arith}
use Rattle.rules.specs.Shapes as shapes
use Rattle.tokens.specs.Parts.{id_gives}
use Rattle.line_forms.specs.Forms.{form_of, name_in, ended}
use Rattle.line_forms.proofs.LineLaws.{id_below}
use Rattle.line_forms.proofs.cell_line.Goals as goal

pub returns-in_err-kind : goal.returns-in_err-kind
unfolding shapes.of₂ shapes.after shapes.whole id_gives
returns-in_err-kind c = (λ f. rw (c.id_at.ensures f, c.in_err-kind.was, c.from_residual.ensures), rw c.from_residual.ensures tt)

pub overflow_add-j : goal.overflow_add-j
overflow_add-j c = omega (arith, id_below _ _ _ _ c.id_at.ensures c.in_ok-kind.was)

pub returns-in_err-name : goal.returns-in_err-name
unfolding shapes.of₂ shapes.of₁ shapes.after shapes.whole id_gives
returns-in_err-name c = (λ f. rw (c.id_at.ensures f, c.in_ok-kind.was, c.id_at-2.ensures f, c.in_err-name.was, c.from_residual-in_err-name.ensures), rw c.from_residual-in_err-name.ensures tt)

pub overflow_add-j-2 : goal.overflow_add-j-2
overflow_add-j-2 c = omega (arith, id_below _ _ _ _ c.id_at.ensures c.in_ok-kind.was)

pub returns : goal.returns
unfolding shapes.of₂ shapes.of₁ shapes.after shapes.give shapes.whole id_gives ended form_of name_in
returns c = (λ f. rw (c.id_at.ensures f, c.in_ok-kind.was, c.id_at-2.ensures f, c.in_ok-name.was) (c.finished.ensures.0 f), c.finished.ensures.1 tt)

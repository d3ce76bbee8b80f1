-- The integer, then the end.
use native.Mathlib.Omega.{arith}
use Rattle.rules.specs.Shapes as shapes
use Rattle.tokens.specs.Parts.{integer_gives}
use Rattle.line_forms.specs.Forms.{form_of, ended}
use Rattle.line_forms.proofs.LineLaws.{integer-below}
use Rattle.line_forms.proofs.autoidx_line.Goals as goal

pub returns-in_err-z : goal.returns-in_err-z
unfolding shapes.of₁ shapes.after shapes.whole integer_gives
returns-in_err-z c = (λ f. rw (c.integer_at.ensures f, c.in_err-z.was, c.from_residual.ensures), rw c.from_residual.ensures tt)

pub overflow_add-i : goal.overflow_add-i
overflow_add-i c = omega (arith, integer-below _ _ _ _ c.integer_at.ensures c.in_ok-z.was)

pub returns : goal.returns
unfolding shapes.of₁ shapes.after shapes.give shapes.whole integer_gives ended form_of
returns c = (λ f. rw (c.integer_at.ensures f, c.in_ok-z.was) (c.finished.ensures.0 f), c.finished.ensures.1 tt)

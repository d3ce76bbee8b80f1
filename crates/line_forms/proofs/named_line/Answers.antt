-- The name, then the end, whichever of the two it is.
use native.Mathlib.Omega.{arith}
use Rattle.rules.specs.Shapes as shapes
use Rattle.tokens.specs.Parts.{id_gives}
use Rattle.line_forms.specs.Forms.{form_of, name_in, ended}
use Rattle.line_forms.proofs.LineLaws.{id_below}
use Rattle.line_forms.proofs.named_line.Goals.{then-process, else-process}
use Rattle.line_forms.proofs.named_line.Goals as goal

pub returns-in_err-name : goal.returns-in_err-name
unfolding shapes.of₁ shapes.after shapes.whole id_gives
returns-in_err-name c = (λ f. rw (c.id_at.ensures f, c.in_err-name.was, c.from_residual.ensures), rw c.from_residual.ensures tt)

pub overflow_add-i : goal.overflow_add-i
overflow_add-i c = omega (arith, id_below _ _ _ _ c.id_at.ensures c.in_ok-name.was)

pub returns : goal.returns
unfolding shapes.of₁ shapes.after shapes.give shapes.whole id_gives ended form_of name_in
returns c =
    elim c.if-process.branch [
      | then-process w ↦ (λ f. rw (c.id_at.ensures f, c.in_ok-name.was, w.if-process.true) (rw w.form-is at (c.finished.ensures.0 f)), rw w.form-is at c.finished.ensures.1 tt)
      | else-process w ↦ (λ f. rw (c.id_at.ensures f, c.in_ok-name.was, w.if-process.false) (rw w.form-is at (c.finished.ensures.0 f)), rw w.form-is at c.finished.ensures.1 tt)
    ]

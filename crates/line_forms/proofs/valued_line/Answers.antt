-- The name, the constant, then the end, whichever of the two it is.
use native.Mathlib.Omega.{arith}
use Rattle.rules.specs.Shapes as shapes
use Rattle.tokens.specs.Parts.{id_gives, literal_gives}
use Rattle.line_forms.specs.Forms.{form_of, name_in, ended}
use Rattle.line_forms.proofs.LineLaws.{id_below}
use Rattle.line_forms.proofs.valued_line.Goals.{then-attribute, else-attribute}
use Rattle.line_forms.proofs.valued_line.Goals as goal

pub returns-in_err-name : goal.returns-in_err-name
unfolding shapes.of₂ shapes.after shapes.whole id_gives
returns-in_err-name c = (λ f. rw (c.id_at.ensures f, c.in_err-name.was, c.from_residual.ensures), λ _. rw c.from_residual.ensures tt)

pub overflow_add-j : goal.overflow_add-j
overflow_add-j c = omega (arith, id_below _ _ _ _ c.id_at.ensures c.in_ok-name.was)

pub returns-in_err-value : goal.returns-in_err-value
unfolding shapes.of₂ shapes.of₁ shapes.after shapes.whole id_gives literal_gives
returns-in_err-value c = (λ f. rw (c.id_at.ensures f, c.in_ok-name.was, c.literal_at.ensures.0 f, c.in_err-value.was, c.from_residual-in_err-value.ensures), λ _. rw c.from_residual-in_err-value.ensures tt)

pub overflow_add-j-2 : goal.overflow_add-j-2
overflow_add-j-2 c = omega (arith, id_below _ _ _ _ c.id_at.ensures c.in_ok-name.was)

pub returns : goal.returns
unfolding shapes.of₂ shapes.of₁ shapes.after shapes.give shapes.whole id_gives literal_gives ended form_of name_in
returns c =
    let row = rw c.in_ok-value.was at c.literal_at.ensures.1 in
    elim c.if-attribute.branch [
      | then-attribute w ↦ (
        λ f. rw (c.id_at.ensures f, c.in_ok-name.was, c.literal_at.ensures.0 f, c.in_ok-value.was, w.if-attribute.true) (rw w.form-is at (c.finished.ensures.0 f)),
        λ h. rw w.form-is at c.finished.ensures.1 (_, row),
      )
      | else-attribute w ↦ (
        λ f. rw (c.id_at.ensures f, c.in_ok-name.was, c.literal_at.ensures.0 f, c.in_ok-value.was, w.if-attribute.false) (rw w.form-is at (c.finished.ensures.0 f)),
        λ h. rw w.form-is at c.finished.ensures.1 (h, (_, row)),
      )
    ]

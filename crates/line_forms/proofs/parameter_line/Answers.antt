-- The name, the constant if there is one, then the end.
use native.Mathlib.Omega.{arith}
use Rattle.rules.specs.Shapes as shapes
use Rattle.tokens.specs.Parts.{id_gives, literal_gives}
use Rattle.line_forms.specs.Forms.{form_of, name_in, value_in, ended}
use Rattle.tokens.proofs.TokenLaws.{line-end}
use Rattle.line_forms.proofs.LineLaws.{id_below, present-thing}
use Rattle.line_forms.proofs.parameter_line.Goals as goal

pub returns-in_err-name : goal.returns-in_err-name
unfolding shapes.of₂ shapes.after shapes.whole id_gives
returns-in_err-name c = (λ f. rw (c.id_at.ensures f, c.in_err-name.was, c.from_residual.ensures), rw c.from_residual.ensures tt)

pub overflow_add-j : goal.overflow_add-j
overflow_add-j c = omega (arith, id_below _ _ _ _ c.id_at.ensures c.in_ok-name.was)

pub returns-then-tokens-j : goal.returns-then-tokens-j
unfolding shapes.of₂ shapes.of₁ shapes.after shapes.give shapes.whole shapes.or_end shapes.whole_by id_gives form_of name_in value_in
returns-then-tokens-j c = (λ f. rw (c.id_at.ensures f, c.in_ok-name.was, line-end f _ _ c.if-tokens-j.true), tt)

pub returns-in_err-literal_at : goal.returns-in_err-literal_at
unfolding shapes.of₂ shapes.of₁ shapes.after shapes.whole id_gives literal_gives
returns-in_err-literal_at c = (λ f. rw (c.id_at.ensures f, c.in_ok-name.was, present-thing _ f _ _ c.if-tokens-j.false, c.literal_at.ensures.0 f, c.in_err-literal_at.was, c.from_residual-in_err-literal_at.ensures), rw c.from_residual-in_err-literal_at.ensures tt)

pub returns : goal.returns
unfolding shapes.of₂ shapes.of₁ shapes.after shapes.give shapes.whole id_gives literal_gives ended form_of name_in value_in
returns c = (
  λ f. rw (c.id_at.ensures f, c.in_ok-name.was, present-thing _ f _ _ c.if-tokens-j.false, c.literal_at.ensures.0 f, c.in_ok-literal_at.was) (c.finished.ensures.0 f),
  c.finished.ensures.1 (_, rw c.in_ok-literal_at.was at c.literal_at.ensures.1),
)

-- By the first digit, if there is one.
use mathlib.Core.Path.{◌∙◌, sym}
use Rattle.literals.proofs.CodeLaws.{filler-none, filler-zero, filler-same}
use Rattle.literals.proofs.filler_code.Goals as goal

pub returns-then-ds-eq0 : goal.returns-then-ds-eq0
returns-then-ds-eq0 c = c.digit_code.ensures ∙ filler-none _ c.if-ds-eq0.true

pub returns-then-top-digit_code : goal.returns-then-top-digit_code
returns-then-top-digit_code c =
    c.digit_code-then-top-digit_code.ensures
    ∙ filler-zero _ c.if-ds-eq0.false (sym c.digit_code-top.ensures ∙ c.if-top-digit_code.true ∙ c.digit_code-2.ensures)

pub returns : goal.returns
returns c =
    c.digit_code-top.ensures
    ∙ filler-same _ c.if-ds-eq0.false (λ e. c.if-top-digit_code.false (c.digit_code-top.ensures ∙ e ∙ sym c.digit_code-2.ensures))

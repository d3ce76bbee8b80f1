-- Rows are left, or none is.
use Rattle.line_forms.proofs.LineLaws.{rows_left, no_rows}
use Rattle.line_forms.proofs.finished.Goals as goal

pub returns-then-i-tokens : goal.returns-then-i-tokens
returns-then-i-tokens c = (λ f. rows_left _ f _ _ c.if-i-tokens.true, λ _. tt)

pub returns : goal.returns
returns c = (λ f. no_rows _ f _ _ c.if-i-tokens.false, λ h. h)

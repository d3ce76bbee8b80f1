-- The start, then the digits.
-- Assumes nothing.
use mathlib.Core.Path.{sym, ◌∙◌}
use borrow.Author.Tests.{not-true, not-false}
use Rattle.row_statements.proofs.CodeLaws.{value-start, value_not, tells-value}
use Rattle.row_statements.proofs.statements.value_at.Goals as goal

pub returns-then-a-u : goal.returns-then-a-u
returns-then-a-u c = value-start _ _ _ _ _ c.if-a-u.true

pub returns-then-not-digits_stand : goal.returns-then-not-digits_stand
returns-then-not-digits_stand c = value_not _ _ _ _ _ (sym c.digits_stand.ensures ∙ not-true _ c.if-not-digits_stand.true-raw)

pub returns : goal.returns
returns c = tells-value _ _ _ _ _ c.if-a-u.false (sym c.digits_stand.ensures ∙ not-false _ c.if-not-digits_stand.false-raw)

-- The start, then the bytes.
-- Assumes nothing.
use mathlib.Core.Path.{sym, ◌∙◌}
use borrow.Author.Tests.{not-true, not-false}
use Rattle.row_statements.proofs.CodeLaws.{text-start, text-not, tells-text}
use Rattle.row_statements.proofs.statements.text_at.Goals as goal

pub returns-then-a-u : goal.returns-then-a-u
returns-then-a-u c = text-start _ _ _ _ _ c.if-a-u.true

pub returns-then-not-text_stands : goal.returns-then-not-text_stands
returns-then-not-text_stands c = text-not _ _ _ _ _ (sym c.text_stands.ensures ∙ not-true _ c.if-not-text_stands.true-raw)

pub returns : goal.returns
returns c = tells-text _ _ _ _ _ c.if-a-u.false (sym c.text_stands.ensures ∙ not-false _ c.if-not-text_stands.false-raw)

-- The name, then the row.
-- Assumes nothing.
use mathlib.Core.Path.{refl, sym, ◌∙◌}
use borrow.Author.Tests.{not-true, not-false}
use Rattle.rules.specs.Layout.{padded, row}
use Rattle.tables.specs.Row.{words}
use Rattle.row_statements.proofs.ReadLaws.{named-not, named-settled}
use Rattle.row_statements.proofs.statements.named.Goals as goal

pub returns-then-not-name_stands : goal.returns-then-not-name_stands
returns-then-not-name_stands c = named-not _ _ _ _ (sym c.name_stands.ensures ∙ not-true _ c.if-not-name_stands.true-raw)

pub returns : goal.returns
unfolding words row padded
returns c = named-settled _ _ _ _ (sym c.name_stands.ensures ∙ not-false _ c.if-not-name_stands.false-raw) _ refl _ c.settle.ensures

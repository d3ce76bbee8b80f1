-- The name, the constant, then the row.
-- Assumes nothing.
use mathlib.Core.Path.{refl, sym, ◌∙◌}
use borrow.Author.Tests.{not-true, not-false}
use Rattle.rules.specs.Layout.{padded, row}
use Rattle.tables.specs.Row.{words}
use Rattle.row_statements.proofs.ReadLaws.{valued_not, valued-lacks, valued-settled}
use Rattle.row_statements.proofs.statements.valued.Goals as goal

pub returns-then-not-name_stands : goal.returns-then-not-name_stands
returns-then-not-name_stands c = valued_not _ _ _ _ _ _ _ (sym c.name_stands.ensures ∙ not-true _ c.if-not-name_stands.true-raw)

pub returns : goal.returns
unfolding words row padded
returns c = valued-settled _ _ _ _ _ _ _ (sym c.name_stands.ensures ∙ not-false _ c.if-not-name_stands.false-raw) _ _ _ c.constant_at.ensures c.in_ok-held.was _ refl _ c.settle.ensures

pub returns-in_err-held : goal.returns-in_err-held
returns-in_err-held c = rw c.from_residual.ensures (valued-lacks _ _ _ _ _ _ _ _ c.constant_at.ensures c.in_err-held.was)

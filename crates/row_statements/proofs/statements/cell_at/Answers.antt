use mathlib.Core.Path.{refl, sym, ◌∙◌}
use native.Mathlib.Omega.{arith}
use borrow.Author.Tests.{not-true, not-false}
use Rattle.rules.specs.Layout.{padded, row}
use Rattle.tables.specs.Row.{words}
use Rattle.row_statements.proofs.PartLaws.{name-few}
use Rattle.row_statements.proofs.KindLaws.{cell-type, cell-name, cell-settled}
use Rattle.row_statements.proofs.statements.cell_at.Goals as goal

pub returns-then-not-name_stands : goal.returns-then-not-name_stands
returns-then-not-name_stands c = cell-type _ _ _ (sym c.name_stands.ensures ∙ not-true _ c.if-not-name_stands.true-raw)

pub overflow_add-second : goal.overflow_add-second
overflow_add-second c = omega (arith, c.requires, name-few _ _ _ (sym c.name_stands.ensures ∙ not-false _ c.if-not-name_stands.false-raw))

pub returns-then-not-name_stands-2 : goal.returns-then-not-name_stands-2
returns-then-not-name_stands-2 c = cell-name _ _ _ (sym c.name_stands-2.ensures ∙ not-true _ c.if-not-name_stands-2.true-raw)

pub overflow_add-r : goal.overflow_add-r
overflow_add-r c = omega (arith, name-few _ _ _ (sym c.name_stands.ensures ∙ not-false _ c.if-not-name_stands.false-raw), name-few _ _ _ (sym c.name_stands-2.ensures ∙ not-false _ c.if-not-name_stands-2.false-raw))

pub returns : goal.returns
unfolding words row padded
returns c = cell-settled _ _ _ (sym c.name_stands.ensures ∙ not-false _ c.if-not-name_stands.false-raw) (sym c.name_stands-2.ensures ∙ not-false _ c.if-not-name_stands-2.false-raw) _ refl _ c.settle.ensures

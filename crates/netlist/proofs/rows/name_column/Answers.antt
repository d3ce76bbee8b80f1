-- `name_column` meets its contract.
-- Assumes nothing.
use borrow.Author.Tests.{eq-eqb, ne_eqb}
use Rattle.netlist.specs.Rows.{name_column}
use Rattle.netlist.proofs.rows.name_column.Goals as goal

pub returns-then-kind-eq-CELL_KIND : goal.returns-then-kind-eq-CELL_KIND
unfolding name_column
returns-then-kind-eq-CELL_KIND c = rw (eq-eqb _ _ c.if-kind-eq-CELL_KIND.true)

pub returns-else-kind-eq-CELL_KIND : goal.returns-else-kind-eq-CELL_KIND
unfolding name_column
returns-else-kind-eq-CELL_KIND c = rw (ne_eqb _ _ c.if-kind-eq-CELL_KIND.false)

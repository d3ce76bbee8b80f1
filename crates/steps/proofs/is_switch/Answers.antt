-- The row's kind, then its step.
-- Assumes nothing.
use borrow.Author.Tests.{ne_eqb, eq-eqb}
use Rattle.netlist.specs.Rows.{kind_at}
use Rattle.steps.specs.Steps.{switch_row}
use Rattle.steps.proofs.is_switch.Goals as goal

pub returns-then-column-ne-STEP_KIND : goal.returns-then-column-ne-STEP_KIND
unfolding switch_row kind_at
returns-then-column-ne-STEP_KIND c = rw (← c.column.ensures, ne_eqb _ _ c.if-column-ne-STEP_KIND.true)

pub returns : goal.returns
unfolding switch_row kind_at
returns c = rw (← c.column.ensures, ← c.column-2.ensures, eq-eqb _ _ c.if-column-ne-STEP_KIND.false)

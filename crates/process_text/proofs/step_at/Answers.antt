-- By the test.
-- Assumes nothing.
use borrow.Author.Tests.{eq-eqb, ne_eqb}
use Rattle.process_text.specs.Rows.{step_at}
use Rattle.process_text.proofs.step_at.Goals as goal

pub returns-then-row_kind-eq-STEP_KIND : goal.returns-then-row_kind-eq-STEP_KIND
unfolding step_at
returns-then-row_kind-eq-STEP_KIND c = rw (← c.row_kind.ensures, eq-eqb c.row_kind.result 13 c.if-row_kind-eq-STEP_KIND.true) c.column.ensures

pub returns : goal.returns
unfolding step_at
returns c = rw (← c.row_kind.ensures, ne_eqb c.row_kind.result 13 c.if-row_kind-eq-STEP_KIND.false)

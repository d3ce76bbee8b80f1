-- By the tests.
-- Assumes nothing.
use borrow.Author.Tests.{eq-eqb, ne_eqb}
use native.Mathlib.Omega.{arith}
use Rattle.process_text.specs.Rows.{opened_by}
use Rattle.process_text.proofs.opened_by.Goals as goal

pub returns-then-kind-eq-END_KIND : goal.returns-then-kind-eq-END_KIND
unfolding opened_by
returns-then-kind-eq-END_KIND c = rw (eq-eqb c.args.kind 12 c.if-kind-eq-END_KIND.true) c.saturating_sub.ensures

pub returns-then-step-eq-SWITCH_STEP : goal.returns-then-step-eq-SWITCH_STEP
unfolding opened_by
returns-then-step-eq-SWITCH_STEP c = rw (ne_eqb c.args.kind 12 c.if-kind-eq-END_KIND.false, eq-eqb c.args.step 20 c.if-step-eq-SWITCH_STEP.true)

pub returns : goal.returns
unfolding opened_by
returns c = rw (ne_eqb c.args.kind 12 c.if-kind-eq-END_KIND.false, ne_eqb c.args.step 20 c.if-step-eq-SWITCH_STEP.false) (omega arith)

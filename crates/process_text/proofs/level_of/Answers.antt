-- By the tests.
-- Assumes nothing.
use borrow.Author.Tests.{eq-eqb, ne_eqb}
use Rattle.process_text.specs.Rows.{level_of}
use Rattle.process_text.proofs.level_of.Goals as goal

pub returns-then-kind-eq-END_KIND : goal.returns-then-kind-eq-END_KIND
unfolding level_of
returns-then-kind-eq-END_KIND c = rw (eq-eqb c.args.kind 12 c.if-kind-eq-END_KIND.true)

pub returns-then-step-eq-CASE_STEP : goal.returns-then-step-eq-CASE_STEP
unfolding level_of
returns-then-step-eq-CASE_STEP c = rw (ne_eqb c.args.kind 12 c.if-kind-eq-END_KIND.false, eq-eqb c.args.step 21 c.if-step-eq-CASE_STEP.true)

pub returns-then-is_sync : goal.returns-then-is_sync
unfolding level_of
returns-then-is_sync c = rw (ne_eqb c.args.kind 12 c.if-kind-eq-END_KIND.false, ne_eqb c.args.step 21 c.if-step-eq-CASE_STEP.false, ← c.is_sync.ensures, c.if-is_sync.true)

pub returns : goal.returns
unfolding level_of
returns c = rw (ne_eqb c.args.kind 12 c.if-kind-eq-END_KIND.false, ne_eqb c.args.step 21 c.if-step-eq-CASE_STEP.false, ← c.is_sync.ensures, c.if-is_sync.false)

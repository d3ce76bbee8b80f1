-- `place::step_scope` meets its contract.
use mathlib.Core.Path.{sym, ◌∙◌}
use borrow.Author.Tests.{eq-eqb, ne_eqb}
use Rattle.context.specs.Place.{step_scope}
use Rattle.context.proofs.place.step_scope.Goals as goal

pub returns-then-step-eq-SWITCH_STEP : goal.returns-then-step-eq-SWITCH_STEP
unfolding step_scope
returns-then-step-eq-SWITCH_STEP c = rw (eq-eqb _ _ c.if-step-eq-SWITCH_STEP.true)

pub returns-then-step-eq-CASE_STEP : goal.returns-then-step-eq-CASE_STEP
unfolding step_scope
returns-then-step-eq-CASE_STEP c = rw (ne_eqb _ _ c.if-step-eq-SWITCH_STEP.false, eq-eqb _ _ c.if-step-eq-CASE_STEP.true)

pub returns-then-is_sync : goal.returns-then-is_sync
unfolding step_scope
returns-then-is_sync c = rw (ne_eqb _ _ c.if-step-eq-SWITCH_STEP.false, ne_eqb _ _ c.if-step-eq-CASE_STEP.false, sym c.is_sync.ensures ∙ c.if-is_sync.true)

pub returns : goal.returns
unfolding step_scope
returns c = rw (ne_eqb _ _ c.if-step-eq-SWITCH_STEP.false, ne_eqb _ _ c.if-step-eq-CASE_STEP.false, sym c.is_sync.ensures ∙ c.if-is_sync.false)

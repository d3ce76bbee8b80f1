-- By the step's code.
-- Assumes nothing.
use Rattle.steps.specs.StepLaws.{case-case, case-switch, case-attributed, case-assign}
use Rattle.steps.proofs.case_step.Goals as goal

pub returns-then-step-eq-CASE_STEP : goal.returns-then-step-eq-CASE_STEP
returns-then-step-eq-CASE_STEP c = case-case _ _ _ c.if-step-eq-CASE_STEP.true

pub returns-then-step-eq-SWITCH_STEP : goal.returns-then-step-eq-SWITCH_STEP
returns-then-step-eq-SWITCH_STEP c = case-switch _ _ _ c.if-step-eq-SWITCH_STEP.true

pub returns-then-attributed : goal.returns-then-attributed
returns-then-attributed c = case-attributed _ _ c.if-step-eq-CASE_STEP.false c.if-step-eq-SWITCH_STEP.false _ c.if-attributed.true

pub returns : goal.returns
returns c = case-assign _ _ c.if-step-eq-CASE_STEP.false c.if-step-eq-SWITCH_STEP.false _ c.if-attributed.false

-- By the step's code.
-- Assumes nothing.
use Rattle.steps.specs.SearchLaws.{asked-switch, asked-bit, asked-nothing}
use Rattle.steps.proofs.asked_width.Goals as goal

pub returns-then-step-eq-CASE_STEP : goal.returns-then-step-eq-CASE_STEP
returns-then-step-eq-CASE_STEP c = asked-switch _ _ _ c.if-step-eq-CASE_STEP.true _ c.open_switch.ensures

pub returns-then-within : goal.returns-then-within
returns-then-within c = asked-bit _ _ _ c.if-step-eq-CASE_STEP.false c.within.ensures c.if-within.true

pub returns : goal.returns
returns c = asked-nothing _ _ _ c.if-step-eq-CASE_STEP.false c.within.ensures c.if-within.false

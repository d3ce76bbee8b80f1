-- By the step's code.
-- Assumes nothing.
use Rattle.steps.specs.StepLaws.{root-switch, root-attributed, root-other}
use Rattle.steps.proofs.process_step.Goals as goal

pub returns-then-step-eq-SWITCH_STEP : goal.returns-then-step-eq-SWITCH_STEP
returns-then-step-eq-SWITCH_STEP c = root-switch _ _ c.if-step-eq-SWITCH_STEP.true

pub returns-then-attributed : goal.returns-then-attributed
returns-then-attributed c = root-attributed _ _ c.if-attributed.true c.if-step-eq-SWITCH_STEP.false

pub returns : goal.returns
returns c = rw c.is_sync.ensures (root-other _ _ c.if-attributed.false c.if-step-eq-SWITCH_STEP.false)

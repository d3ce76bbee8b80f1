-- By the step's code.
-- Assumes nothing.
use Rattle.steps.specs.StepLaws.{fits-any, fits-two, fits_one, fits-none}
use Rattle.steps.proofs.arity_fits.Goals as goal

pub returns-then-step-eq-CASE_STEP : goal.returns-then-step-eq-CASE_STEP
returns-then-step-eq-CASE_STEP c = fits-any _ _ c.if-step-eq-CASE_STEP.true

pub returns-then-step : goal.returns-then-step
returns-then-step c = fits-two _ _ c.if-step-eq-CASE_STEP.false c.if-step.true

pub returns-then-step-within : goal.returns-then-step-within
returns-then-step-within c = fits_one _ _ c.if-step-eq-CASE_STEP.false c.if-step.false c.within.ensures c.if-step-within.true

pub returns : goal.returns
returns c = fits-none _ _ c.if-step-eq-CASE_STEP.false c.if-step.false c.within.ensures c.if-step-within.false c.within-2.ensures

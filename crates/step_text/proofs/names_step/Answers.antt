-- One of twelve codes.
-- Assumes nothing.
use mathlib.Core.Path.{refl}
use Rattle.step_text.specs.Steps.{names_step}
use Rattle.step_text.proofs.names_step.Goals as goal

pub returns : goal.returns
unfolding names_step
returns c = refl

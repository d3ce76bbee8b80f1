-- Both bounds.
-- Assumes nothing.
use mathlib.Core.Path.{refl}
use Rattle.rules.specs.Bytes.{within}
use Rattle.steps.proofs.within.Goals as goal

pub returns : goal.returns
unfolding within
returns c = refl

-- Both bounds.
-- Assumes nothing.
use mathlib.Core.Path.{refl}
use Rattle.context.specs.Place.{is_sync}
use Rattle.steps.proofs.is_sync.Goals as goal

pub returns : goal.returns
unfolding is_sync
returns c = refl

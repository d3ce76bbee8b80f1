-- The codes of syncs stand in one row.
-- Assumes nothing.
use mathlib.Core.Path.{refl}
use Rattle.context.specs.Place.{is_sync}
use Rattle.process_text.proofs.is_sync.Goals as goal

pub returns : goal.returns
unfolding is_sync
returns c = refl

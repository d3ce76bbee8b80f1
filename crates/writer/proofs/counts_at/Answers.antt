-- The counts as the place has them.
-- Assumes nothing.
use mathlib.Core.Path.{refl}
use Rattle.writer.proofs.counts_at.Goals as goal

pub returns : goal.returns
returns c = refl

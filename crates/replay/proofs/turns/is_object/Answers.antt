-- Kind by kind.
-- Assumes nothing.
use Rattle.replay.proofs.PlaceLaws.{object-kinds}
use Rattle.replay.proofs.turns.is_object.Goals as goal

pub returns : goal.returns
returns c = object-kinds _

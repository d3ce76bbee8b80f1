-- The three kinds.
-- Assumes nothing.
use Rattle.replay.proofs.PlaceLaws.{cell-kinds}
use Rattle.replay.proofs.turns.is_cell_kind.Goals as goal

pub returns : goal.returns
returns c = cell-kinds _

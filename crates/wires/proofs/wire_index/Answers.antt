-- `wire_index` meets its contract.
-- Assumes nothing.
use Rattle.wires.specs.Rows.{wire_of}
use Rattle.wires.proofs.wire_index.Goals as goal

pub returns : goal.returns
unfolding wire_of
returns c = rw (← c.column-width.ensures, ← c.column-offset.ensures, ← c.column.ensures) (c.author_index.ensures _ _)

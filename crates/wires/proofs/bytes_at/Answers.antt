-- `bytes_at` meets its contract: the columns lie in the row.
-- Assumes nothing.
use Rattle.wires.specs.Rows.{span_at}
use Rattle.wires.proofs.bytes_at.Goals as goal

pub returns : goal.returns
unfolding span_at
returns c = rw (← c.column-start.ensures, ← c.column-size.ensures) c.part.ensures

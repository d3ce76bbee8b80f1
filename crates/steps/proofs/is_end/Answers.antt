-- The row's kind.
-- Assumes nothing.
use Rattle.netlist.specs.Rows.{kind_at}
use Rattle.steps.specs.Steps.{end_row}
use Rattle.steps.proofs.is_end.Goals as goal

pub returns : goal.returns
unfolding end_row kind_at
returns c = rw c.column.ensures

-- `kind_at` meets its contract.
-- Assumes nothing.
use Rattle.netlist.specs.Rows.{kind_at}
use Rattle.netlist.proofs.rows.kind_at.Goals as goal

pub returns : goal.returns
unfolding kind_at
returns c = c.column.ensures

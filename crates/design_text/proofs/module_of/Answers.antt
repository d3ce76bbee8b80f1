-- By the ranges of its wires.
-- Assumes nothing.
use Rattle.design_text.specs.Rows.{module_at}
use Rattle.design_text.proofs.module_of.Goals as goal

pub returns : goal.returns
unfolding module_at
returns c = rw (← c.module_wires-range.ensures)

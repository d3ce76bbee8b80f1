-- The rows of the module's wires.
-- Assumes nothing.
use Rattle.rename_rules.proofs.module_of.Goals as goal

pub returns : goal.returns
returns c = rw c.module_wires-own.ensures

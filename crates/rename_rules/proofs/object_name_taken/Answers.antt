-- `object_name_taken` meets its contract.
-- Assumes nothing.
use Rattle.rules.specs.Statements.{code}
use Rattle.rename_rules.specs.Judged.{object_taken}
use Rattle.rename_rules.proofs.object_name_taken.Goals as goal

pub returns : goal.returns
unfolding object_taken code
returns c = rw (← c.module_rows-r.ensures) c.name_taken.ensures

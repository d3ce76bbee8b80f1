-- `is_named` meets its contract.
-- Assumes nothing.
use Rattle.std.proofs.Common.{rules}
use Rattle.rules.specs.Bytes.{any}
use Rattle.rules.specs.Statements.{code}
use Rattle.netlist.specs.Kinds.{of_kinds, has_name}
use Rattle.name_index.proofs.is_named.Goals as goal

pub returns-then-kind-ne-END_KIND : goal.returns-then-kind-ne-END_KIND
unfolding has_name of_kinds any code
returns-then-kind-ne-END_KIND c = search rules

pub returns-else-kind-ne-END_KIND : goal.returns-else-kind-ne-END_KIND
unfolding has_name of_kinds any code
returns-else-kind-ne-END_KIND c = search rules

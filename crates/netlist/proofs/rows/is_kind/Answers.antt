-- `is_kind` meets its contract.
-- Assumes nothing.
use Rattle.std.proofs.Common.{rules}
use Rattle.netlist.specs.Kinds.{is_kind}
use Rattle.netlist.proofs.rows.is_kind.Goals as goal

pub returns-then-kinds-kind-3 : goal.returns-then-kinds-kind-3
unfolding is_kind
returns-then-kinds-kind-3 c = search rules

pub returns-else-kinds-kind-3 : goal.returns-else-kinds-kind-3
unfolding is_kind
returns-else-kinds-kind-3 c = search rules

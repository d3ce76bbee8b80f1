-- `name_at` meets its contract: a name's columns lie in the row.
-- Assumes nothing.
use native.Mathlib.Omega.{arith}
use Rattle.netlist.specs.Rows.{name_from, name_at}
use Rattle.netlist.proofs.SearchLaws.{name-column-small}
use Rattle.netlist.proofs.rows.name_at.Goals as goal

pub bytes_at-requires : goal.bytes_at-requires
bytes_at-requires c = omega (arith, name-column-small c.kind_at.result)

pub returns : goal.returns
unfolding name_from name_at
returns c = rw (← c.kind_at.ensures, ← c.name_column-c.ensures) c.bytes_at.ensures

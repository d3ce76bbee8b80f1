use mathlib.Core.Path.{refl}
use Rattle.one_wire.proofs.RowLaws.{wire-row}
use Rattle.one_wire.proofs.wire_in.Goals as goal

pub returns : goal.returns
returns c = wire-row _ _ _ _ _ _ c.column.ensures c.column-2.ensures c.column-3.ensures refl

use mathlib.Core.Path.{◌≡◌}
use Rattle.one_wire.specs.Asked.{row_named}
use Rattle.one_wire.proofs.RowLaws.{From}
use Rattle.one_wire.proofs.find_wire.Given as goal

abbrev pub invariant-loop-k : goal.invariant-loop-k
invariant-loop-k l = From l.names l.wires l.name l.own l.k ≡ row_named l.names l.wires l.name l.own.count l.own.first

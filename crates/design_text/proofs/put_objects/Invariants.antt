-- The loop's invariant: the objects in the rows before k are written.
-- Assumes nothing.
use Prim.Native.Nat.{◌-◌}
use Rattle.netlist.specs.Tables.{tabled}
use Rattle.design_text.specs.Rows.{object_rows}
use Rattle.text.specs.Reaches.{Reaches}
use Rattle.design_text.proofs.put_objects.Given as goal

abbrev pub invariant-loop-k : goal.invariant-loop-k
invariant-loop-k l = Reaches l.at (object_rows (tabled l.design.names.now l.design.strings.now l.design.bits.now l.design.wires.now l.design.rows.now) l.m l.kind l.span.from l.span.from (l.span.to - l.span.from)) (object_rows (tabled l.design.names.now l.design.strings.now l.design.bits.now l.design.wires.now l.design.rows.now) l.m l.kind l.first l.k (l.span.to - l.k)) l.initial.out l.out l.end

-- The loop's invariant: the rows before k are written, but for attributes that wait, and no level is too deep.
-- Assumes nothing.
use Prim.Native.Nat.{◌-◌}
use Rattle.text.specs.Reaches.{Reaches}
use Rattle.netlist.specs.Tables.{tabled}
use Rattle.process_text.specs.Rows.{inside_rows}
use Rattle.process_text.specs.RowLaws.{Shallow}
use Rattle.process_text.proofs.put_inside.Given as goal

abbrev pub invariant-loop-k : goal.invariant-loop-k
invariant-loop-k l =
    Shallow l.z l.k
    × Reaches l.at (inside_rows (tabled l.design.names.now l.design.strings.now l.design.bits.now l.design.wires.now l.design.rows.now) l.m (record { opened = 0; level = 2 }) l.from l.from (l.to - l.from)) (inside_rows (tabled l.design.names.now l.design.strings.now l.design.bits.now l.design.wires.now l.design.rows.now) l.m l.z l.first l.k (l.to - l.k)) l.initial.out l.out l.end

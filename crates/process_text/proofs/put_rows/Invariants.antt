-- The loop's invariant: the lines of the rows before k are written.
-- Assumes nothing.
use Prim.Native.Nat.{◌-◌}
use Rattle.text.specs.Reaches.{Reaches}
use Rattle.netlist.specs.Tables.{tabled}
use Rattle.process_text.specs.Rows.{row_lines}
use Rattle.process_text.proofs.put_rows.Given as goal

abbrev pub invariant-loop-k : goal.invariant-loop-k
invariant-loop-k l =
    Reaches l.at (row_lines (tabled l.design.names.now l.design.strings.now l.design.bits.now l.design.wires.now l.design.rows.now) l.m l.level l.from (l.to - l.from)) (row_lines (tabled l.design.names.now l.design.strings.now l.design.bits.now l.design.wires.now l.design.rows.now) l.m l.level l.k (l.to - l.k)) l.initial.out l.out l.end

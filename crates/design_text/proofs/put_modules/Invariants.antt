-- The loop's invariant: the modules whose lines stand before row k are written, and there are as many as their lines.
-- Assumes nothing.
use Prim.Native.Nat.{◌-◌, ◌≤◌}
use Rattle.netlist.specs.Tables.{tabled}
use Rattle.design_text.specs.Rows.{module_rows}
use Rattle.text.specs.Reaches.{Reaches}
use Rattle.design_text.proofs.put_modules.Given as goal

abbrev pub invariant-loop-k : goal.invariant-loop-k
invariant-loop-k l = (l.number ≤ l.k) × Reaches l.at (module_rows (tabled l.design.names.now l.design.strings.now l.design.bits.now l.design.wires.now l.design.rows.now) l.counts 0 0 0 l.counts.statements) (module_rows (tabled l.design.names.now l.design.strings.now l.design.bits.now l.design.wires.now l.design.rows.now) l.counts l.number l.first l.k (l.counts.statements - l.k)) l.initial.out l.out l.end

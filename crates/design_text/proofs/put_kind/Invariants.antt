-- The loop's invariant: the lines of the rows before k are written.
-- Assumes nothing.
use Prim.Native.Nat.{◌-◌}
use Rattle.netlist.specs.Tables.{tabled}
use Rattle.design_text.specs.Rows.{kind_rows}
use Rattle.text.specs.Reaches.{Reaches}
use Rattle.design_text.proofs.put_kind.Given as goal

abbrev pub invariant-loop-k : goal.invariant-loop-k
invariant-loop-k l = Reaches l.at (kind_rows (tabled l.design.names.now l.design.strings.now l.design.bits.now l.design.wires.now l.design.rows.now) l.m l.kind l.level l.fn.span.from (l.fn.span.to - l.fn.span.from)) (kind_rows (tabled l.design.names.now l.design.strings.now l.design.bits.now l.design.wires.now l.design.rows.now) l.m l.kind l.level l.k (l.fn.span.to - l.k)) l.initial.out l.out l.end

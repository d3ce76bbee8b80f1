use Prim.Native.Nat.{◌-◌}
use lib.ListN.{length}
use Rattle.netlist.specs.Tables.{tabled}
use Rattle.name_index.specs.Index.{LinesIndexed}
use Rattle.goal.specs.Settled.{stop_of}
use Rattle.file_lines.specs.Lines.{Before}
use Rattle.file_lines.proofs.read_lines.Given as goal

abbrev pub invariant-loop-line : goal.invariant-loop-line
invariant-loop-line l = record {
  before : Before (stop_of l.goal l.name) l.f l.scratch l.standing.place l.standing.sums (tabled l.names l.strings l.bits l.wires l.rows) l.line;
  lines_indexed : LinesIndexed l.heads l.chain l.names l.wires l.rows l.standing.place.rows l.standing.place.wires;
}

abbrev pub decreases-loop-line : goal.decreases-loop-line
decreases-loop-line l = length l.f - l.line.start

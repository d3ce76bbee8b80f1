-- The invariant: every list of statements that the tables hold begins with those replayed, and their names are indexed.
-- Assumes nothing.
use Prim.Native.Nat.{◌-◌}
use Rattle.name_index.specs.Index.{key_at, Indexed}
use Rattle.row_statements.specs.Reads.{part_tables}
use Rattle.replay.proofs.LoopLaws.{Done}
use Rattle.replay.proofs.replay.Given as goal

abbrev pub invariant-loop-row : goal.invariant-loop-row
invariant-loop-row l = record {
  done : Done (part_tables l.design.names.now l.design.strings.now l.design.bits.now l.design.wires.now) l.design.rows.now l.behind.place l.behind.sums;
  indexed : Indexed l.heads l.chain (key_at l.design.names.now l.design.rows.now) l.behind.place.rows;
}

abbrev pub decreases-loop-row : goal.decreases-loop-row
decreases-loop-row l = 6882 - l.behind.place.rows

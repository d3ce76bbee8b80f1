-- The last such row of the first k is the last of all.
use Rattle.std.specs.Prelude.{◌≡◌}
use Rattle.show.specs.Rows.{wire_line}
use Rattle.show.proofs.wire_line.Given as goal

abbrev pub invariant-loop-k : goal.invariant-loop-k
invariant-loop-k l = wire_line l.rows l.total l.wire ≡ wire_line l.rows l.k l.wire

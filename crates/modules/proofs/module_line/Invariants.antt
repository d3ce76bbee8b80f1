-- The invariant: the lines are those of the first k rows, and not more than the number.
-- Assumes nothing.
use Prim.Native.Nat.{◌≤◌}
use mathlib.Core.Path.{◌≡◌}
use Rattle.modules.specs.Ranges.{lines_in}
use Rattle.modules.proofs.module_line.Given as goal

abbrev pub invariant-loop-k : goal.invariant-loop-k
invariant-loop-k l = record { lines_in : l.lines ≡ lines_in l.rows l.k; few : l.lines ≤ l.number }

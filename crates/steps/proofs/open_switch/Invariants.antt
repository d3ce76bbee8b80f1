-- The invariant: the switch that is open behind all rows is the one behind the first of them, if so many of theirs are closed.
-- Assumes nothing.
use Prim.Native.Nat.{◌+◌, ◌≤◌}
use mathlib.Core.Path.{◌≡◌}
use Rattle.steps.specs.Steps.{open_width}
use Rattle.steps.proofs.open_switch.Given as goal

abbrev pub invariant-loop-row : goal.invariant-loop-row
invariant-loop-row l = record { few : l.closed + l.row ≤ l.count; same : open_width l.rows l.count 0 ≡ open_width l.rows l.row l.closed }

-- The loop's invariant: the last rename of the wire among the first ones that are left is the last of all.
-- Assumes nothing.
use mathlib.Core.Path.{◌≡◌}
use Rattle.wire_names.specs.Now.{last_rename}
use Rattle.wire_names.proofs.last_rename.Given as goal

abbrev pub invariant-loop-last : goal.invariant-loop-last
invariant-loop-last l = last_rename l.rows l.from l.count l.m.0 l.wire.0 ≡ last_rename l.rows l.from l.last l.m.0 l.wire.0

-- The invariant: the first i renames stand behind the statements.
-- Assumes nothing.
use Rattle.std.specs.Prelude.{Some}
use Rattle.memory_check.specs.Renamed.{RenamesAre}
use Rattle.memory_check.proofs.all_renames.Given as goal

abbrev pub invariant-loop-i : goal.invariant-loop-i
invariant-loop-i l = RenamesAre l.design.names.now l.design.wires.now l.design.rows.now l.place l.i l.used (Some l.room)

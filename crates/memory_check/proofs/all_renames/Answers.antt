-- The invariant: the first i renames stand behind the statements.
-- Assumes nothing.
use native.Mathlib.Omega.{arith}
use Rattle.memory_check.proofs.RenameTurns.{renames-start, renames-more, renames-stuck}
use Rattle.memory_check.proofs.all_renames.Goals as goal

pub loop-i-init : goal.loop-i-init
loop-i-init c = renames-start _ _ _ _ _

pub loop-i-preserved : goal.loop-i-preserved
loop-i-preserved c = renames-more _ _ _ c.args.place _ _ _ c.loop-i.invariant _ c.one_rename.ensures _ c.in_ok-room.was

pub returns-in_err-room : goal.returns-in_err-room
returns-in_err-room c = rw c.from_residual.ensures (renames-stuck _ _ _ c.args.place _ _ _ c.loop-i.invariant _ c.one_rename.ensures _ c.loop-i-test.true c.in_err-room.was)

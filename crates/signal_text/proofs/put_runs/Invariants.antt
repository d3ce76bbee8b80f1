-- The loop's invariant: the runs from bit i up are written, and none of them goes on below it.
-- Assumes nothing.
use Prim.Native.Nat.{◌≤◌}
use lib.ListN.{length, drop}
use Rattle.text.specs.Written.{Written}
use Rattle.wire_names.specs.Now.{wires_in}
use Rattle.signal_runs.specs.Runs.{Apart}
use Rattle.signal_text.specs.Runs.{runs_text}
use Rattle.signal_text.proofs.put_runs.Given as goal

abbrev pub invariant-loop-i : goal.invariant-loop-i
invariant-loop-i l = (l.i ≤ length l.s) × Apart l.s l.i × Written l.at (runs_text (wires_in l.design.names.now l.design.wires.now l.design.rows.now l.m) (drop l.i l.s)) l.initial.out l.out l.end

abbrev pub decreases-loop-i : goal.decreases-loop-i
decreases-loop-i l = l.i

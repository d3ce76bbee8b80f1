-- The loop's invariant: what is left is the text of the signals from word `start` of the bits on.
-- Assumes nothing.
use Prim.Native.Nat.{◌*◌, ◌-◌, ◌≤◌}
use Rattle.text.specs.Reaches.{Reaches}
use Rattle.wire_names.specs.Now.{wires_in}
use Rattle.step_text.specs.StepLaws.{pieces_text}
use Rattle.step_text.proofs.put_signals.Given as goal

abbrev pub invariant-loop-left : goal.invariant-loop-left
invariant-loop-left l =
    (l.start ≤ 4294967295 * (4294967296 - l.left))
    × Reaches l.at (pieces_text (wires_in l.design.names.now l.design.wires.now l.design.rows.now l.m) l.comma l.design.bits.now l.width l.initial.start l.initial.left) (pieces_text (wires_in l.design.names.now l.design.wires.now l.design.rows.now l.m) l.comma l.design.bits.now l.width l.start l.left) l.initial.out l.out l.end

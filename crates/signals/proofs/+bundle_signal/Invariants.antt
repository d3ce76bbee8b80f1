-- The depth falls from a signal to its bundle, and a bundle's members have its own. The loop's invariant: the members from row i on are
-- those that were read and those from row `at` on.
use Prim.Native.Nat.{◌+◌, ◌-◌, ◌*◌, ◌/◌}
use lib.ListN.{length}
use Rattle.wires.specs.Rows.{wires_from}
use Rattle.signals.proofs.BundleLaws.{MembersOn}
use Rattle.signals.proofs.+bundle_signal.Given as goal

abbrev pub decreases-bundle : goal.decreases-bundle
decreases-bundle l = 2 * l.depth + 1

abbrev pub decreases-signal : goal.decreases-signal
decreases-signal l = 2 * l.depth

abbrev pub invariant-bundle-loop-scope : goal.invariant-bundle-loop-scope
invariant-bundle-loop-scope l =
    MembersOn l.f l.tokens (wires_from l.names l.wires l.scope.first l.scope.count) l.i l.depth l.o l.initial.scratch l.scratch l.at l.width l.fault

abbrev pub decreases-bundle-loop-scope : goal.decreases-bundle-loop-scope
decreases-bundle-loop-scope l = length l.tokens / 4 - l.at

-- `signals_from` meets its contract. The loop's invariant: the signals from row `from` on are those that were read and those from row `at` on.
-- Assumes nothing.
use Prim.Native.Nat.{◌-◌, ◌/◌}
use lib.ListN.{length}
use Rattle.wires.specs.Rows.{wires_from}
use Rattle.signal_list.proofs.ReadLaws.{ListOn}
use Rattle.signal_list.proofs.signals_from.Given as goal

abbrev pub invariant-loop-at : goal.invariant-loop-at
invariant-loop-at l =
    ListOn l.f l.tokens (wires_from l.names l.wires l.scope.first l.scope.count) l.from l.comma l.initial.scratch l.scratch l.at l.sum

abbrev pub decreases-loop-at : goal.decreases-loop-at
decreases-loop-at l = length l.tokens / 4 - l.at

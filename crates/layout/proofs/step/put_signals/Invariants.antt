-- The loop's invariant: the first k signals are stored.
use mathlib.Core.Path.{◌≡◌}
use mathlib.Core.List.{flat_map, reverse}
use Rattle.tables.specs.Store.{store}
use Rattle.netlist.specs.Steps.{pieces}
use Rattle.layout.proofs.step.put_signals.Given as goal

abbrev pub invariant-loop-k : goal.invariant-loop-k
invariant-loop-k l = l.bits ≡ store l.initial.bits l.at (flat_map reverse (pieces l.width l.k l.scratch))

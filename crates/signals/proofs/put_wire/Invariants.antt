-- The invariant: the first k codes, from the top, are stored.
-- Assumes nothing.
use mathlib.Core.Path.{◌≡◌}
use lib.ListN.{length, take}
use Rattle.rules.specs.Signals.{wire_bits}
use Rattle.tables.specs.Store.{store}
use Rattle.signals.specs.Held.{codes}
use Rattle.signals.proofs.put_wire.Given as goal

abbrev pub invariant-loop-k : goal.invariant-loop-k
invariant-loop-k l = (length l.scratch ≡ length l.initial.scratch) × (l.scratch ≡ store l.initial.scratch l.o (take l.k (codes (wire_bits l.number.0 0 l.width))))

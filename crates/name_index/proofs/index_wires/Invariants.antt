-- The invariant: the first k wires are indexed.
-- Assumes nothing.
use Prim.Native.Nat.{◌≤◌}
use mathlib.Core.Path.{◌≡◌}
use lib.ListN.{length}
use Rattle.name_index.specs.Index.{wire_key, Indexed}
use Rattle.name_index.proofs.index_wires.Given as goal

abbrev pub invariant-loop-k : goal.invariant-loop-k
invariant-loop-k l =
    Indexed l.heads l.chain (wire_key l.names l.wires) l.k × (length l.heads ≡ length l.initial.heads) × (length l.chain ≡ length l.initial.chain) × (l.count ≤ length l.chain)

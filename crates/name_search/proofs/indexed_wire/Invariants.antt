-- `indexed_wire` meets its contract. The invariant: the row reached is walked to, along the chain of the name's hash.
-- Assumes nothing.
use Prim.Native.Nat.{◌-◌}
use Rattle.name_search.proofs.WireLaws.{WireWalk}
use Rattle.name_search.proofs.indexed_wire.Given as goal

abbrev pub invariant-loop-at : goal.invariant-loop-at
invariant-loop-at l = WireWalk l.names l.wires l.first l.name l.count l.at

abbrev pub decreases-loop-at : goal.decreases-loop-at
decreases-loop-at l = l.at

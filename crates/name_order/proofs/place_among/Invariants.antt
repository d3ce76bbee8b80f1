-- The invariant: the name's place is in what is left.
-- Assumes nothing.
use Prim.Native.Nat.{◌-◌}
use mathlib.Core.List.{map}
use Rattle.byte_order.specs.Order.{Halved}
use Rattle.name_order.specs.Named.{name_in}
use Rattle.name_order.proofs.place_among.Given as goal

abbrev pub invariant-loop-left : goal.invariant-loop-left
invariant-loop-left l = Halved l.name (map (name_in l.design.names.now l.design.wires.now l.design.rows.now l.m) l.index) l.left.low l.left.high

abbrev pub decreases-loop-left : goal.decreases-loop-left
decreases-loop-left l = l.left.high - l.left.low

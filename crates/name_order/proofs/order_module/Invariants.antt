-- The invariant: the wires from the one reached on stand in order, in their part of the table.
-- Assumes nothing.
use Prim.Native.Nat.{◌+◌, ◌-◌}
use mathlib.Core.Path.{◌≡◌}
use Rattle.tables.specs.Store.{store}
use Rattle.byte_order.specs.Order.{index_up}
use Rattle.name_order.specs.Named.{name_in}
use Rattle.name_order.proofs.order_module.Given as goal

abbrev pub invariant-loop-wire : goal.invariant-loop-wire
invariant-loop-wire l = l.index ≡ store l.initial.index (l.start + l.wire) (index_up (name_in l.design.names.now l.design.wires.now l.design.rows.now l.m) (l.m.wires - l.wire) l.wire)

-- The invariant: the indexes of the first m modules stand in front.
-- Assumes nothing.
use mathlib.Core.Path.{◌≡◌}
use Rattle.tables.specs.Store.{store}
use Rattle.design_order.specs.Indexes.{indexes_in}
use Rattle.design_order.proofs.build_orders.Given as goal

abbrev pub invariant-loop-m : goal.invariant-loop-m
invariant-loop-m l = l.index ≡ store l.initial.index 0 (indexes_in l.design.names.now l.design.wires.now l.design.rows.now l.place l.renames l.m)

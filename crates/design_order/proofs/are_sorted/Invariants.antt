-- The invariant: the table begins with the indexes of the first m modules.
-- Assumes nothing.
use mathlib.Core.Path.{◌≡◌}
use lib.ListN.{length, take}
use Rattle.design_order.specs.Indexes.{indexes_in}
use Rattle.design_order.proofs.are_sorted.Given as goal

abbrev pub invariant-loop-m : goal.invariant-loop-m
invariant-loop-m l = take (length (indexes_in l.design.names.now l.design.wires.now l.design.rows.now l.place l.renames l.m)) l.index ≡ indexes_in l.design.names.now l.design.wires.now l.design.rows.now l.place l.renames l.m

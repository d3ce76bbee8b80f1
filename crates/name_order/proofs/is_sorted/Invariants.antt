-- The invariant: each entry in front of k stands behind one whose name comes before its own.
-- Assumes nothing.
use Prim.Native.Nat.{ℕ, ◌<◌}
use mathlib.Core.Path.{◌≡◌}
use mathlib.Core.Bool.{true}
use Rattle.byte_order.specs.Order.{stands_next}
use Rattle.name_order.specs.Named.{name_in}
use Rattle.name_order.proofs.is_sorted.Given as goal

abbrev pub invariant-loop-k : goal.invariant-loop-k
invariant-loop-k l = (j : ℕ) → j < l.k → stands_next (name_in l.design.names.now l.design.wires.now l.design.rows.now l.m) l.m.wires l.index j ≡ true

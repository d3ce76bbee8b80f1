-- The loop's invariant: the search from number k on is the whole search.
-- Assumes nothing.
use mathlib.Core.Path.{◌≡◌}
use Prim.Native.Nat.{◌-◌}
use Rattle.rename_rules.specs.Search.{search_now}
use Rattle.rename_rules.proofs.find_named.Given as goal

abbrev pub invariant-loop-k : goal.invariant-loop-k
invariant-loop-k l = search_now l.design.names.now l.design.wires.now l.design.rows.now l.m l.name l.m.wires 0 ≡ search_now l.design.names.now l.design.wires.now l.design.rows.now l.m l.name (l.m.wires - l.k) l.k

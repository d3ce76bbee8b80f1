-- The first j values are stored.
use Rattle.std.specs.Prelude.{◌≡◌, take}
use Rattle.tables.specs.Store.{store}
use Rattle.tables.proofs.store.Given as goal

abbrev pub invariant-loop-j : goal.invariant-loop-j
invariant-loop-j g l = l.table ≡ store l.initial.table l.at (take l.j l.values)

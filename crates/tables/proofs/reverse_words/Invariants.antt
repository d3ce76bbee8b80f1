-- The loop's invariant: the words of src from j to `to` are stored, last first.
use mathlib.Core.Path.{◌≡◌}
use Prim.Native.Nat.{◌≤◌}
use mathlib.Core.List.{reverse}
use lib.Seq.{slice}
use Rattle.tables.specs.Store.{store}
use Rattle.tables.proofs.reverse_words.Given as goal

abbrev pub invariant-loop-j : goal.invariant-loop-j
invariant-loop-j l = record { within : l.from ≤ l.j; stored : l.out ≡ store l.initial.out l.at (reverse (slice l.j l.to l.src)) }

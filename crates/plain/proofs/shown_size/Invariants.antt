-- The loop's invariant: the size of what the first i bytes become.
use mathlib.Core.Path.{◌≡◌}
use mathlib.Core.List.{flat_map}
use Prim.Native.Nat.{◌≤◌}
use lib.ListN.{length, take}
use Rattle.rules.specs.Plain.{low}
use Rattle.plain.proofs.shown_size.Given as goal

abbrev pub invariant-loop-b : goal.invariant-loop-b
invariant-loop-b l = (l.b-index ≤ length l.s) × (l.size ≡ length (flat_map low (take l.b-index l.s)))

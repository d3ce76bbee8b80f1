-- The loop's invariant: what the first i bytes become is put.
use mathlib.Core.List.{flat_map}
use Prim.Native.Nat.{◌≤◌}
use lib.ListN.{length, take}
use Rattle.rules.specs.Plain.{low}
use Rattle.plain.specs.Put.{PutAt}
use Rattle.plain.proofs.put_shown.Given as goal

abbrev pub invariant-loop-b : goal.invariant-loop-b
invariant-loop-b l = (l.b-index ≤ length l.s) × PutAt l.at (flat_map low (take l.b-index l.s)) l.initial.out l.out l.end

-- The loop's invariant: the first i bytes of s are written, each as it stands in a string.
use Prim.Native.Nat.{◌≤◌}
use mathlib.Core.List.{flat_map}
use lib.ListN.{length, take}
use Rattle.rules.specs.Text.{escaped}
use Rattle.text.specs.Written.{Written}
use Rattle.constant_text.proofs.put_mixed.Given as goal

abbrev pub invariant-loop-b : goal.invariant-loop-b
invariant-loop-b l = (l.b-index ≤ length l.s) × Written l.at (flat_map escaped (take l.b-index l.s)) l.initial.out l.out l.end

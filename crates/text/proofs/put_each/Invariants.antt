-- The loop's invariant: the first i bytes of s are written.
use Prim.Native.Nat.{◌≤◌}
use lib.ListN.{length, take}
use Rattle.text.specs.Written.{Written}
use Rattle.text.proofs.put_each.Given as goal

abbrev pub invariant-loop-b : goal.invariant-loop-b
invariant-loop-b l = (l.b-index ≤ length l.s) × Written l.at (take l.b-index l.s) l.initial.out l.out l.end

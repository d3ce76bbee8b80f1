-- The loop's invariant: i spaces are written.
use Prim.Native.Nat.{◌≤◌}
use lib.ListN.{replicate}
use Rattle.text.specs.Written.{Written}
use Rattle.text.proofs.put_spaces.Given as goal

abbrev pub invariant-loop : goal.invariant-loop
invariant-loop l = (l.counter ≤ l.n) × Written l.at (replicate l.counter 32) l.initial.out l.out l.end

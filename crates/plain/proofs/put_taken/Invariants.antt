-- The loop's invariant: what the bytes before i stand for is put.
use Prim.Native.Nat.{◌-◌}
use lib.ListN.{length}
use Rattle.plain.proofs.TakenLaws.{TakenTo}
use Rattle.plain.proofs.put_taken.Given as goal

abbrev pub invariant-loop-i : goal.invariant-loop-i
invariant-loop-i l = TakenTo l.form l.at l.i l.initial.out l.out l.end

abbrev pub decreases-loop-i : goal.decreases-loop-i
decreases-loop-i l = length l.form - l.i

-- `slices` meets its contract. The invariant: the slices from row i on are those that were read and those from row `at` on, and the bits
-- of those that were read are as many as the part's width, from the sum of their low bounds on. The table is written behind the last.
-- Assumes nothing.
use Prim.Native.Nat.{◌-◌, ◌/◌}
use lib.ListN.{length}
use Rattle.signals.proofs.SliceLaws.{SlicesOn}
use Rattle.signals.proofs.slices.Given as goal

abbrev pub invariant-loop-at : goal.invariant-loop-at
invariant-loop-at l = SlicesOn l.f l.tokens l.i l.o l.scratch l.initial.part.bits l.at l.part

abbrev pub decreases-loop-at : goal.decreases-loop-at
decreases-loop-at l = length l.tokens / 4 - l.at

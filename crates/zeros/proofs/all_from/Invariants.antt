-- The loop's invariant: what the values from i on tell is what those from `at` on tell.
use mathlib.Core.Path.{◌≡◌}
use Prim.Native.Nat.{◌-◌, ◌≤◌}
use lib.ListN.{length, drop}
use Rattle.rules.specs.Bytes.{all}
use Rattle.zeros.proofs.all_from.Given as goal

abbrev pub invariant-loop-i : goal.invariant-loop-i
invariant-loop-i g l =
    record {
      within : l.i ≤ length l.table;
      same : all (g.T.PartialEq.eq l.wanted) (drop l.i l.table) ≡ all (g.T.PartialEq.eq l.wanted) (drop l.at l.table);
    }

abbrev pub decreases-loop-i : goal.decreases-loop-i
decreases-loop-i g l = length l.table - l.i

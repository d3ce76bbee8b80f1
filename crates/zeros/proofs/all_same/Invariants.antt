-- The loop's invariant: what is found so far and what the values from the next on tell is what all of them tell.
use mathlib.Core.Path.{◌≡◌}
use mathlib.Core.Bool.{◌&&◌}
use lib.ListN.{drop}
use Rattle.rules.specs.Bytes.{all}
use Rattle.zeros.proofs.all_same.Given as goal

abbrev pub invariant-loop-value : goal.invariant-loop-value
invariant-loop-value g l = (l.same && all (g.T.PartialEq.eq l.wanted) (drop l.value-index l.part)) ≡ all (g.T.PartialEq.eq l.wanted) l.part

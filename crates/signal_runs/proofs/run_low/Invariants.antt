-- The loop's invariant: the bits from the one below j up to i are a run.
-- Assumes nothing.
use mathlib.Core.Path.{◌≡◌}
use mathlib.Core.List.{◌∷◌}
use Prim.Native.Nat.{◌-◌, ◌<◌}
use lib.ListN.{drop}
use Rattle.rules.specs.Text.{runs}
use Rattle.numbers.specs.Kinds.{signal_of}
use Rattle.signal_runs.specs.Runs.{first_run}
use Rattle.signal_runs.proofs.run_low.Given as goal

abbrev pub invariant-loop-j : goal.invariant-loop-j
invariant-loop-j l = (l.j - 1 < l.i) × (runs (signal_of (drop (l.j - 1) l.s)) ≡ first_run (drop (l.j - 1) l.s) (l.i - (l.j - 1)) ∷ runs (signal_of (drop l.i l.s)))

-- The loop's invariant: the first row of the kind is the first one from k on.
-- Assumes nothing.
use mathlib.Core.Path.{◌≡◌}
use Prim.Native.Nat.{◌-◌}
use Rattle.design_text.specs.Rows.{next_row}
use Rattle.design_text.proofs.next_row.Given as goal

abbrev pub invariant-loop-k : goal.invariant-loop-k
invariant-loop-k l = next_row l.rows l.kind l.from (l.to - l.from) ≡ next_row l.rows l.kind l.k (l.to - l.k)

-- The invariant: the counts are those of the first k rows.
-- Assumes nothing.
use mathlib.Core.Path.{◌≡◌}
use lib.Dec.{eqb, ltb}
use Rattle.modules.specs.Ranges.{rows_where}
use Rattle.modules.proofs.module_wires.Given as goal

abbrev pub invariant-loop-k : goal.invariant-loop-k
invariant-loop-k l = record { below : l.first ≡ rows_where (λ c. ltb c l.number) l.wires l.k; own : l.count ≡ rows_where (λ c. eqb c l.number) l.wires l.k }

-- The loop's invariant: of the first i rename rows.
-- Assumes nothing.
use Rattle.rename_rules.specs.Search.{Renamed}
use Rattle.rename_rules.proofs.renamed_to.Given as goal

abbrev pub invariant-loop-i : goal.invariant-loop-i
invariant-loop-i l = Renamed l.design.names.now l.design.rows.now l.m l.name l.i l.least

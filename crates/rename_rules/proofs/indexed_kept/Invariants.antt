-- The invariant: the row reached is walked to, along the chain of the name's hash.
-- Assumes nothing.
use Rattle.rename_rules.specs.Judged.{ModuleIndexed}
use Rattle.rename_rules.proofs.IndexedLaws.{KeptWalk}
use Rattle.rename_rules.proofs.indexed_kept.Given as goal

abbrev pub invariant-loop-at : goal.invariant-loop-at
invariant-loop-at l = (q : ModuleIndexed l.heads l.chain l.design.names.now l.design.wires.now l.m) → KeptWalk l.design.names.now l.design.wires.now l.design.rows.now l.m l.name q.total l.at

abbrev pub decreases-loop-at : goal.decreases-loop-at
decreases-loop-at l = l.at

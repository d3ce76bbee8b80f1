-- `indexed_taken` meets its contract. The invariant: the row reached is walked to, along the chain of the name's hash.
-- Assumes nothing.
use Rattle.netlist.specs.Kinds.{is_kind}
use Rattle.name_index.specs.IndexLaws.{NameWalk}
use Rattle.name_search.proofs.indexed_taken.Given as goal

abbrev pub invariant-loop-at : goal.invariant-loop-at
invariant-loop-at l =
    NameWalk l.names l.rows (is_kind l.kinds) l.from l.name l.count l.at

abbrev pub decreases-loop-at : goal.decreases-loop-at
decreases-loop-at l = l.at

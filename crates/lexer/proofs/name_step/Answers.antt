-- A run of name bytes, legal by its length.
use native.Mathlib.Omega.{arith}
use Rattle.lexer.proofs.Steps.{ends, name-token, name-few, name-many}
use Rattle.lexer.proofs.name_step.Goals as goal
use Rattle.lexer.proofs.name_step.Goals.{then-size-lt-SHORTEST_NAME-via-then-size-lt-SHORTEST_NAME, then-size-lt-SHORTEST_NAME-via-else-size-lt-SHORTEST_NAME+then-size-gt-LONGEST_NAME}

pub overflow_sub-size : goal.overflow_sub-size
overflow_sub-size c = (ends _ _ _ _ _ c.name_end-e.ensures (omega (arith, c.requires.inside))).0

pub returns-then-size-lt-SHORTEST_NAME : goal.returns-then-size-lt-SHORTEST_NAME
returns-then-size-lt-SHORTEST_NAME c = elim c.then-size-lt-SHORTEST_NAME.branch [
  | then-size-lt-SHORTEST_NAME-via-then-size-lt-SHORTEST_NAME w ↦ name-few _ _ _ c.requires c.name_end-e.ensures w.if-size-lt-SHORTEST_NAME.true
  | then-size-lt-SHORTEST_NAME-via-else-size-lt-SHORTEST_NAME+then-size-gt-LONGEST_NAME w ↦ name-many _ _ _ c.requires c.name_end-e.ensures w.if-size-gt-LONGEST_NAME.true
]

pub returns : goal.returns
returns c = name-token _ _ _ c.requires c.name_end-e.ensures c.if-size-lt-SHORTEST_NAME.false c.if-size-gt-LONGEST_NAME.false

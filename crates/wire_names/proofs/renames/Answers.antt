use borrow.Author.Tests.{eq-eqb, ne_eqb}
use Rattle.wire_names.specs.Now.{renames}
use Rattle.wire_names.proofs.renames.Goals as goal

pub returns-then-column-m : goal.returns-then-column-m
unfolding renames
returns-then-column-m c = rw (← c.column.ensures, ← c.column-then-column-m.ensures, eq-eqb _ _ c.if-column-m.true)

pub returns-else-column-m : goal.returns-else-column-m
unfolding renames
returns-else-column-m c = rw (← c.column.ensures, ne_eqb _ _ c.if-column-m.false)

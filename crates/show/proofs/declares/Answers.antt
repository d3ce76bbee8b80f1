-- The kind first, then the wire.
-- Assumes nothing.
use borrow.Author.Tests.{eq-eqb, ne_eqb}
use Rattle.show.specs.Rows.{declares}
use Rattle.show.proofs.declares.Goals as goal

pub returns-then-row_kind-ne-WIRE_KIND : goal.returns-then-row_kind-ne-WIRE_KIND
unfolding declares
returns-then-row_kind-ne-WIRE_KIND c = rw (← c.row_kind.ensures, ne_eqb _ _ c.if-row_kind-ne-WIRE_KIND.true)

pub returns : goal.returns
unfolding declares
returns c = rw (← c.row_kind.ensures, ← c.column.ensures, eq-eqb _ _ c.if-row_kind-ne-WIRE_KIND.false)

-- The sort, then the name, the constant and the row.
-- Assumes nothing.
use Rattle.row_statements.proofs.KindLaws.{cell-parameter-not, cell-parameter-told}
use Rattle.row_statements.proofs.statements.cell_parameter_at.Goals as goal

pub returns-then-r-gt-LAST_SORT : goal.returns-then-r-gt-LAST_SORT
returns-then-r-gt-LAST_SORT c = cell-parameter-not _ _ _ _ _ c.if-r-gt-LAST_SORT.true

pub returns : goal.returns
returns c = cell-parameter-told _ _ _ _ _ _ c.if-r-gt-LAST_SORT.false c.valued.ensures

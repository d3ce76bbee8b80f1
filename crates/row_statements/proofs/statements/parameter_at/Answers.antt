-- With a constant or without.
-- Assumes nothing.
use Rattle.row_statements.proofs.KindLaws.{parameter-none, parameter-some}
use Rattle.row_statements.proofs.statements.parameter_at.Goals as goal

pub returns-then-r-eq0 : goal.returns-then-r-eq0
returns-then-r-eq0 c = parameter-none _ _ _ _ _ _ c.if-r-eq0.true c.named.ensures

pub returns : goal.returns
returns c = parameter-some _ _ _ _ _ _ c.if-r-eq0.false c.valued.ensures

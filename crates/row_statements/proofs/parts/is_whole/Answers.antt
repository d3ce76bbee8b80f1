-- `is_whole` meets its contract.
-- Assumes nothing.
use mathlib.Core.Path.{sym}
use Rattle.row_statements.proofs.Spans.{whole-none}
use Rattle.row_statements.proofs.PartLaws.{whole_by}
use Rattle.row_statements.proofs.parts.is_whole.Goals as goal

pub returns-then-size-eq0 : goal.returns-then-size-eq0
returns-then-size-eq0 c t e = rw c.if-size-eq0.true (sym (whole-none t _))

pub returns : goal.returns
returns c t e = rw (sym e) (whole_by t c.args.at c.args.size c.if-size-eq0.false)

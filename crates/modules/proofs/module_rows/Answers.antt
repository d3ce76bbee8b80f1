-- `module_rows` meets its contract.
-- Assumes nothing.
use native.Mathlib.Omega.{arith}
use Rattle.modules.specs.RangeLaws.{rows_none, rows_fit, rows-some}
use Rattle.modules.proofs.module_rows.Goals as goal

pub returns-then-line-total : goal.returns-then-line-total
returns-then-line-total c = rows_none _ _ _ _ c.module_line-line.ensures c.if-line-total.true

pub overflow_add-first : goal.overflow_add-first
overflow_add-first c = omega (arith, (rows_fit _ _ _ _ _ c.module_line-line.ensures c.if-line-total.false c.module_line-end.ensures).1)

pub overflow_sub-result : goal.overflow_sub-result
overflow_sub-result c = (rows_fit _ _ _ _ _ c.module_line-line.ensures c.if-line-total.false c.module_line-end.ensures).0

pub returns : goal.returns
returns c = rows-some _ _ _ _ _ c.module_line-line.ensures c.if-line-total.false c.module_line-end.ensures

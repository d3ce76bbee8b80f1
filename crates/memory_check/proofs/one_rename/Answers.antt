-- `one_rename` meets its contract.
-- Assumes nothing.
use mathlib.Core.Path.{sym, ◌∙◌}
use native.Mathlib.Omega.{arith}
use borrow.Author.Tests.{not-true, not-false}
use Rattle.memory_check.proofs.RenameTurns.{no_row, no-rename, no_name, rename-refused, rename-next}
use Rattle.memory_check.proofs.one_rename.Goals as goal

pub returns-then-design-at : goal.returns-then-design-at
returns-then-design-at c = no_row _ _ _ _ _ _ c.if-design-at.true

pub returns-then-not-is_rename : goal.returns-then-not-is_rename
returns-then-not-is_rename c = no-rename _ _ _ _ _ _ _ c.get_row-x.ensures (sym c.is_rename.ensures ∙ not-true _ c.if-not-is_rename.true-raw)

pub returns-then-design-end : goal.returns-then-design-end
returns-then-design-end c = no_name _ _ _ _ _ _ _ c.get_row-x.ensures c.if-design-end.true

pub returns-in_err-ok : goal.returns-in_err-ok
returns-in_err-ok c = rw c.from_residual.ensures (rename-refused _ _ _ _ _ _ _ c.get_row-x.ensures _ c.part-new.ensures _ c.indexed_rename.ensures (sym c.in_err-ok.ensures.variant))

pub returns : goal.returns
returns c =
    rename-next _ _ _ _ _ _ _ c.get_row-x.ensures _ c.part-new.ensures _ c.indexed_rename.ensures c.if-design-at.false
    (sym c.is_rename.ensures ∙ not-false _ c.if-not-is_rename.false-raw) c.if-design-end.false (sym c.in_ok-ok.ensures.variant)

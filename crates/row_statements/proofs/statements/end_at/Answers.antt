-- The row alone.
-- Assumes nothing.
use mathlib.Core.Path.{refl}
use Rattle.rules.specs.Layout.{padded, row}
use Rattle.tables.specs.Row.{words}
use Rattle.row_statements.proofs.KindLaws.{tells-end}
use Rattle.row_statements.proofs.statements.end_at.Goals as goal

pub returns : goal.returns
unfolding words row padded
returns c = tells-end _ _ _ _ c.settle.ensures refl

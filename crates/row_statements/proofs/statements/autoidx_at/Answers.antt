-- The row alone.
-- Assumes nothing.
use mathlib.Core.Path.{refl}
use native.Mathlib.Omega.{arith}
use Rattle.rules.specs.Layout.{padded, row}
use Rattle.tables.specs.Row.{words}
use Rattle.row_statements.proofs.KindLaws.{tells-autoidx}
use Rattle.row_statements.proofs.statements.autoidx_at.Goals as goal

pub returns : goal.returns
unfolding words row padded
returns c = tells-autoidx _ _ _ _ c.settle.ensures refl (omega arith)

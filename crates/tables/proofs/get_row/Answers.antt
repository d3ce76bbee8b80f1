-- Each read is inside the table, and the eight together are the row there.
use mathlib.Core.Path.{refl}
use Rattle.tables.specs.Row.{row_at}
use Rattle.tables.proofs.get_row.Goals as goal

pub returns : goal.returns
unfolding row_at
returns c = refl

use Rattle.rules.specs.Layout.{padded, row}
use Rattle.tables.specs.Row.{words}
use Rattle.layout.proofs.put.put_columns.Goals as goal

pub returns : goal.returns
unfolding words row padded
returns c = c.put_row.ensures

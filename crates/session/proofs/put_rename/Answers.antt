use Rattle.rules.specs.Layout.{padded, row, rename_row}
use Rattle.tables.specs.Row.{words}
use Rattle.session.proofs.put_rename.Goals as goal

pub returns : goal.returns
unfolding words rename_row row padded
returns c = record {
  names_after = c.store.ensures;
  rows_after = c.put_row.ensures;
}

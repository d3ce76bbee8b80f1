-- The eight columns are the words of the row.
use Rattle.tables.specs.Row.{words}
use Rattle.tables.proofs.put_row.Goals as goal

pub returns : goal.returns
unfolding words
returns c = c.store.ensures

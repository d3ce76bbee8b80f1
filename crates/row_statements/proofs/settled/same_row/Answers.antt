use mathlib.Core.Bool.{and_assoc, and-true}
use Rattle.rules.specs.Bytes.{same}
use Rattle.tables.specs.Row.{words}
use Rattle.row_statements.proofs.settled.same_row.Goals as goal

pub returns : goal.returns
unfolding same words
returns c = simp (and_assoc, and-true)

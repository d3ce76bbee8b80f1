-- `column` meets its contract: a row's number and a column fit a word of the machine.
-- Assumes nothing.
use Rattle.wires.specs.Rows.{word_at, column}
use Rattle.wires.proofs.column.Goals as goal

pub returns : goal.returns
unfolding column word_at
returns c = c.word.ensures

-- A span is cut as the decoder cuts it.
-- Assumes nothing.
use Rattle.wires.specs.Rows.{span_at}
use Rattle.line_text.proofs.words_at.Goals as goal

pub returns : goal.returns
unfolding span_at
returns c = rw (← c.column-start.ensures, ← c.column-size.ensures) c.part.ensures

-- A span is cut as the decoder cuts it.
-- Assumes nothing.
use Rattle.show.specs.Parts.{span_part}
use Rattle.show.proofs.span.Goals as goal

pub returns : goal.returns
unfolding span_part
returns c = rw (← c.column-start.ensures, ← c.column-size.ensures) c.cut.ensures

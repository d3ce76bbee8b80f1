-- By where the text ends.
-- Assumes nothing.
use native.Mathlib.Omega.{arith}
use Rattle.writer.proofs.TextLaws.{measure-long, measure-short}
use Rattle.writer.proofs.measure_rows.Goals as goal

pub text_end-end-requires : goal.text_end-end-requires
text_end-end-requires c = c.requires

pub returns-then-end-le-TEXT_LENGTH : goal.returns-then-end-le-TEXT_LENGTH
returns-then-end-le-TEXT_LENGTH c = measure-short _ c.text_end-end.result c.text_end-end.ensures (omega arith)

pub returns : goal.returns
returns c = measure-long _ c.text_end-end.result c.text_end-end.ensures (omega arith)

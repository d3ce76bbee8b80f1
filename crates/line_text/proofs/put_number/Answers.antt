-- One piece behind another.
-- Assumes nothing.
use Rattle.text.specs.Written.{written-most, written_then}
use Rattle.line_text.proofs.put_number.Goals as goal

pub put_decimal-requires : goal.put_decimal-requires
put_decimal-requires c = written-most c.put_byte-space.ensures

pub returns : goal.returns
returns c = written_then c.put_byte-space.ensures c.put_decimal.ensures

pub shape_of-out : goal.shape_of-out
shape_of-out c = (returns c).kept

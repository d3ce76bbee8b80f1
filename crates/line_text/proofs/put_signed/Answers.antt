-- One piece behind another.
-- Assumes nothing.
use Rattle.text.specs.Written.{written-most, written_then}
use Rattle.line_text.proofs.put_signed.Goals as goal

pub put_integer-requires : goal.put_integer-requires
put_integer-requires c = written-most c.put_byte-space.ensures

pub returns : goal.returns
returns c = written_then c.put_byte-space.ensures c.put_integer.ensures

pub shape_of-out : goal.shape_of-out
shape_of-out c = (returns c).kept

-- One piece behind another.
-- Assumes nothing.
use Rattle.text.specs.Written.{written-most, written_then}
use Rattle.line_text.specs.Lines.{line_of}
use native.Mathlib.Omega.{arith}
use Rattle.line_text.proofs.put_line.Goals as goal

pub put_statement-end-requires : goal.put_statement-end-requires
put_statement-end-requires c = (written-most c.put_spaces-body.ensures, omega arith, omega arith)

pub put_byte-requires : goal.put_byte-requires
put_byte-requires c = written-most c.put_statement-end.ensures

pub returns : goal.returns
unfolding line_of
returns c = written_then (written_then c.put_spaces-body.ensures c.put_statement-end.ensures) c.put_byte.ensures

pub shape_of-out : goal.shape_of-out
shape_of-out c = (returns c).kept

-- One piece behind another.
use Rattle.rules.specs.Text.{literal_text}
use Rattle.text.specs.Written.{written-most, written_then}
use Rattle.constant_text.proofs.put_string.Goals as goal

pub put_inside-end-requires : goal.put_inside-end-requires
put_inside-end-requires c = written-most c.put_byte-open.ensures

pub put_byte-requires : goal.put_byte-requires
put_byte-requires c = written-most c.put_inside-end.ensures

pub returns : goal.returns
unfolding literal_text
returns c = written_then (written_then c.put_byte-open.ensures c.put_inside-end.ensures) c.put_byte.ensures

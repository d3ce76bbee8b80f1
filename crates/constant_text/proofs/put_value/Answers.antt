-- One piece behind another.
use Rattle.rules.specs.Text.{literal_text}
use Rattle.text.specs.Written.{written-most, written_then}
use Rattle.constant_text.proofs.put_value.Goals as goal

pub put_byte-quote-requires : goal.put_byte-quote-requires
put_byte-quote-requires c = written-most c.put_decimal-width.ensures

pub put_digits-requires : goal.put_digits-requires
put_digits-requires c = written-most c.put_byte-quote.ensures

pub returns : goal.returns
unfolding literal_text
returns c = written_then c.put_decimal-width.ensures (written_then c.put_byte-quote.ensures c.put_digits.ensures)

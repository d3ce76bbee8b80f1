-- Words below 2 ^ 31 are the integer itself; the others are negative.
use borrow.Author.Tests.{lt-ltb, le-ltb}
use Rattle.rules.specs.Text.{integer_text}
use Rattle.numbers.specs.Signed.{signed_of}
use Rattle.text.specs.Written.{written-most, written_then}
use Rattle.text.proofs.put_integer.Goals as goal

pub returns-then-word-lt-FIRST_NEGATIVE : goal.returns-then-word-lt-FIRST_NEGATIVE
unfolding integer_text signed_of
returns-then-word-lt-FIRST_NEGATIVE c = rw (lt-ltb _ _ c.if-word-lt-FIRST_NEGATIVE.true) c.put_decimal.ensures

pub put_decimal-requires-2 : goal.put_decimal-requires-2
put_decimal-requires-2 c = written-most c.put_byte-end.ensures

pub returns : goal.returns
unfolding integer_text signed_of
returns c = rw (le-ltb _ _ c.if-word-lt-FIRST_NEGATIVE.false) (written_then c.put_byte-end.ensures c.put_decimal-2.ensures)

-- The digits in front of the last, then the last.
use mathlib.Core.Path.{sym}
use Rattle.text.specs.Written.{written-most, written_then, written_as}
use Rattle.text.proofs.TextLaws.{decimal-one, decimal-more}
use Rattle.text.proofs.+put_decimal.Goals as goal

pub returns-then-n-lt10 : goal.returns-then-n-lt10
returns-then-n-lt10 t c = written_as c.put_byte.ensures (sym (decimal-one c.args.n c.if-n-lt10.true))

pub put_byte-requires-2 : goal.put_byte-requires-2
put_byte-requires-2 t c = written-most c.put_decimal-end.ensures

pub returns : goal.returns
returns t c = written_as (written_then c.put_decimal-end.ensures c.put_byte-2.ensures) (sym (decimal-more c.args.n c.if-n-lt10.false))

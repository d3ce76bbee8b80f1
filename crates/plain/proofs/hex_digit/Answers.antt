-- Below ten a decimal digit, else a letter.
use borrow.Author.Tests.{lt-ltb, le-ltb}
use Rattle.rules.specs.Plain.{hex_digit}
use Rattle.plain.proofs.hex_digit.Goals as goal

pub returns-then-n-lt10 : goal.returns-then-n-lt10
unfolding hex_digit
returns-then-n-lt10 c = rw (lt-ltb _ _ c.if-n-lt10.true)

pub returns : goal.returns
unfolding hex_digit
returns c = rw (le-ltb _ _ c.if-n-lt10.false)

-- The tests are the definition's.
use Rattle.rules.specs.Bytes.{is_digit, within}
use Rattle.rules.specs.Plain.{hex_value}
use Rattle.plain.proofs.hex_value.Goals as goal

pub returns-then-b : goal.returns-then-b
unfolding hex_value is_digit within
returns-then-b c = rw c.if-b.true

pub returns-then-b-2 : goal.returns-then-b-2
unfolding hex_value is_digit within
returns-then-b-2 c = rw (c.if-b.false, c.if-b-2.true)

pub returns : goal.returns
unfolding hex_value is_digit within
returns c = rw (c.if-b.false, c.if-b-2.false)

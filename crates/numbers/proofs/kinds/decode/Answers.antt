-- `kinds::decode` meets its contract.
use borrow.Author.Tests.{lt-ltb, le-ltb}
use Rattle.numbers.specs.Kinds.{bit_at}
use Rattle.numbers.proofs.kinds.decode.Goals as goal

pub returns-then-c-lt-DIGIT_CODES : goal.returns-then-c-lt-DIGIT_CODES
unfolding bit_at
returns-then-c-lt-DIGIT_CODES c = rw (lt-ltb _ _ c.if-c-lt-DIGIT_CODES.true)

pub returns-else-c-lt-DIGIT_CODES : goal.returns-else-c-lt-DIGIT_CODES
unfolding bit_at
returns-else-c-lt-DIGIT_CODES c = rw (le-ltb _ _ c.if-c-lt-DIGIT_CODES.false)

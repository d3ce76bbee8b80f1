-- `signed::word_of` meets its contract.
use Rattle.rules.specs.Signals.{twos_complement}
use Rattle.numbers.specs.Signed.{integer_of}
use Rattle.numbers.proofs.SumLaws.{word-zero, word-negative}
use Rattle.numbers.proofs.signed.word_of.Goals as goal

pub returns-then-size-eq0 : goal.returns-then-size-eq0
returns-then-size-eq0 c = rw c.if-size-eq0.true (word-zero c.args.negative)

pub returns-then-negative : goal.returns-then-negative
returns-then-negative c = rw c.if-negative.true (word-negative c.args.size c.if-size-eq0.false)

pub returns-else-negative : goal.returns-else-negative
unfolding twos_complement integer_of
returns-else-negative c = rw c.if-negative.false

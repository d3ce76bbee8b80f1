-- `signed::fits` meets its contract.
use Rattle.rules.specs.Numbers.{int32}
use Rattle.numbers.specs.Signed.{integer_of}
use Rattle.numbers.proofs.SumLaws.{negative_fits}
use Rattle.numbers.proofs.signed.fits.Goals as goal

pub returns-then-negative : goal.returns-then-negative
returns-then-negative c = rw c.if-negative.true (negative_fits c.args.size)

pub returns-else-negative : goal.returns-else-negative
unfolding int32 integer_of
returns-else-negative c = rw c.if-negative.false

use borrow.Author.Tests.{le-leb, lt-leb}
use Rattle.rules.specs.Bytes.{is_octal, within}
use Rattle.strings.proofs.is_octal.Goals as goal

pub returns-then-b-ge48 : goal.returns-then-b-ge48
unfolding is_octal within
returns-then-b-ge48 c = rw (le-leb 48 _ c.if-b-ge48.true)

pub returns-else-b-ge48 : goal.returns-else-b-ge48
unfolding is_octal within
returns-else-b-ge48 c = rw (lt-leb 48 _ c.if-b-ge48.false)

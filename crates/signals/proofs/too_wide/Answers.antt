-- `too_wide` meets its contract.
-- Assumes nothing.
use borrow.Author.Tests.{lt-ltb, le-ltb}
use Rattle.faults.specs.Faults.{too_wide}
use Rattle.signals.proofs.too_wide.Goals as goal

pub returns-then-width-gt-MOST_BITS : goal.returns-then-width-gt-MOST_BITS
unfolding too_wide
returns-then-width-gt-MOST_BITS c = rw (lt-ltb _ _ c.if-width-gt-MOST_BITS.true)

pub returns-else-width-gt-MOST_BITS : goal.returns-else-width-gt-MOST_BITS
unfolding too_wide
returns-else-width-gt-MOST_BITS c = rw (le-ltb _ _ c.if-width-gt-MOST_BITS.false)

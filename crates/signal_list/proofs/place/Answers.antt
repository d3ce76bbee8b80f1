-- `place` meets its contract: by the test.
-- Assumes nothing.
use borrow.Author.Tests.{lt-ltb, le-ltb}
use Rattle.signal_list.specs.Sums.{place_of}
use Rattle.signal_list.proofs.place.Goals as goal

pub returns-then-total-lt-MOST_SIGNAL_BITS : goal.returns-then-total-lt-MOST_SIGNAL_BITS
unfolding place_of
returns-then-total-lt-MOST_SIGNAL_BITS c = rw (lt-ltb _ _ c.if-total-lt-MOST_SIGNAL_BITS.true)

pub returns-else-total-lt-MOST_SIGNAL_BITS : goal.returns-else-total-lt-MOST_SIGNAL_BITS
unfolding place_of
returns-else-total-lt-MOST_SIGNAL_BITS c = rw (le-ltb _ _ c.if-total-lt-MOST_SIGNAL_BITS.false)

-- The width, then the bits.
-- Assumes nothing.
use Rattle.row_statements.proofs.PartLaws.{signal-wide, signal-narrow}
use Rattle.row_statements.proofs.wiring.signal_stands.Goals as goal

pub returns-then-size-gt-MOST_WIDTH : goal.returns-then-size-gt-MOST_WIDTH
returns-then-size-gt-MOST_WIDTH c names = signal-wide _ _ _ _ c.if-size-gt-MOST_WIDTH.true

pub returns : goal.returns
returns c names = signal-narrow _ _ _ _ c.if-size-gt-MOST_WIDTH.false (c.bits_stand.ensures names)

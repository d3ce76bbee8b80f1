-- By what the code means.
-- Assumes nothing.
use Rattle.row_statements.proofs.SignalLaws.{fits-digit, fits-past, fits-inside}
use Rattle.row_statements.proofs.wiring.bit_fits.Goals as goal

pub returns-then-count-n : goal.returns-then-count-n
returns-then-count-n c names = fits-past _ _ c.decode-b.ensures names _ _ _ _ _ c.in-Wire.is c.if-count-n.true

pub returns-in-Digit : goal.returns-in-Digit
returns-in-Digit c names = fits-digit _ _ c.decode-b.ensures _ _ c.in-Digit.is

pub returns-else-count-n : goal.returns-else-count-n
returns-else-count-n c names = fits-inside _ _ c.decode-b.ensures names _ _ _ _ _ c.in-Wire.is c.if-count-n.false _ c.word.ensures

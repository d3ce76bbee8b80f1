-- By the count.
-- Assumes nothing.
use borrow.Author.Tests.{eq-eqb, ne_eqb}
use Rattle.row_statements.specs.Reads.{even_fits}
use Rattle.row_statements.proofs.step_rows.even_fits.Goals as goal

pub returns-then-count-eq0 : goal.returns-then-count-eq0
unfolding even_fits
returns-then-count-eq0 c = rw (eq-eqb _ 0 c.if-count-eq0.true)

pub returns : goal.returns
unfolding even_fits
returns c = rw (ne_eqb _ 0 c.if-count-eq0.false)

-- By the bit's form, its wire and its place in it.
-- Assumes nothing.
use borrow.Author.Tests.{eq-eqb, ne_eqb}
use Rattle.signal_runs.specs.Runs.{is_bit}
use Rattle.signal_runs.proofs.is_bit.Goals as goal

pub returns-then-wire-w : goal.returns-then-wire-w
unfolding is_bit
returns-then-wire-w c = rw (c.in-Wire.is, ne_eqb _ _ c.if-wire-w.true)

pub returns-in-Digit : goal.returns-in-Digit
unfolding is_bit
returns-in-Digit c = rw c.in-Digit.is

pub returns-else-wire-w : goal.returns-else-wire-w
unfolding is_bit
returns-else-wire-w c = rw (c.in-Wire.is, eq-eqb _ _ c.if-wire-w.false)

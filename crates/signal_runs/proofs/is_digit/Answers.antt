-- By the bit's form.
-- Assumes nothing.
use Rattle.signal_runs.specs.Runs.{is_digit}
use Rattle.signal_runs.proofs.is_digit.Goals as goal

pub returns-in-Digit : goal.returns-in-Digit
unfolding is_digit
returns-in-Digit c = rw c.in-Digit.is

pub returns-in-Wire : goal.returns-in-Wire
unfolding is_digit
returns-in-Wire c = rw c.in-Wire.is

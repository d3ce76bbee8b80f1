-- By the form of the bit below.
-- Assumes nothing.
use mathlib.Core.Path.{◌∙◌}
use Rattle.signal_runs.specs.Runs.{joined, joint}
use Rattle.signal_runs.specs.RunLaws.{narrow}
use native.Mathlib.Omega.{arith}
use Rattle.signal_runs.proofs.joins.Goals as goal

pub overflow_add-i : goal.overflow_add-i
overflow_add-i c = omega (arith, narrow _ c.decode-below.ensures c.in-Wire.is)

pub returns-in-Digit : goal.returns-in-Digit
unfolding joint joined
returns-in-Digit c = c.is_digit.ensures ∙ rw (← c.decode-above.ensures, ← c.decode-below.ensures, c.in-Digit.is)

pub returns-in-Wire : goal.returns-in-Wire
unfolding joint joined
returns-in-Wire c = c.is_bit.ensures ∙ rw (← c.decode-above.ensures, ← c.decode-below.ensures, c.in-Wire.is)

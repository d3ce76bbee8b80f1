-- `more_digit` meets its contract.
-- Assumes nothing.
use native.Mathlib.Omega.{arith}
use Rattle.scanner.specs.Numbers.{capped}
use Rattle.scanner.proofs.decimals.more_digit.Goals as goal

pub returns-then-n-gt-MOST_BEFORE : goal.returns-then-n-gt-MOST_BEFORE
unfolding capped
returns-then-n-gt-MOST_BEFORE c = omega arith

pub returns : goal.returns
unfolding capped
returns c = omega (arith, c.min.ensures, c.saturating_sub-digit.ensures)

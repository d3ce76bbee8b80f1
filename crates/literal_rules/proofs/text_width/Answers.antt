-- Eight times the size is above the cap where the size is.
use native.Mathlib.Omega.{arith}
use Rattle.scanner.specs.Numbers.{capped}
use Rattle.literal_rules.proofs.text_width.Goals as goal

pub returns-then-size-gt-MOST_BYTES : goal.returns-then-size-gt-MOST_BYTES
unfolding capped
returns-then-size-gt-MOST_BYTES c = omega arith

pub returns : goal.returns
unfolding capped
returns c = omega arith

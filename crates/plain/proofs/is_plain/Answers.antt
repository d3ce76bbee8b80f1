-- The tests are the definition's.
use mathlib.Core.Path.{refl}
use Rattle.rules.specs.Bytes.{within, is_lower, is_digit}
use Rattle.rules.specs.Plain.{is_plain}
use Rattle.plain.proofs.is_plain.Goals as goal

pub returns : goal.returns
unfolding is_plain within is_lower is_digit
returns c = refl

-- The three tests are the definition's.
use mathlib.Core.Path.{refl}
use Rattle.constant_text.specs.Plain.{plain}
use Rattle.constant_text.proofs.is_plain.Goals as goal

pub returns : goal.returns
unfolding plain
returns c = refl

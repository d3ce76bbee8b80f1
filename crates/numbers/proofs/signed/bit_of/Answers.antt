-- `signed::bit_of` meets its contract: the shift divides by a power of two.
use mathlib.Core.Path.{refl}
use Rattle.numbers.proofs.signed.bit_of.Goals as goal

pub overflow_shr-result : goal.overflow_shr-result
overflow_shr-result c = c.requires

pub returns : goal.returns
returns c = refl

use Rattle.std.proofs.Common.{rules}
use Rattle.memory_check.specs.Held.{zero_from, rest_zero}
use Rattle.memory_check.proofs.rest_is_zero.Goals as goal

pub returns-then-zero_from-2 : goal.returns-then-zero_from-2
unfolding rest_zero zero_from
returns-then-zero_from-2 c = search rules

pub returns-else-zero_from-2 : goal.returns-else-zero_from-2
unfolding rest_zero zero_from
returns-else-zero_from-2 c = search rules

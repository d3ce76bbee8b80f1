use Rattle.std.proofs.Common.{rules}
use Rattle.replay.specs.Turns.{small_parts}
use Rattle.replay.proofs.turns.small_parts.Goals as goal

pub returns-then-found-le-MOST_STRING_BYTES : goal.returns-then-found-le-MOST_STRING_BYTES
unfolding small_parts
returns-then-found-le-MOST_STRING_BYTES c = search rules

pub returns-else-found-le-MOST_STRING_BYTES : goal.returns-else-found-le-MOST_STRING_BYTES
unfolding small_parts
returns-else-found-le-MOST_STRING_BYTES c = search rules

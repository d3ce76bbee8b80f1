use Rattle.std.proofs.Common.{rules}
use Rattle.rename_rules.specs.Judged.{exceeds_room}
use Rattle.rename_rules.proofs.exceeds_room.Goals as goal

pub returns-then-standing-ge-MOST_RENAMES : goal.returns-then-standing-ge-MOST_RENAMES
unfolding exceeds_room
returns-then-standing-ge-MOST_RENAMES c = search rules

pub returns-else-standing-ge-MOST_RENAMES : goal.returns-else-standing-ge-MOST_RENAMES
unfolding exceeds_room
returns-else-standing-ge-MOST_RENAMES c = search rules

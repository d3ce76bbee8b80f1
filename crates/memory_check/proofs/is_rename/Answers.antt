use Rattle.std.proofs.Common.{rules}
use Rattle.memory_check.specs.Renamed.{is_rename}
use Rattle.memory_check.proofs.is_rename.Goals as goal

pub returns-then-x-eq0-2 : goal.returns-then-x-eq0-2
unfolding is_rename
returns-then-x-eq0-2 c = search rules

pub returns-else-x-eq0-2 : goal.returns-else-x-eq0-2
unfolding is_rename
returns-else-x-eq0-2 c = search rules

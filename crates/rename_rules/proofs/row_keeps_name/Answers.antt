use Rattle.std.proofs.Common.{rules}
use Rattle.rename_rules.specs.Search.{row_keeps}
use Rattle.rename_rules.proofs.row_keeps_name.Goals as goal

pub returns-then-k-m : goal.returns-then-k-m
unfolding row_keeps
returns-then-k-m c = search rules

pub returns-else-k-m : goal.returns-else-k-m
unfolding row_keeps
returns-else-k-m c = search rules

use Rattle.std.proofs.Common.{rules}
use Rattle.rules.specs.Bytes.{within}
use Rattle.replay.specs.Begins.{is_statement}
use Rattle.replay.proofs.is_statement.Goals as goal

pub returns-then-kind-ne0 : goal.returns-then-kind-ne0
unfolding is_statement within
returns-then-kind-ne0 c = search rules

pub returns-else-kind-ne0 : goal.returns-else-kind-ne0
unfolding is_statement within
returns-else-kind-ne0 c = search rules

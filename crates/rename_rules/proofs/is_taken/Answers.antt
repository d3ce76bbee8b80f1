use Rattle.rename_rules.specs.Judged.{name_taken}
use Rattle.rename_rules.proofs.is_taken.Goals as goal

pub returns-then-wire_name_taken : goal.returns-then-wire_name_taken
unfolding name_taken
returns-then-wire_name_taken c = rw (← c.wire_name_taken.ensures, c.if-wire_name_taken.true)

pub returns-else-wire_name_taken : goal.returns-else-wire_name_taken
unfolding name_taken
returns-else-wire_name_taken c = rw (← c.wire_name_taken.ensures, c.if-wire_name_taken.false) c.object_name_taken.ensures

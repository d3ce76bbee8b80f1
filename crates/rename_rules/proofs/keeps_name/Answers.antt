use Rattle.rename_rules.specs.Search.{keeps_name}
use Rattle.rename_rules.proofs.keeps_name.Goals as goal

pub returns-then-same_bytes : goal.returns-then-same_bytes
unfolding keeps_name
returns-then-same_bytes c = rw (← c.bytes_at-own.ensures, ← c.same_bytes.ensures, c.if-same_bytes.true, ← c.last_rename.ensures)

pub returns-else-same_bytes : goal.returns-else-same_bytes
unfolding keeps_name
returns-else-same_bytes c = rw (← c.bytes_at-own.ensures, ← c.same_bytes.ensures, c.if-same_bytes.false)

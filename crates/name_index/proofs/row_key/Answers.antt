-- `row_key` meets its contract.
-- Assumes nothing.
use Rattle.name_index.specs.Index.{key_at}
use Rattle.name_index.proofs.row_key.Goals as goal

pub returns-then-is_named : goal.returns-then-is_named
unfolding key_at
returns-then-is_named c = rw (← c.row_kind.ensures, ← c.is_named.ensures, c.if-is_named.true, ← c.row_name.ensures) c.hash.ensures

pub returns : goal.returns
unfolding key_at
returns c = rw (← c.row_kind.ensures, ← c.is_named.ensures, c.if-is_named.false)

-- `same_bytes` meets its contract.
use mathlib.Core.Path.{sym}
use Rattle.lists.specs.Bytes.{same_length}
use Rattle.names.proofs.NameLaws.{same_pointwise, last_apart}
use Rattle.names.proofs.same_bytes.Goals as goal

pub returns-then-a-b : goal.returns-then-a-b
returns-then-a-b c = sym (same_length _ _ c.if-a-b.true)

pub returns-then-eq : goal.returns-then-eq
returns-then-eq c = rw (c.eq-then-eq.ensures, same_pointwise)

pub returns-else-eq : goal.returns-else-eq
returns-else-eq c = rw c.if-eq.false (last_apart _ _ _ _ c.last.ensures.value c.last-2.ensures.value c.if-eq.ensures)

-- The scope, then the attributes.
-- Assumes nothing.
use borrow.Author.Tests.{eq-eqb, ne_eqb}
use Rattle.context.specs.Place.{closes_at}
use Rattle.context.proofs.place.is_closed.Goals as goal

pub returns-then-p-eq-TOP : goal.returns-then-p-eq-TOP
unfolding closes_at
returns-then-p-eq-TOP c = rw (eq-eqb _ _ c.if-p-eq-TOP.true)

pub returns-else-p-eq-TOP : goal.returns-else-p-eq-TOP
unfolding closes_at
returns-else-p-eq-TOP c = rw (ne_eqb _ _ c.if-p-eq-TOP.false)

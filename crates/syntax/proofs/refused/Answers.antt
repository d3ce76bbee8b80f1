-- Test by test.
use borrow.Author.Tests.{eq-eqb, ne_eqb}
use Rattle.syntax.specs.Statements.{faulted}
use Rattle.syntax.proofs.refused.Goals as goal

pub returns-then-fault-eq-BAD_NUMBER : goal.returns-then-fault-eq-BAD_NUMBER
unfolding faulted
returns-then-fault-eq-BAD_NUMBER c = rw (eq-eqb _ _ c.if-fault-eq-BAD_NUMBER.true)

pub returns-then-fault-eq-NOT_THERE : goal.returns-then-fault-eq-NOT_THERE
unfolding faulted
returns-then-fault-eq-NOT_THERE c = rw (ne_eqb _ _ c.if-fault-eq-BAD_NUMBER.false, eq-eqb _ _ c.if-fault-eq-NOT_THERE.true)

pub returns : goal.returns
unfolding faulted
returns c = rw (ne_eqb _ _ c.if-fault-eq-BAD_NUMBER.false, ne_eqb _ _ c.if-fault-eq-NOT_THERE.false)

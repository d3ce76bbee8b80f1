-- By the kind.
-- Assumes nothing.
use borrow.Author.Tests.{eq-eqb, ne_eqb}
use Rattle.replay.proofs.turns.step_of.Goals as goal

pub returns-then-kind-eq-STEP_KIND : goal.returns-then-kind-eq-STEP_KIND
returns-then-kind-eq-STEP_KIND c = rw (eq-eqb _ 13 c.if-kind-eq-STEP_KIND.true)

pub returns : goal.returns
returns c = rw (ne_eqb _ 13 c.if-kind-eq-STEP_KIND.false)

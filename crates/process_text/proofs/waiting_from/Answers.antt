-- By the test.
-- Assumes nothing.
use borrow.Author.Tests.{eq-eqb, ne_eqb}
use Rattle.process_text.specs.Rows.{waiting_from}
use Rattle.process_text.proofs.waiting_from.Goals as goal

pub returns-then-kind-eq-ATTRIBUTE_KIND : goal.returns-then-kind-eq-ATTRIBUTE_KIND
unfolding waiting_from
returns-then-kind-eq-ATTRIBUTE_KIND c = rw (eq-eqb c.args.kind 2 c.if-kind-eq-ATTRIBUTE_KIND.true)

pub returns : goal.returns
unfolding waiting_from
returns c = rw (ne_eqb c.args.kind 2 c.if-kind-eq-ATTRIBUTE_KIND.false)

-- `place::scope_after` meets its contract.
use borrow.Author.Tests.{eq-eqb, ne_eqb}
use Rattle.context.specs.Place.{scope_after}
use Rattle.context.proofs.place.scope_after.Goals as goal

pub returns-then-kind-eq-MODULE_KIND : goal.returns-then-kind-eq-MODULE_KIND
unfolding scope_after
returns-then-kind-eq-MODULE_KIND c = rw (eq-eqb _ _ c.if-kind-eq-MODULE_KIND.true)

pub returns-then-kind-eq-CELL_KIND : goal.returns-then-kind-eq-CELL_KIND
unfolding scope_after
returns-then-kind-eq-CELL_KIND c = rw (ne_eqb _ _ c.if-kind-eq-MODULE_KIND.false, eq-eqb _ _ c.if-kind-eq-CELL_KIND.true)

pub returns-then-kind-eq-PROCESS_KIND : goal.returns-then-kind-eq-PROCESS_KIND
unfolding scope_after
returns-then-kind-eq-PROCESS_KIND c = rw (ne_eqb _ _ c.if-kind-eq-MODULE_KIND.false, ne_eqb _ _ c.if-kind-eq-CELL_KIND.false, eq-eqb _ _ c.if-kind-eq-PROCESS_KIND.true)

pub returns-then-kind-eq-END_KIND : goal.returns-then-kind-eq-END_KIND
unfolding scope_after
returns-then-kind-eq-END_KIND c = rw (ne_eqb _ _ c.if-kind-eq-MODULE_KIND.false, ne_eqb _ _ c.if-kind-eq-CELL_KIND.false, ne_eqb _ _ c.if-kind-eq-PROCESS_KIND.false, eq-eqb _ _ c.if-kind-eq-END_KIND.true) c.end_scope.ensures

pub returns : goal.returns
unfolding scope_after
returns c = rw (ne_eqb _ _ c.if-kind-eq-MODULE_KIND.false, ne_eqb _ _ c.if-kind-eq-CELL_KIND.false, ne_eqb _ _ c.if-kind-eq-PROCESS_KIND.false, ne_eqb _ _ c.if-kind-eq-END_KIND.false) c.step_scope.ensures

-- `place::depth_after` meets its contract.
use mathlib.Core.Path.{sym, ◌∙◌}
use native.Mathlib.Omega.{arith}
use borrow.Author.Tests.{eq-eqb, ne_eqb}
use lib.Dec.{eqb}
use Rattle.context.specs.Place.{depth_after}
use Rattle.lists.specs.Tests.{cond-le}
use Rattle.context.proofs.KindLaws.{from-test}
use Rattle.context.proofs.place.depth_after.Goals as goal
use Rattle.context.proofs.place.depth_after.Goals.{then-kind-eq-MODULE_KIND-via-then-kind-eq-MODULE_KIND, then-kind-eq-MODULE_KIND-via-else-kind-eq-MODULE_KIND+then-kind-eq-CELL_KIND, then-kind-eq-MODULE_KIND-via-else-kind-eq-MODULE_KIND+else-kind-eq-CELL_KIND+then-kind-eq-PROCESS_KIND}

pub returns-then-kind-eq-MODULE_KIND : goal.returns-then-kind-eq-MODULE_KIND
unfolding depth_after
returns-then-kind-eq-MODULE_KIND c =
    elim c.then-kind-eq-MODULE_KIND.branch [
      | then-kind-eq-MODULE_KIND-via-then-kind-eq-MODULE_KIND w ↦ rw (eq-eqb _ _ w.if-kind-eq-MODULE_KIND.true)
      | then-kind-eq-MODULE_KIND-via-else-kind-eq-MODULE_KIND+then-kind-eq-CELL_KIND w ↦ rw (ne_eqb _ _ w.if-kind-eq-MODULE_KIND.false, eq-eqb _ _ w.if-kind-eq-CELL_KIND.true)
      | then-kind-eq-MODULE_KIND-via-else-kind-eq-MODULE_KIND+else-kind-eq-CELL_KIND+then-kind-eq-PROCESS_KIND w ↦ rw (ne_eqb _ _ w.if-kind-eq-MODULE_KIND.false, ne_eqb _ _ w.if-kind-eq-CELL_KIND.false, eq-eqb _ _ w.if-kind-eq-PROCESS_KIND.true)
    ]

pub returns-then-kind-eq-END_KIND : goal.returns-then-kind-eq-END_KIND
unfolding depth_after
returns-then-kind-eq-END_KIND c = rw (ne_eqb _ _ c.if-kind-eq-MODULE_KIND.false, ne_eqb _ _ c.if-kind-eq-CELL_KIND.false, ne_eqb _ _ c.if-kind-eq-PROCESS_KIND.false, eq-eqb _ _ c.if-kind-eq-END_KIND.true) c.saturating_sub.ensures

pub overflow_add-result : goal.overflow_add-result
overflow_add-result c = omega (arith, c.requires, c.from.ensures, from-test (eqb c.args.scope 7), cond-le (eqb c.args.scope 7) 1)

pub returns-then-step-eq-SWITCH_STEP : goal.returns-then-step-eq-SWITCH_STEP
unfolding depth_after
returns-then-step-eq-SWITCH_STEP c = rw (ne_eqb _ _ c.if-kind-eq-MODULE_KIND.false, ne_eqb _ _ c.if-kind-eq-CELL_KIND.false, ne_eqb _ _ c.if-kind-eq-PROCESS_KIND.false, ne_eqb _ _ c.if-kind-eq-END_KIND.false, eq-eqb _ _ c.if-step-eq-SWITCH_STEP.true, c.from.ensures ∙ from-test _)

pub returns-then-is_sync : goal.returns-then-is_sync
unfolding depth_after
returns-then-is_sync c = rw (ne_eqb _ _ c.if-kind-eq-MODULE_KIND.false, ne_eqb _ _ c.if-kind-eq-CELL_KIND.false, ne_eqb _ _ c.if-kind-eq-PROCESS_KIND.false, ne_eqb _ _ c.if-kind-eq-END_KIND.false, ne_eqb _ _ c.if-step-eq-SWITCH_STEP.false, sym c.is_sync.ensures ∙ c.if-is_sync.true)

pub returns : goal.returns
unfolding depth_after
returns c = rw (ne_eqb _ _ c.if-kind-eq-MODULE_KIND.false, ne_eqb _ _ c.if-kind-eq-CELL_KIND.false, ne_eqb _ _ c.if-kind-eq-PROCESS_KIND.false, ne_eqb _ _ c.if-kind-eq-END_KIND.false, ne_eqb _ _ c.if-step-eq-SWITCH_STEP.false, sym c.is_sync.ensures ∙ c.if-is_sync.false)

-- By the kind, and the scope.
-- Assumes nothing.
use Rattle.replay.proofs.PlaceLaws.{process-step, process-tail, process-attribute, process-end}
use Rattle.replay.proofs.turns.is_process_kind.Goals as goal

pub returns-then-kind-eq-STEP_KIND : goal.returns-then-kind-eq-STEP_KIND
returns-then-kind-eq-STEP_KIND c = process-step _ _ _ _ _ c.requires c.if-kind-eq-STEP_KIND.true

pub returns-then-scope : goal.returns-then-scope
returns-then-scope c = process-tail _ _ _ _ _ c.requires c.if-kind-eq-STEP_KIND.false c.if-scope.true

pub returns-then-kind-eq-ATTRIBUTE_KIND : goal.returns-then-kind-eq-ATTRIBUTE_KIND
returns-then-kind-eq-ATTRIBUTE_KIND c = process-attribute _ _ _ _ _ c.requires c.if-kind-eq-STEP_KIND.false c.if-scope.false c.if-kind-eq-ATTRIBUTE_KIND.true

pub returns : goal.returns
returns c = process-end _ _ _ _ _ c.requires c.if-kind-eq-STEP_KIND.false c.if-scope.false c.if-kind-eq-ATTRIBUTE_KIND.false

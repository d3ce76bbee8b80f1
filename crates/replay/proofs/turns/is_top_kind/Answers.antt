-- Kind by kind.
-- Assumes nothing.
use Rattle.replay.proofs.PlaceLaws.{top-attribute, top-module, top-autoidx, top-other}
use Rattle.replay.proofs.turns.is_top_kind.Goals as goal

pub returns-then-kind-eq-ATTRIBUTE_KIND : goal.returns-then-kind-eq-ATTRIBUTE_KIND
returns-then-kind-eq-ATTRIBUTE_KIND c = top-attribute _ _ _ c.if-kind-eq-ATTRIBUTE_KIND.true

pub returns-then-kind-eq-MODULE_KIND : goal.returns-then-kind-eq-MODULE_KIND
returns-then-kind-eq-MODULE_KIND c = top-module _ _ _ c.if-kind-eq-MODULE_KIND.true

pub returns-then-kind-eq-AUTOIDX_KIND : goal.returns-then-kind-eq-AUTOIDX_KIND
returns-then-kind-eq-AUTOIDX_KIND c = top-autoidx _ _ _ c.if-kind-eq-AUTOIDX_KIND.true

pub returns : goal.returns
returns c = top-other _ _ _ c.if-kind-eq-ATTRIBUTE_KIND.false c.if-kind-eq-MODULE_KIND.false c.if-kind-eq-AUTOIDX_KIND.false

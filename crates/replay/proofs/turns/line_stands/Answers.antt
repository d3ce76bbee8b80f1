-- The kind, the step, then the width that it asks for.
-- Assumes nothing.
use mathlib.Core.Path.{sym, ◌∙◌}
use borrow.Author.Tests.{not-true, not-false}
use Rattle.replay.proofs.LineLaws.{line-kind, line_plain, line_step, line-asked}
use Rattle.replay.proofs.turns.line_stands.Goals as goal

pub returns-then-not-stands_at : goal.returns-then-not-stands_at
returns-then-not-stands_at c = line-kind _ _ _ (sym c.stands_at.ensures ∙ not-true _ c.if-not-stands_at.true-raw)

pub returns-then-r-ne-STEP_KIND : goal.returns-then-r-ne-STEP_KIND
returns-then-r-ne-STEP_KIND c = line_plain _ _ _ (sym c.stands_at.ensures ∙ not-false _ c.if-not-stands_at.false-raw) c.if-r-ne-STEP_KIND.true

pub returns-then-not-step_stands : goal.returns-then-not-step_stands
returns-then-not-step_stands c = line_step _ _ _ (sym c.stands_at.ensures ∙ not-false _ c.if-not-stands_at.false-raw) c.if-r-ne-STEP_KIND.false (sym c.step_stands.ensures ∙ not-true _ c.if-not-step_stands.true-raw)

pub returns : goal.returns
returns c =
    line-asked _ _ _ (sym c.stands_at.ensures ∙ not-false _ c.if-not-stands_at.false-raw) c.if-r-ne-STEP_KIND.false (sym c.step_stands.ensures ∙ not-false _ c.if-not-step_stands.false-raw)
    c.asked_fits.ensures

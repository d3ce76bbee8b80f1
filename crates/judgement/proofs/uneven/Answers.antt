-- What the step asks, held against the width of its signals.
use Rattle.judgement.proofs.WidthLaws.{nothing-asked, any_width, same_width, other_width}
use Rattle.judgement.proofs.uneven.Goals as goal

pub returns-then-step-count : goal.returns-then-step-count
returns-then-step-count c = nothing-asked _ _ _ _ _ c.if-step-count.true

pub returns-in_default : goal.returns-in_default
returns-in_default c = any_width _ _ _ _ _ c.requires c.if-step-count.false (rw c.in_default.is at c.asked_width.ensures)

pub returns-then-asked-width : goal.returns-then-asked-width
returns-then-asked-width c = same_width _ _ _ _ _ c.requires c.if-step-count.false _ (rw c.in-Some.is at c.asked_width.ensures) c.if-asked-width.true

pub returns-else-asked-width : goal.returns-else-asked-width
returns-else-asked-width c = other_width _ _ _ _ _ c.requires c.if-step-count.false _ (rw c.in-Some.is at c.asked_width.ensures) c.if-asked-width.false

-- `cut` meets its contract: where the bounds are not inside, and where they are.
-- Assumes nothing.
use Rattle.signals.proofs.CutLaws.{inside-negative, inside_past, inside-crossed, cut-outside, cut_inside}
use Rattle.signals.proofs.cut.Goals as goal

pub merge-requires : goal.merge-requires
merge-requires c = tt

pub returns-then-h-ge-FIRST_NEGATIVE : goal.returns-then-h-ge-FIRST_NEGATIVE
returns-then-h-ge-FIRST_NEGATIVE c = cut-outside _ _ _ _ c.merge.ensures (inside-negative _ _ _ c.if-h-ge-FIRST_NEGATIVE.true)

pub returns-then-width-h : goal.returns-then-width-h
returns-then-width-h c = cut-outside _ _ _ _ c.merge.ensures (inside_past _ _ _ c.if-h-ge-FIRST_NEGATIVE.false c.if-width-h.true)

pub returns-then-h-l : goal.returns-then-h-l
returns-then-h-l c = cut-outside _ _ _ _ c.merge.ensures (inside-crossed _ _ _ c.if-h-ge-FIRST_NEGATIVE.false c.if-h-l.true)

pub too_wide-requires : goal.too_wide-requires
too_wide-requires c = tt

pub merge-requires-2 : goal.merge-requires-2
merge-requires-2 c = tt

pub returns : goal.returns
returns c = cut_inside _ _ _ _ (rw c.too_wide.ensures at c.merge-2.ensures) c.if-h-ge-FIRST_NEGATIVE.false c.if-width-h.false c.if-h-l.false

-- Cut at the length.
-- Assumes nothing.
use mathlib.Core.Logic.{inl, inr}
use Rattle.show.proofs.StepLaws.{cut-none, cut-some}
use Rattle.show.proofs.cut.Goals as goal
use Rattle.show.proofs.cut.Goals.{else-end-s, then-end-s}

pub returns-then-stop-start : goal.returns-then-stop-start
returns-then-stop-start c = cut-none c.args.s.now c.args.start c.args.end _ ((elim c.if-end-s.branch [ then-end-s w ↦ inl (w.if-end-s.true, w.stop-is) | else-end-s w ↦ inr (w.if-end-s.false, w.stop-is) ])) c.if-stop-start.true

pub returns : goal.returns
returns c = cut-some c.args.s.now c.args.start c.args.end _ ((elim c.if-end-s.branch [ then-end-s w ↦ inl (w.if-end-s.true, w.stop-is) | else-end-s w ↦ inr (w.if-end-s.false, w.stop-is) ])) c.if-stop-start.false

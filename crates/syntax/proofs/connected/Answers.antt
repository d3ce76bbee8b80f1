-- The lower number of both sides, and 10 where their widths differ.
use mathlib.Core.Path.{◌∙◌}
use borrow.Author.Tests.{eq-eqb, ne_eqb}
use Rattle.syntax.proofs.Connections.{both-connected}
use Rattle.syntax.proofs.connected.Goals as goal
use Rattle.syntax.proofs.connected.Goals.{else-left-right, then-left-right}

pub returns : goal.returns
returns c ws f s x y A B =
    rw (c.refused.ensures, c.merge-fault.ensures, c.merge-signals.ensures)
    (both-connected ws f s x y _ _ A B _ ((elim c.if-left-right.branch [ then-left-right w ↦ w.uneven-is ∙ rw (eq-eqb _ _ w.if-left-right.true) | else-left-right w ↦ w.uneven-is ∙ rw (ne_eqb _ _ w.if-left-right.false) ])))

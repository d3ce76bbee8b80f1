-- `told` meets its contract: by both tests.
-- Assumes nothing.
use mathlib.Core.Path.{◌∙◌}
use borrow.Author.Tests.{lt-ltb, le-ltb}
use Rattle.signal_list.specs.Sums.{uneven_fault, total_fault}
use Rattle.signal_list.proofs.SumLaws.{told_is}
use Rattle.signal_list.proofs.told.Goals as goal
use Rattle.signal_list.proofs.told.Goals.{else-sum, else-sum-gt-MOST_SIGNAL_BITS, then-sum, then-sum-gt-MOST_SIGNAL_BITS}

pub returns : goal.returns
unfolding uneven_fault total_fault
returns c =
    told_is _ _ _ _ _
    ((elim c.if-sum.branch [ then-sum w ↦ w.uneven-is ∙ rw w.if-sum.true | else-sum w ↦ w.uneven-is ∙ rw w.if-sum.false ]))
    ((elim c.if-sum-gt-MOST_SIGNAL_BITS.branch [ then-sum-gt-MOST_SIGNAL_BITS w ↦ w.over-is ∙ rw (lt-ltb _ _ w.if-sum-gt-MOST_SIGNAL_BITS.true) | else-sum-gt-MOST_SIGNAL_BITS w ↦ w.over-is ∙ rw (le-ltb _ _ w.if-sum-gt-MOST_SIGNAL_BITS.false) ]))
    c.merge.ensures c.merge-2.ensures

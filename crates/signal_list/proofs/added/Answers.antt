-- `added` meets its contract: by whether it is the first.
-- Assumes nothing.
use Rattle.signal_list.proofs.SumLaws.{added-first, added-later}
use Rattle.signal_list.proofs.added.Goals as goal

pub returns-then-sum-eq0 : goal.returns-then-sum-eq0
returns-then-sum-eq0 c = added-first _ _ _ c.merge-fault.ensures c.if-sum-eq0.true

pub returns-then-sum : goal.returns-then-sum
returns-then-sum c = added-later _ _ _ c.merge-fault.ensures _ c.if-sum-eq0.false (rw c.if-sum.true)

pub returns-else-sum : goal.returns-else-sum
returns-else-sum c = added-later _ _ _ c.merge-fault.ensures _ c.if-sum-eq0.false (rw c.if-sum.false)

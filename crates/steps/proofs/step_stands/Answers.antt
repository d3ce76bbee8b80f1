-- By the scope's number.
-- Assumes nothing.
use Rattle.context.specs.Place.{scope_of}
use Rattle.steps.specs.StepLaws.{none-stands, stands_by, stands-last, tail-stands, sync-stands, switch-stands}
use Rattle.steps.proofs.step_stands.Goals as goal

pub returns-then-scope-le-IN_CELL : goal.returns-then-scope-le-IN_CELL
returns-then-scope-le-IN_CELL c = none-stands _ _ _ _ c.if-scope-le-IN_CELL.true

pub returns-then-scope-eq-IN_PROCESS : goal.returns-then-scope-eq-IN_PROCESS
unfolding scope_of
returns-then-scope-eq-IN_PROCESS c = stands_by _ _ _ _ 3 c.if-scope-eq-IN_PROCESS.true _ c.process_step.ensures

pub returns-then-scope-eq-IN_TAIL : goal.returns-then-scope-eq-IN_TAIL
returns-then-scope-eq-IN_TAIL c = rw c.is_sync.ensures (tail-stands _ _ _ _ c.if-scope-eq-IN_TAIL.true)

pub returns-then-scope-eq-IN_SYNC : goal.returns-then-scope-eq-IN_SYNC
returns-then-scope-eq-IN_SYNC c = rw c.is_sync-then-scope-eq-IN_SYNC.ensures (sync-stands _ _ _ _ c.if-scope-eq-IN_SYNC.true)

pub returns-then-scope-eq-IN_SWITCH : goal.returns-then-scope-eq-IN_SWITCH
returns-then-scope-eq-IN_SWITCH c = switch-stands _ _ _ _ c.if-scope-eq-IN_SWITCH.true

pub returns : goal.returns
returns c = stands-last _ _ _ _ c.if-scope-le-IN_CELL.false c.if-scope-eq-IN_PROCESS.false c.if-scope-eq-IN_TAIL.false c.if-scope-eq-IN_SYNC.false c.if-scope-eq-IN_SWITCH.false _ c.case_step.ensures

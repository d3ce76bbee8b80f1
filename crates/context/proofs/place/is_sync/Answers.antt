-- `place::is_sync` meets its contract.
use borrow.Author.Tests.{le-leb, lt-leb}
use Rattle.context.specs.Place.{is_sync}
use Rattle.context.proofs.place.is_sync.Goals as goal

pub returns-then-step-ge-GLOBAL_STEP : goal.returns-then-step-ge-GLOBAL_STEP
unfolding is_sync
returns-then-step-ge-GLOBAL_STEP c = rw (le-leb _ _ c.if-step-ge-GLOBAL_STEP.true)

pub returns-else-step-ge-GLOBAL_STEP : goal.returns-else-step-ge-GLOBAL_STEP
unfolding is_sync
returns-else-step-ge-GLOBAL_STEP c = rw (lt-leb _ _ c.if-step-ge-GLOBAL_STEP.false)

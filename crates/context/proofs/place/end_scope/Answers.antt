-- `place::end_scope` meets its contract.
use borrow.Author.Tests.{le-leb, lt-leb, eq-eqb, ne_eqb}
use Rattle.context.specs.Place.{end_scope}
use Rattle.context.proofs.place.end_scope.Goals as goal

pub returns-then-scope-le-IN_MODULE : goal.returns-then-scope-le-IN_MODULE
unfolding end_scope
returns-then-scope-le-IN_MODULE c = rw (le-leb _ _ c.if-scope-le-IN_MODULE.true)

pub returns-then-scope-le-IN_SYNC : goal.returns-then-scope-le-IN_SYNC
unfolding end_scope
returns-then-scope-le-IN_SYNC c = rw (lt-leb _ _ c.if-scope-le-IN_MODULE.false, le-leb _ _ c.if-scope-le-IN_SYNC.true)

pub returns-then-depth-eq0 : goal.returns-then-depth-eq0
unfolding end_scope
returns-then-depth-eq0 c = rw (lt-leb _ _ c.if-scope-le-IN_MODULE.false, lt-leb _ _ c.if-scope-le-IN_SYNC.false, eq-eqb _ _ c.if-depth-eq0.true)

pub returns : goal.returns
unfolding end_scope
returns c = rw (lt-leb _ _ c.if-scope-le-IN_MODULE.false, lt-leb _ _ c.if-scope-le-IN_SYNC.false, ne_eqb _ _ c.if-depth-eq0.false)

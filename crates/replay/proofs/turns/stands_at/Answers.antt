-- By the scope.
-- Assumes nothing.
use borrow.Author.Tests.{eq-eqb, ne_eqb}
use Rattle.admitted.specs.Admitted.{kinds}
use Rattle.context.specs.Place.{scope_of}
use Rattle.replay.specs.Turns.{stands_at}
use Rattle.replay.proofs.PlaceLaws.{above-two}
use Rattle.replay.proofs.turns.stands_at.Goals as goal

pub returns-then-p-eq-TOP : goal.returns-then-p-eq-TOP
unfolding stands_at scope_of
returns-then-p-eq-TOP c = rw (eq-eqb _ 0 c.if-p-eq-TOP.true) c.is_top_kind.ensures

pub returns-then-p-eq-IN_MODULE : goal.returns-then-p-eq-IN_MODULE
unfolding stands_at scope_of
returns-then-p-eq-IN_MODULE c = rw (ne_eqb _ 0 c.if-p-eq-TOP.false, eq-eqb _ 1 c.if-p-eq-IN_MODULE.true) c.is_module_kind.ensures

pub returns-then-p-eq-IN_CELL : goal.returns-then-p-eq-IN_CELL
unfolding stands_at scope_of kinds
returns-then-p-eq-IN_CELL c = rw (ne_eqb _ 0 c.if-p-eq-TOP.false, ne_eqb _ 1 c.if-p-eq-IN_MODULE.false, eq-eqb _ 2 c.if-p-eq-IN_CELL.true) c.is_cell_kind.ensures

pub is_process_kind-requires : goal.is_process_kind-requires
is_process_kind-requires c = above-two _ c.if-p-eq-TOP.false c.if-p-eq-IN_MODULE.false c.if-p-eq-IN_CELL.false

pub returns : goal.returns
unfolding stands_at
returns c = c.is_process_kind.ensures

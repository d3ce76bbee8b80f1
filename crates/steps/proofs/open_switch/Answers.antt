-- The invariant: the switch that is open behind all rows is the one behind the first of them, if so many of theirs are closed.
-- Assumes nothing.
use mathlib.Core.Path.{sym, ◌∙◌}
use native.Mathlib.Omega.{arith}
use Rattle.steps.specs.Steps.{widths}
use Rattle.steps.specs.StepLaws.{closed-few}
use Rattle.steps.specs.SearchLaws.{open-stops, open-goes, open-end}
use Rattle.steps.proofs.open_switch.Goals as goal

pub returns-then-switch-closed : goal.returns-then-switch-closed
unfolding widths
returns-then-switch-closed c = open-stops _ _ _ c.loop-row.invariant.same (omega arith) c.is_switch-switch.ensures c.if-switch-closed.true c.column.ensures

pub loop-row-preserved : goal.loop-row-preserved
loop-row-preserved c =
    let loop = c.loop-row in
    let closed = c.closed_before-closed in
    record {
      few = rw closed.ensures (closed-few _ _ _ c.is_end.result c.is_switch-switch.result (omega arith) loop.invariant.few);
      same = open-goes _ _ _ loop.invariant.same (omega arith) c.is_switch-switch.ensures c.if-switch-closed.false c.is_end.ensures closed.ensures;
    }

pub returns : goal.returns
unfolding widths
returns c = sym (c.loop-row.invariant.same ∙ open-end _ _ _ (omega arith))

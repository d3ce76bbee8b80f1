-- The invariant: the lines are those of the first k rows, and not more than the number.
-- Assumes nothing.
use mathlib.Core.Path.{refl}
use native.Mathlib.Omega.{arith}
use lib.Dec.{eqb}
use Rattle.modules.specs.Ranges.{rows_where}
use Rattle.modules.specs.RangeLaws.{turn-from, sum-from, line-stop, line-end}
use Rattle.modules.proofs.module_line.Goals as goal

pub loop-k-init : goal.loop-k-init
unfolding rows_where
loop-k-init c = record { lines_in = refl; few = omega arith }

pub overflow_add-lines : goal.overflow_add-lines
overflow_add-lines c = omega (arith, sum-from (λ x. eqb x 3) _ _ _ c.loop-k.invariant.lines_in _ _ c.first_column.ensures c.from-lines.ensures)

pub returns-then-number-lines : goal.returns-then-number-lines
returns-then-number-lines c =
    let inv = c.loop-k.invariant in
    line-stop _ _ _ _ _ _ inv.lines_in (turn-from (λ x. eqb x 3) _ _ _ inv.lines_in _ _ c.first_column.ensures c.from-lines.ensures) inv.few c.if-number-lines.true c.loop-k-test.true

pub loop-k-preserved : goal.loop-k-preserved
loop-k-preserved c = record {
  lines_in = turn-from (λ x. eqb x 3) _ _ _ c.loop-k.invariant.lines_in _ _ c.first_column.ensures c.from-lines.ensures;
  few = omega (arith, c.if-number-lines.false);
}

pub returns : goal.returns
returns c = line-end _ _ _ _ _ (omega arith) c.loop-k.invariant.lines_in c.loop-k.invariant.few

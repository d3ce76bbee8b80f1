use Prim.Native.Nat.{◌-◌}
use native.Mathlib.Omega.{arith}
use Rattle.reading_step.proofs.StepLaws.{next-indexed}
use Rattle.file_lines.proofs.FileLaws.{reached-fits, less, before, reached-more, landed-settled, landed-stop, landed-end}
use Rattle.file_lines.proofs.read_lines.Goals as goal

pub overflow_sub-line : goal.overflow_sub-line
overflow_sub-line c = (reached-fits c.loop-line.invariant.before.reached _ c.loop-line.invariant.before.is).low

pub take_line-requires-clause-line_fits : goal.take_line-requires-clause-line_fits
take_line-requires-clause-line_fits c = (reached-fits c.loop-line.invariant.before.reached _ c.loop-line.invariant.before.is, omega (arith, c.if-tokens-line.false))

pub returns-then-is_settled : goal.returns-then-is_settled
returns-then-is_settled c =
    landed-settled c.loop-line.invariant.before.reached _ c.loop-line.invariant.before.is _ _ c.take_line.ensures.step_as _ c.in-Ok.is _ c.is_settled.ensures c.if-is_settled.true

pub returns-in-Err : goal.returns-in-Err
returns-in-Err c =
    landed-stop c.loop-line.invariant.before.reached _ c.loop-line.invariant.before.is _ _ c.take_line.ensures.step_as _ c.in-Err.is

pub loop-line-smaller : goal.loop-line-smaller
loop-line-smaller c =
    less c.loop-line.invariant.before _ c.loop-line-test.true c.line_at-line.ensures

pub loop-line-preserved : goal.loop-line-preserved
loop-line-preserved c =
    let before-line = c.loop-line.invariant.before in record {
      before = before _ _ (reached-more before-line.reached _ before-line.is _ _ c.take_line.ensures.step_as _ c.in-Ok.is _ c.is_settled.ensures _ c.if-is_settled.false c.take_line.auto.scratch) c.line_at-line.ensures;
      lines_indexed = next-indexed c.in-Ok.is c.take_line.ensures.step_indexed;
    }

pub returns : goal.returns
returns c = landed-end c.loop-line.invariant.before.reached _ c.loop-line-test.false c.finish.ensures

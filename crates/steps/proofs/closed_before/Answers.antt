-- By the two tests.
-- Assumes nothing.
use native.Mathlib.Omega.{arith}
use borrow.Author.Tests.{ltb-true}
use Rattle.lists.specs.Tests.{and-true-right}
use Rattle.steps.specs.StepLaws.{closed-more, closed-less, closed_same}
use Rattle.steps.proofs.closed_before.Goals as goal

pub returns-then-end : goal.returns-then-end
returns-then-end c = closed-more _ _ c.args.switch c.if-end.true

pub overflow_sub-result : goal.overflow_sub-result
overflow_sub-result c = omega (arith, ltb-true 0 c.args.closed (and-true-right c.args.switch _ c.if-switch-closed.true))

pub returns-then-switch-closed : goal.returns-then-switch-closed
returns-then-switch-closed c = closed-less _ _ c.args.switch c.if-end.false c.if-switch-closed.true

pub returns : goal.returns
returns c = closed_same _ _ c.args.switch c.if-end.false c.if-switch-closed.false

-- `sizes::plus` meets its contract.
use mathlib.Core.Path.{refl}
use native.Mathlib.Omega.{arith}
use Rattle.context.specs.Sizes.{plus_of}
use Rattle.context.proofs.sizes.plus.Goals as goal

pub overflow_add-result : goal.overflow_add-result
overflow_add-result c = omega (arith, c.requires)

pub overflow_add-result-2 : goal.overflow_add-result-2
overflow_add-result-2 c = omega (arith, c.requires)

pub overflow_add-result-3 : goal.overflow_add-result-3
overflow_add-result-3 c = omega (arith, c.requires)

pub overflow_add-result-4 : goal.overflow_add-result-4
overflow_add-result-4 c = omega (arith, c.requires)

pub overflow_add-result-5 : goal.overflow_add-result-5
overflow_add-result-5 c = omega (arith, c.requires)

pub overflow_add-result-6 : goal.overflow_add-result-6
overflow_add-result-6 c = omega (arith, c.requires)

pub overflow_add-result-7 : goal.overflow_add-result-7
overflow_add-result-7 c = omega (arith, c.requires)

pub overflow_add-result-8 : goal.overflow_add-result-8
overflow_add-result-8 c = omega (arith, c.requires)

pub overflow_add-result-9 : goal.overflow_add-result-9
overflow_add-result-9 c = omega (arith, c.requires)

pub overflow_add-result-10 : goal.overflow_add-result-10
overflow_add-result-10 c = omega (arith, c.requires)

pub overflow_add-result-11 : goal.overflow_add-result-11
overflow_add-result-11 c = omega (arith, c.requires)

pub overflow_add-result-12 : goal.overflow_add-result-12
overflow_add-result-12 c = omega (arith, c.requires)

pub overflow_add-result-13 : goal.overflow_add-result-13
overflow_add-result-13 c = omega (arith, c.requires)

pub overflow_add-result-14 : goal.overflow_add-result-14
overflow_add-result-14 c = omega (arith, c.requires)

pub overflow_add-result-15 : goal.overflow_add-result-15
overflow_add-result-15 c = omega (arith, c.requires)

pub returns : goal.returns
unfolding plus_of
returns c = refl

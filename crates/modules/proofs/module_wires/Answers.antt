-- The invariant: the counts are those of the first k rows.
-- Assumes nothing.
use mathlib.Core.Path.{◌≡◌, refl}
use native.Mathlib.Omega.{arith}
use lib.Dec.{eqb, ltb}
use Rattle.modules.specs.Ranges.{rows_where, wire_range}
use Rattle.modules.specs.RangeLaws.{turn-from, sum-from}
use Rattle.modules.proofs.module_wires.Goals as goal

pub loop-k-init : goal.loop-k-init
unfolding rows_where
loop-k-init c = record { below = refl; own = refl }

pub overflow_add-first : goal.overflow_add-first
overflow_add-first c = omega (arith, sum-from (λ x. ltb x _) _ _ _ c.loop-k.invariant.below _ _ c.first_column-module.ensures c.from-first.ensures)

pub overflow_add-count : goal.overflow_add-count
overflow_add-count c = omega (arith, sum-from (λ x. eqb x _) _ _ _ c.loop-k.invariant.own _ _ c.first_column-module.ensures c.from-count.ensures)

pub loop-k-preserved : goal.loop-k-preserved
loop-k-preserved c = record {
  below = turn-from (λ x. ltb x _) _ _ _ c.loop-k.invariant.below _ _ c.first_column-module.ensures c.from-first.ensures;
  own = turn-from (λ x. eqb x _) _ _ _ c.loop-k.invariant.own _ _ c.first_column-module.ensures c.from-count.ensures;
}

pub returns : goal.returns
unfolding wire_range
returns c =
    let e : c.loop-k.k ≡ c.args.total = omega arith in
    rw (c.loop-k.invariant.below, c.loop-k.invariant.own, e)

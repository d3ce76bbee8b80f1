-- One option more is held, or the name ends the line, or it has no shape.
-- Assumes nothing.
use mathlib.Core.Path.{◌∙◌}
use native.Mathlib.Omega.{arith}
use Rattle.options.proofs.Held.{counts, counts-flag, option-number}
use Rattle.options.proofs.Rest.{start, next}
use Rattle.options.proofs.line_of.Goals as goal

pub loop-c-init : goal.loop-c-init
loop-c-init c f = start f _ _ _ _ c.no_options-options.ensures

pub returns-in_err-c : goal.returns-in_err-c
returns-in_err-c c f =
    let q = rw c.in_err-c.was at c.option.ensures in
    let R = c.loop-c.invariant f in
    rw c.from_residual.ensures (R.same ∙ q f R.turns R.so_far R.enough)

pub loop-c-smaller-in-Flag : goal.loop-c-smaller-in-Flag
loop-c-smaller-in-Flag c = let q = rw (c.in_ok-c.was, c.in-Flag.is) at c.option.ensures in omega (arith, q.1.inside)

pub loop-c-preserved-in-Flag : goal.loop-c-preserved-in-Flag
loop-c-preserved-in-Flag c f = let q = rw (c.in_ok-c.was, c.in-Flag.is) at c.option.ensures in next f _ _ _ _ _ _ _ _ _ q.1 (omega arith) (c.loop-c.invariant f) (counts-flag _) (c.with_flag-options.ensures f)

pub loop-c-smaller : goal.loop-c-smaller
loop-c-smaller c = let q = rw (c.in_ok-c.was, c.in-Number.is) at c.option.ensures in omega (arith, q.1.inside)

pub loop-c-preserved : goal.loop-c-preserved
loop-c-preserved c f = let q = rw (c.in_ok-c.was, c.in-Number.is) at c.option.ensures in next f _ _ _ _ _ _ _ _ _ q.1 (omega arith) (c.loop-c.invariant f) (counts _ (option-number _ q.1.option q.0) _) (c.with_number-options.ensures f)

pub returns-in-Done : goal.returns-in-Done
returns-in-Done c f =
    let q = rw (c.in_ok-c.was, c.in-Done.is) at c.option.ensures in
    let R = c.loop-c.invariant f in
    (R.so_far, R.same ∙ q f R.turns R.so_far R.enough, R.holds)

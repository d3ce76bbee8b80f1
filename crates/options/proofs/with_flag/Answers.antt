-- No number changes.
-- Assumes nothing.
use mathlib.Core.Path.{refl}
use native.Mathlib.Omega.{arith}
use Rattle.options.specs.Forms.{is_flag}
use Rattle.options.proofs.Held.{flag-range, took-flag}
use Rattle.options.proofs.with_flag.Goals as goal

pub returns-then-c-eq-UPTO : goal.returns-then-c-eq-UPTO
unfolding is_flag
returns-then-c-eq-UPTO c f = took-flag f _ _ _ 12 c.if-c-eq-UPTO.true refl c.twice.ensures

pub returns-else-c-eq-UPTO : goal.returns-else-c-eq-UPTO
unfolding is_flag
returns-else-c-eq-UPTO c f =
    let q = flag-range c.args.c c.requires in
    took-flag f _ _ _ 13 (omega (arith, q.0, q.1, c.if-c-eq-UPTO.false)) refl c.twice.ensures

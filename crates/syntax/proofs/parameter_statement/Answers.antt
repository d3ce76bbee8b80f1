-- With a constant, by the constant.
use mathlib.Core.Path.{refl}
use Rattle.syntax.proofs.ShapeLaws.{plain_open, bad-number, stated, left_with}
use Rattle.syntax.proofs.parameter_statement.Goals as goal

pub returns-in_err-good_constant : goal.returns-in_err-good_constant
unfolding plain_open
returns-in_err-good_constant c w ws s =
    let e = c.in_err-good_constant.ensures in
    left_with c.from_residual.ensures e.1 (rw c.in-Some.is (bad-number ws _ s (rw e.0)))

pub returns-in_ok-good_constant : goal.returns-in_ok-good_constant
unfolding plain_open
returns-in_ok-good_constant c w ws s =
    let g = c.in_ok-good_constant.ensures in
    rw c.in-Some.is (stated ws _ s _ refl refl (rw g) refl refl refl refl (record { good = g; whole = rw c.in-Some.is at w }) refl)

pub returns-in_default : goal.returns-in_default
unfolding plain_open
returns-in_default c w ws s = rw c.in_default.is (stated ws _ s _ refl refl refl refl refl refl refl tt refl)

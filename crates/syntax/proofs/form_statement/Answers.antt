-- By the form.
use mathlib.Core.Path.{refl}
use Rattle.numbers.specs.SignedLaws.{number-back}
use Rattle.syntax.proofs.ShapeLaws.{plain_open, bad-number, stated, left_by, left_with}
use Rattle.syntax.specs.declared.Statement.TheVariants.{End}
use Rattle.syntax.proofs.form_statement.Goals as goal

pub returns-in_err-word-in-Autoidx : goal.returns-in_err-word-in-Autoidx
unfolding plain_open
returns-in_err-word-in-Autoidx c w ws s =
    let e = c.in_err-word-in-Autoidx.ensures in
    left_by c.from_residual.ensures e.value e.ok_part (rw c.in-Autoidx.is (bad-number ws _ s (rw (rw e.ok_part at c.integer_of.ensures))))

pub returns-in_err-good_constant-in-Attribute : goal.returns-in_err-good_constant-in-Attribute
unfolding plain_open
returns-in_err-good_constant-in-Attribute c w ws s =
    let e = c.in_err-good_constant-in-Attribute.ensures in
    left_with c.from_residual-in_err-good_constant-in-Attribute.ensures e.1 (rw c.in-Attribute.is (bad-number ws _ s (rw e.0)))

pub returns-in_err-good_constant-in-CellParameter : goal.returns-in_err-good_constant-in-CellParameter
unfolding plain_open
returns-in_err-good_constant-in-CellParameter c w ws s =
    let e = c.in_err-good_constant-in-CellParameter.ensures in
    left_with c.from_residual-in_err-good_constant-in-CellParameter.ensures e.1 (rw c.in-CellParameter.is (bad-number ws _ s (rw e.0)))

pub returns-in_ok-word-in-Autoidx : goal.returns-in_ok-word-in-Autoidx
unfolding plain_open
returns-in_ok-word-in-Autoidx c w ws s =
    let n = rw c.in_ok-word-in-Autoidx.ensures.ok_part at c.integer_of.ensures in
    rw c.in-Autoidx.is (stated ws _ s _ refl refl (rw n.0) refl refl refl refl tt (rw (number-back _ _ n.0 n.1)))

pub returns-in_ok-good_constant-in-Attribute : goal.returns-in_ok-good_constant-in-Attribute
unfolding plain_open
returns-in_ok-good_constant-in-Attribute c w ws s =
    let g = c.in_ok-good_constant-in-Attribute.ensures in
    rw c.in-Attribute.is (stated ws _ s _ refl refl (rw g) refl refl refl refl (record { good = g; whole = rw c.in-Attribute.is at w }) refl)

pub returns-in-Module : goal.returns-in-Module
unfolding plain_open
returns-in-Module c w ws s = rw c.in-Module.is (stated ws _ s _ refl refl refl refl refl refl refl tt refl)

pub returns-in-Cell : goal.returns-in-Cell
unfolding plain_open
returns-in-Cell c w ws s = rw c.in-Cell.is (stated ws _ s _ refl refl refl refl refl refl refl tt refl)

pub returns-in_ok-good_constant-in-CellParameter : goal.returns-in_ok-good_constant-in-CellParameter
unfolding plain_open
returns-in_ok-good_constant-in-CellParameter c w ws s =
    let g = c.in_ok-good_constant-in-CellParameter.ensures in
    let x = rw c.in-CellParameter.is at w in
    rw c.in-CellParameter.is (stated ws _ s _ refl refl (rw g) refl refl refl refl (x.0, record { good = g; whole = x.1 }) refl)

pub returns-in-Process : goal.returns-in-Process
unfolding plain_open
returns-in-Process c w ws s = rw c.in-Process.is (stated ws _ s _ refl refl refl refl refl refl refl tt refl)

pub returns-in-End : goal.returns-in-End
unfolding plain_open
returns-in-End c w ws s = rw c.in-End.is (stated ws _ s End refl refl refl refl refl refl refl tt refl)

-- The signals up to the line's end, of which there are as many as the step has.
use mathlib.Core.Path.{refl, sym, ◌∙◌}
use native.Mathlib.Omega.{arith}
use Rattle.syntax.proofs.ShapeLaws.{left_by}
use Rattle.syntax.proofs.Steps.{step-broken, step-miscounted, step-judged}
use Rattle.syntax.proofs.step_statement.Goals as goal

pub returns-in_err-list : goal.returns-in_err-list
returns-in_err-list c =
    let e = c.in_err-list.ensures in
    let code = c.requires.step_from.0 in
    left_by c.from_residual.ensures e.value e.ok_part (step-broken _ _ _ _ _ _ code.0 code.1 _ refl (rw e.ok_part at c.signals_from.ensures.read))

pub returns-then-not-arity_fits : goal.returns-then-not-arity_fits
returns-then-not-arity_fits c =
    let code = c.requires.step_from.0 in
    let L = rw c.in_ok-list.ensures.ok_part at c.signals_from.ensures.read in
    step-miscounted _ _ _ _ _ _ code.0 code.1 _ refl _ L (sym (c.arity_fits.ensures.fits code.0 code.1) ∙ c.if-not-arity_fits.true)

pub returns : goal.returns
returns c =
    let code = c.requires.step_from.0 in
    let L = rw c.in_ok-list.ensures.ok_part at c.signals_from.ensures.read in
    rw c.refused.ensures
    (step-judged _ _ _ _ _ _ code.0 code.1 _ refl _ L (sym (c.arity_fits.ensures.fits code.0 code.1) ∙ c.if-not-arity_fits.false)
    (omega (arith, L.few, c.requires.ready.rows.rows)))

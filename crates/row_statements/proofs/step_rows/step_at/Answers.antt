-- The step and its count, the widths, the bits, then the row.
-- Assumes nothing.
use mathlib.Core.Path.{refl, sym, ◌∙◌}
use native.Mathlib.Omega.{arith}
use borrow.Author.Tests.{not-true, not-false}
use Rattle.rules.specs.Layout.{padded, row}
use Rattle.tables.specs.Row.{words}
use Rattle.row_statements.proofs.StepRowLaws.{fits-small, step-arity, step-uneven, step-bits, step-settled}
use Rattle.row_statements.proofs.step_rows.step_at.Goals as goal

pub returns-then-not-arity_fits : goal.returns-then-not-arity_fits
returns-then-not-arity_fits c = step-arity _ _ _ _ _ c.arity_fits.ensures (not-true _ c.if-not-arity_fits.true-raw)

pub returns-then-not-even_fits : goal.returns-then-not-even_fits
returns-then-not-even_fits c = step-uneven _ _ _ _ _ (sym c.even_fits.ensures ∙ not-true _ c.if-not-even_fits.true-raw)

pub overflow_mul-size : goal.overflow_mul-size
overflow_mul-size c = omega (arith, fits-small _ _ (sym c.even_fits.ensures ∙ not-false _ c.if-not-even_fits.false-raw))

pub returns-then-not-bits_stand : goal.returns-then-not-bits_stand
returns-then-not-bits_stand c = step-bits _ _ _ _ _ (λ names. sym (c.bits_stand.ensures names) ∙ not-true _ c.if-not-bits_stand.true-raw)

pub returns : goal.returns
unfolding words row padded
returns c =
    let arity-fits = c.arity_fits in
    let if1 = c.if-not-arity_fits in
    let even-fits = c.even_fits in
    let if2 = c.if-not-even_fits in
    let bits-stand = c.bits_stand in
    let if3 = c.if-not-bits_stand in
    step-settled _ _ _ _ _ arity-fits.ensures (not-false _ if1.false-raw) (sym even-fits.ensures ∙ not-false _ if2.false-raw)
    (λ names. sym (bits-stand.ensures names) ∙ not-false _ if3.false-raw) _ refl _ c.settle.ensures

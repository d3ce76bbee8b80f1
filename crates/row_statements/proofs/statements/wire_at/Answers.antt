-- The name, the row in the table of wires, the rules, then the row.
-- Assumes nothing.
use mathlib.Core.Path.{refl, sym, ◌∙◌}
use borrow.Author.Tests.{not-true, not-false}
use Rattle.rules.specs.Layout.{padded, row}
use Rattle.tables.specs.Row.{words}
use Rattle.row_statements.proofs.WireLaws.{wire-name, wire-row, wire-rules, wire-settled}
use Rattle.row_statements.proofs.statements.wire_at.Goals as goal

pub returns-then-not-name_stands : goal.returns-then-not-name_stands
returns-then-not-name_stands c = wire-name _ _ _ _ _ (sym c.name_stands.ensures ∙ not-true _ c.if-not-name_stands.true-raw)

pub returns-then-not-wire_row_stands : goal.returns-then-not-wire_row_stands
returns-then-not-wire_row_stands c = wire-row _ _ _ _ _ _ c.wire_row_stands.ensures (not-true _ c.if-not-wire_row_stands.true-raw)

pub returns-then-not-wire_fits : goal.returns-then-not-wire_fits
returns-then-not-wire_fits c = wire-rules _ _ _ _ _ (sym (c.wire_fits.ensures c.args.design.now.names.now) ∙ not-true _ c.if-not-wire_fits.true-raw)

pub returns : goal.returns
unfolding words row padded
returns c =
    let args = c.args in
    let name-stands = c.name_stands in
    let if1 = c.if-not-name_stands in
    let wire-row-stands = c.wire_row_stands in
    let if2 = c.if-not-wire_row_stands in
    let wire-fits = c.wire_fits in
    wire-settled _ _ _ _ _ (sym name-stands.ensures ∙ not-false _ if1.false-raw) _ wire-row-stands.ensures
    (not-false _ if2.false-raw) (sym (wire-fits.ensures args.design.now.names.now) ∙ not-false _ c.if-not-wire_fits.false-raw)
    _ refl _ c.settle.ensures

-- The name, the signal, then the row.
-- Assumes nothing.
use mathlib.Core.Path.{refl, sym, ◌∙◌}
use borrow.Author.Tests.{not-true, not-false}
use Rattle.rules.specs.Layout.{padded, row}
use Rattle.tables.specs.Row.{words}
use Rattle.row_statements.proofs.WireLaws.{port-name, port-signal, port-settled}
use Rattle.row_statements.proofs.statements.cell_connection_at.Goals as goal

pub returns-then-not-name_stands : goal.returns-then-not-name_stands
returns-then-not-name_stands c = port-name _ _ _ _ _ _ (sym c.name_stands.ensures ∙ not-true _ c.if-not-name_stands.true-raw)

pub returns-then-not-signal_stands : goal.returns-then-not-signal_stands
returns-then-not-signal_stands c = port-signal _ _ _ _ _ _ (sym (c.signal_stands.ensures c.args.design.now.names.now) ∙ not-true _ c.if-not-signal_stands.true-raw)

pub returns : goal.returns
unfolding words row padded
returns c =
    let args = c.args in
    let name-stands = c.name_stands in
    let if1 = c.if-not-name_stands in
    let signal-stands = c.signal_stands in
    port-settled _ _ _ _ _ _ (sym name-stands.ensures ∙ not-false _ if1.false-raw)
    (sym (signal-stands.ensures args.design.now.names.now) ∙ not-false _ c.if-not-signal_stands.false-raw) _ refl _
    c.settle.ensures

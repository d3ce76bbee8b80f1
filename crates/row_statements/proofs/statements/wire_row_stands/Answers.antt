-- The row's place, its flags and number, then the row.
-- Assumes nothing.
use mathlib.Core.Path.{sym, ◌∙◌}
use native.Mathlib.Omega.{arith}
use borrow.Author.Tests.{not-true, not-false}
use Rattle.tables.specs.Row.{words}
use Rattle.row_statements.proofs.WireLaws.{wire-short, wire-flags, wire-number, wire-row-settled}
use Rattle.row_statements.proofs.statements.wire_row_stands.Goals as goal

pub returns-then-wires-at : goal.returns-then-wires-at
returns-then-wires-at c = wire-short _ _ _ c.if-wires-at.true

pub returns-then-q-gt-MOST_FLAGS : goal.returns-then-q-gt-MOST_FLAGS
returns-then-q-gt-MOST_FLAGS c = wire-flags _ _ _ c.if-wires-at.false _ c.get_row-q.ensures c.if-q-gt-MOST_FLAGS.true

pub returns-then-not-port_number_stands : goal.returns-then-not-port_number_stands
returns-then-not-port_number_stands c = wire-number _ _ _ c.if-wires-at.false _ c.get_row-q.ensures (sym c.port_number_stands.ensures ∙ not-true _ c.if-not-port_number_stands.true-raw)

pub returns : goal.returns
unfolding words
returns c =
    let if1 = c.if-wires-at in
    let get-row = c.get_row-q in
    let if2 = c.if-q-gt-MOST_FLAGS in
    let port-number-stands = c.port_number_stands in
    let if3 = c.if-not-port_number_stands in
    wire-row-settled _ _ _ if1.false _ get-row.ensures if2.false
    (sym port-number-stands.ensures ∙ not-false _ if3.false-raw) (omega arith) _
    (rw c.last_module.ensures) _ c.same_row.ensures

use mathlib.Core.List.{[]}
use mathlib.Core.Path.{refl, sym, ◌∙◌}
use native.Mathlib.Omega.{arith}
use borrow.Author.Tests.{not-true, not-false}
use Rattle.rules.specs.Layout.{padded, row}
use Rattle.tables.specs.Row.{words}
use Rattle.row_statements.proofs.PartLaws.{signal-few}
use Rattle.row_statements.proofs.WireLaws.{connection-left, connection-right, connection-widths, connection-settled}
use Rattle.row_statements.proofs.statements.connection_at.Goals as goal

pub returns-then-not-signal_stands : goal.returns-then-not-signal_stands
returns-then-not-signal_stands c = connection-left _ _ _ _ _ (λ names. sym (c.signal_stands.ensures names) ∙ not-true _ c.if-not-signal_stands.true-raw)

pub overflow_add-second : goal.overflow_add-second
overflow_add-second c = omega (arith, c.requires, signal-few _ _ _ _ (sym (c.signal_stands.ensures []) ∙ not-false _ c.if-not-signal_stands.false-raw))

pub returns-then-not-signal_stands-2 : goal.returns-then-not-signal_stands-2
returns-then-not-signal_stands-2 c = connection-right _ _ _ _ _ (λ names. sym (c.signal_stands-2.ensures names) ∙ not-true _ c.if-not-signal_stands-2.true-raw)

pub returns-then-r : goal.returns-then-r
returns-then-r c = connection-widths _ _ _ _ _ c.if-r.true

pub overflow_add-r : goal.overflow_add-r
overflow_add-r c =
    let signal-stands = c.signal_stands in
    let if1 = c.if-not-signal_stands in
    let signal-stands2 = c.signal_stands-2 in
    let if2 = c.if-not-signal_stands-2 in
    omega (
      arith,
      signal-few _ _ _ _ (sym (signal-stands.ensures []) ∙ not-false _ if1.false-raw),
      signal-few _ _ _ _ (sym (signal-stands2.ensures []) ∙ not-false _ if2.false-raw),
    )

pub returns : goal.returns
unfolding words row padded
returns c =
    let signal-stands = c.signal_stands in
    let if1 = c.if-not-signal_stands in
    let signal-stands2 = c.signal_stands-2 in
    let if2 = c.if-not-signal_stands-2 in
    let if3 = c.if-r in
    connection-settled _ _ _ _ _ (λ names. sym (signal-stands.ensures names) ∙ not-false _ if1.false-raw)
    (λ names. sym (signal-stands2.ensures names) ∙ not-false _ if2.false-raw) if3.false _ refl _
    c.settle.ensures

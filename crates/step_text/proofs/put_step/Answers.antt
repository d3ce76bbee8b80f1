-- The words, then the signals, or nothing.
-- Assumes nothing.
use mathlib.Core.Path.{sym, ◌∙◌}
use Rattle.text.specs.Written.{written_none, written-most, written_then, written_as}
use Rattle.step_text.specs.StepLaws.{row-none, row_step}
use borrow.Author.Tests.{not-true, not-false}
use Rattle.step_text.proofs.put_step.Goals as goal

pub returns-then-not-names_step : goal.returns-then-not-names_step
returns-then-not-names_step c =
    let args = c.args in
    let pre = c.requires in
    let column = c.column-step in
    let names-step = c.names_step in
    written_as (written_none args.at args.out.now pre.0)
    (row-none _ _ _ _ _ column.ensures (sym names-step.ensures ∙ not-true _ c.if-not-names_step.true-raw))

pub put_signals-requires : goal.put_signals-requires
put_signals-requires c =
    let pre = c.requires in
    let put-words = c.put_words-end in
    (written-most put-words.ensures, pre.1, pre.2)

pub returns : goal.returns
returns c =
    let column = c.column-step in
    let names-step = c.names_step in
    let if1 = c.if-not-names_step in
    let put-words = c.put_words-end in
    let put-signals = c.put_signals in
    written_as (written_then put-words.ensures put-signals.ensures)
    (row_step _ _ _ _ _ column.ensures (sym names-step.ensures ∙ not-false _ if1.false-raw))

pub shape_of-out : goal.shape_of-out
shape_of-out c = (returns c).kept

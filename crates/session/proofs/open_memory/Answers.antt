use Rattle.std.proofs.lemmas.Result.{err_from_is_err_and}
use mathlib.Core.Path.{refl, sym, ◌∙◌}
use borrow.Author.Tests.{not-true, not-false}
use Rattle.netlist.specs.Results.{lent}
use Rattle.netlist.specs.Lengths.{right_lengths}
use Rattle.session.specs.Steps.{wrong-sizes}
use Rattle.session.proofs.OpenLaws.{held-open, err_refused}
use Rattle.session.proofs.open_memory.Goals as goal

pub returns-then-not-right_lengths : goal.returns-then-not-right_lengths
unfolding right_lengths
returns-then-not-right_lengths c = wrong-sizes (sym c.right_lengths.ensures ∙ not-true _ c.if-not-right_lengths.true-raw) refl

pub returns-in_err-behind : goal.returns-in_err-behind
unfolding right_lengths
returns-in_err-behind c =
    let p = err_from_is_err_and c.from_residual.result c.from_residual.ensures.1 in
    rw p.1
    (err_refused (lent c.args.design.now.names.now c.args.design.now.strings.now c.args.design.now.bits.now c.args.design.now.wires.now c.args.design.now.rows.now c.args.design.now.renames c.args.design.now.room) _
    c.judge_memory.ensures (sym c.right_lengths.ensures ∙ not-false _ c.if-not-right_lengths.false-raw) c.in_err-behind.ensures.ok_part _ c.in_err-behind.ensures.value _ p.2)

pub returns : goal.returns
unfolding right_lengths
returns c =
    held-open (lent c.args.design.now.names.now c.args.design.now.strings.now c.args.design.now.bits.now c.args.design.now.wires.now c.args.design.now.rows.now c.args.design.now.renames c.args.design.now.room) _
    c.judge_memory.ensures (sym c.right_lengths.ensures ∙ not-false _ c.if-not-right_lengths.false-raw) _ c.in_ok-behind.ensures.ok_part

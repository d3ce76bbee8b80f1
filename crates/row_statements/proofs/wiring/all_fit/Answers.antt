use Rattle.std.proofs.Common.{sym, ◌∙◌, arith}
use borrow.Author.Tests.{not-true, not-false}
use Rattle.row_statements.proofs.PartLaws.{all-from, all-done}
use Rattle.row_statements.proofs.wiring.all_fit.Goals as goal

pub returns-then-not-bit_fits : goal.returns-then-not-bit_fits
returns-then-not-bit_fits c names =
    let unfit = sym (c.bit_fits.ensures names) ∙ not-true _ c.if-not-bit_fits.true-raw in
    sym (c.loop-code.invariant names ∙ all-from _ c.args.codes.now c.loop-code.code-index (omega arith) ∙ rw unfit)

pub loop-code-preserved : goal.loop-code-preserved
loop-code-preserved c names =
    let fits = sym (c.bit_fits.ensures names) ∙ not-false _ c.if-not-bit_fits.false-raw in
    c.loop-code.invariant names ∙ all-from _ c.args.codes.now c.loop-code.code-index (omega arith) ∙ rw fits

pub returns : goal.returns
returns c names = sym (c.loop-code.invariant names ∙ all-done _ c.args.codes.now c.loop-code.code-index (omega arith))

-- One law for each return.
use mathlib.Core.Path.{sym, ◌∙◌}
use native.Mathlib.Omega.{arith}
use borrow.Author.Tests.{not-true, not-false}
use Rattle.lists.specs.Bytes.{legal-short}
use Rattle.plain.specs.FormLaws.{form-length}
use Rattle.plain.proofs.AnswerLaws.{turned-illegal, turned-short, turned-there}
use Rattle.plain.proofs.plain_form.Goals as goal

pub returns-then-not-legal : goal.returns-then-not-legal
returns-then-not-legal c = turned-illegal c.args.name.now c.args.out.now (sym c.legal.ensures ∙ not-true _ c.if-not-legal.true-raw)

pub form_size-size-requires : goal.form_size-size-requires
form_size-size-requires c = omega (arith, legal-short c.args.name.now (sym c.legal.ensures ∙ not-false _ c.if-not-legal.false-raw))

pub returns-then-out-size : goal.returns-then-out-size
returns-then-out-size c = turned-short c.args.name.now c.args.out.now (sym c.legal.ensures ∙ not-false _ c.if-not-legal.false-raw) _ c.form_size-size.ensures c.if-out-size.true

pub overflow_cast-result : goal.overflow_cast-result
overflow_cast-result c =
    let args = c.args in
    let legal = c.legal in
    let if1 = c.if-not-legal in
    let form-size = c.form_size-size in
    omega (arith, form-size.ensures, form-length args.name.now (sym legal.ensures ∙ not-false _ if1.false-raw))

pub returns : goal.returns
returns c =
    let args = c.args in
    let legal = c.legal in
    let if1 = c.if-not-legal in
    let form-size = c.form_size-size in
    let if2 = c.if-out-size in
    let put-form = c.put_form in
    turned-there args.name.now args.out.now (sym legal.ensures ∙ not-false _ if1.false-raw) _ form-size.ensures if2.false put-form.ensures

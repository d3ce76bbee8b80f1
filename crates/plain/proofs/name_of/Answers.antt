-- One law for each return.
use native.Mathlib.Omega.{arith}
use borrow.Author.Tests.{not-true, not-false}
use Rattle.plain.proofs.AnswerLaws.{back_long, name-end, back_none, back-short, back-there}
use borrow.Author.Rules.{rules}
use Rattle.plain.proofs.name_of.Goals as goal

pub returns-then-form-gt-LONGEST_FORM : goal.returns-then-form-gt-LONGEST_FORM
returns-then-form-gt-LONGEST_FORM c = back_long c.args.form.now c.args.out.now c.if-form-gt-LONGEST_FORM.true

pub slice_bounds-is_form_of-end : goal.slice_bounds-is_form_of-end
slice_bounds-is_form_of-end c = omega (arith, name-end c.args.form.now c.put_name-end.ensures c.if-form-gt-LONGEST_FORM.false (search rules))

pub returns-then-not-is_form_of : goal.returns-then-not-is_form_of
returns-then-not-is_form_of c =
    let args = c.args in
    let if1 = c.if-form-gt-LONGEST_FORM in
    let put-name = c.put_name-end in
    let is-form-of = c.is_form_of in
    let if2 = c.if-not-is_form_of in
    back_none args.form.now put-name.ensures if1.false (search rules) _ is-form-of.ensures args.out.now (not-true _ if2.true-raw)

pub returns-then-out-end : goal.returns-then-out-end
returns-then-out-end c =
    let args = c.args in
    let if1 = c.if-form-gt-LONGEST_FORM in
    let put-name = c.put_name-end in
    let is-form-of = c.is_form_of in
    let if2 = c.if-not-is_form_of in
    let if3 = c.if-out-end in
    back-short args.form.now put-name.ensures if1.false (search rules) _ is-form-of.ensures args.out.now (not-false _ if2.false-raw) if3.true

pub returns : goal.returns
returns c =
    let args = c.args in
    let if1 = c.if-form-gt-LONGEST_FORM in
    let put-name = c.put_name-end in
    let is-form-of = c.is_form_of in
    let if2 = c.if-not-is_form_of in
    let if3 = c.if-out-end in
    let stored = c.store in
    back-there args.form.now put-name.ensures if1.false (search rules) _ is-form-of.ensures args.out.now (not-false _ if2.false-raw) if3.false stored.ensures

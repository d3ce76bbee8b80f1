-- The first byte, and those behind it.
use mathlib.Core.Path.{sym}
use borrow.Author.Tests.{eq-eqb, ne_eqb}
use Rattle.plain.specs.Put.{put-none, put_as}
use Rattle.plain.proofs.AnswerLaws.{name-none, name-some, first_then}
use Rattle.plain.proofs.put_name.Goals as goal
use Rattle.plain.proofs.put_name.Goals.{else-form-eq112, then-form-eq112}

pub returns-then-form-eq0 : goal.returns-then-form-eq0
returns-then-form-eq0 c = put_as (put-none 0 c.args.out.now) (sym (name-none _ c.if-form-eq0.true))

pub returns : goal.returns
returns c =
    let args = c.args in
    let if1 = c.if-form-eq0 in
    let if2 = c.if-form-eq112 in
    let put-taken = c.put_taken in
    first_then (name-some args.form.now if1.false) ((elim if2.branch [ then-form-eq112 w ↦ rw (eq-eqb _ _ w.if-form-eq112.true) w.first-is | else-form-eq112 w ↦ rw (ne_eqb _ _ w.if-form-eq112.false) w.first-is ])) put-taken.ensures

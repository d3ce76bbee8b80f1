-- The first byte, and those behind it.
use mathlib.Core.Path.{sym, ap}
use native.Mathlib.Omega.{arith}
use lib.ListN.{length, length-set}
use borrow.Author.Tests.{eq-eqb, ne_eqb}
use Rattle.plain.specs.Put.{put-none, put_as}
use Rattle.plain.proofs.AnswerLaws.{form-none, form-some, first_then}
use Rattle.plain.proofs.put_form.Goals as goal
use Rattle.plain.proofs.put_form.Goals.{else-name-eq92, then-name-eq92}

pub returns-then-name-eq0 : goal.returns-then-name-eq0
returns-then-name-eq0 c = put_as (put-none c.args.at c.args.out.now) (sym (form-none _ c.if-name-eq0.true))

pub bounds-out-at : goal.bounds-out-at
bounds-out-at c = omega (arith, c.requires, ap length (form-some c.args.name.now c.if-name-eq0.false))

pub put_later-requires : goal.put_later-requires
put_later-requires c =
    let args = c.args in
    let pre = c.requires in
    let if1 = c.if-name-eq0 in
    omega (arith, pre, length-set args.out.now args.at c.if-name-eq92.first, ap length (form-some args.name.now if1.false))

pub returns : goal.returns
returns c =
    let args = c.args in
    let if1 = c.if-name-eq0 in
    let put-later = c.put_later in
    first_then (form-some args.name.now if1.false) (elim c.if-name-eq92.branch [ then-name-eq92 w ↦ rw (eq-eqb _ _ w.if-name-eq92.true) w.first-is | else-name-eq92 w ↦ rw (ne_eqb _ _ w.if-name-eq92.false) w.first-is ]) put-later.ensures

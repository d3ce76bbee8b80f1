use mathlib.Core.Path.{refl, sym, ap, ◌∙◌}
use Rattle.rules.specs.Bytes.{same}
use Rattle.goal.specs.Settled.{stop_of}
use Rattle.goal.proofs.GoalLaws.{no_rows, no-module, other-module, ended, other-line, declared}
use Rattle.goal.proofs.is_settled.Goals as goal

pub returns-in_default : goal.returns-in_default
unfolding stop_of
returns-in_default c = rw c.in_default.is (λ ss ep l. refl)

pub returns-then-place-eq0 : goal.returns-then-place-eq0
returns-then-place-eq0 c = rw c.in-Some.is (λ ss ep l. no_rows _ _ _ ss ep c.if-place-eq0.true)

pub returns-then-place-eq0-2 : goal.returns-then-place-eq0-2
returns-then-place-eq0-2 c = rw c.in-Some.is (λ ss ep l. no-module _ _ _ ss ep c.if-place-eq0-2.true)

pub returns-then-place-module : goal.returns-then-place-module
returns-then-place-module c = rw c.in-Some.is (λ ss ep l. other-module _ _ _ ss ep c.if-place-module.true)

pub returns-then-kind-eq-END_KIND : goal.returns-then-kind-eq-END_KIND
returns-then-kind-eq-END_KIND c =
    rw c.in-Some.is
    (λ ss ep l.
    ended _ _ _ c.args.names.now c.args.rows.now _ c.if-place-eq0.false c.if-place-eq0-2.false c.if-place-module.false refl ss ep l (sym c.row_kind-kind.ensures ∙ c.if-kind-eq-END_KIND.true) _ refl)

pub returns-then-kind-ne-WIRE_KIND : goal.returns-then-kind-ne-WIRE_KIND
returns-then-kind-ne-WIRE_KIND c =
    rw c.in-Some.is
    (λ ss ep l.
    other-line _ _ _ c.args.names.now c.args.rows.now _ c.if-place-eq0.false c.if-place-eq0-2.false c.if-place-module.false refl ss ep l (λ e. c.if-kind-eq-END_KIND.false (c.row_kind-kind.ensures ∙ e)) (λ e. c.if-kind-ne-WIRE_KIND.true (c.row_kind-kind.ensures ∙ e)))

pub returns : goal.returns
returns c =
    rw c.in-Some.is
    (λ ss ep l.
    c.same_bytes.ensures ∙ ap (same c.args.name.now) c.row_name.ensures ∙ declared _ _ _ c.args.names.now c.args.rows.now _ c.if-place-eq0.false c.if-place-eq0-2.false c.if-place-module.false refl ss ep l (sym c.row_kind-kind.ensures ∙ c.if-kind-ne-WIRE_KIND.false))

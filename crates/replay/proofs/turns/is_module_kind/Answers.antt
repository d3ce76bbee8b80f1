-- With attributes before it or without.
-- Assumes nothing.
use mathlib.Core.Path.{sym}
use borrow.Author.Tests.{ne_eqb}
use Rattle.rules.specs.Bytes.{any}
use Rattle.rules.specs.Statements.{code}
use Rattle.admitted.specs.Admitted.{kinds}
use Rattle.netlist.specs.Kinds.{of_kinds}
use Rattle.replay.specs.Objects.{object_kinds}
use Rattle.replay.proofs.turns.is_module_kind.Goals as goal

pub returns-then-attributed : goal.returns-then-attributed
unfolding object_kinds kinds
returns-then-attributed c = rw c.if-attributed.true c.is_object.ensures

pub returns-then-kind-eq-PARAMETER_KIND : goal.returns-then-kind-eq-PARAMETER_KIND
unfolding kinds of_kinds any code
returns-then-kind-eq-PARAMETER_KIND c = rw (c.if-attributed.false, c.if-kind-eq-PARAMETER_KIND.true)

pub returns-then-kind-eq-CONNECTION_KIND : goal.returns-then-kind-eq-CONNECTION_KIND
unfolding kinds of_kinds any code
returns-then-kind-eq-CONNECTION_KIND c = rw (c.if-attributed.false, c.if-kind-eq-CONNECTION_KIND.true)

pub returns-then-kind-eq-END_KIND : goal.returns-then-kind-eq-END_KIND
unfolding kinds of_kinds any code
returns-then-kind-eq-END_KIND c = rw (c.if-attributed.false, c.if-kind-eq-END_KIND.true)

pub returns : goal.returns
unfolding object_kinds kinds of_kinds any code
returns c = rw (c.if-attributed.false, ne_eqb 4 _ (λ e. c.if-kind-eq-PARAMETER_KIND.false (sym e)), ne_eqb 10 _ (λ e. c.if-kind-eq-CONNECTION_KIND.false (sym e)), ne_eqb 12 _ (λ e. c.if-kind-eq-END_KIND.false (sym e))) c.is_object-2.ensures

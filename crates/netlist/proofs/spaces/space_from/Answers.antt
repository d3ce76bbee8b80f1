-- By the kind.
use borrow.Author.Tests.{eq-eqb, ne_eqb, lt-ltb, le-ltb}
use Rattle.netlist.specs.Found.{space_from}
use Rattle.netlist.proofs.spaces.space_from.Goals as goal

pub returns-then-kind-eq-ATTRIBUTE_KIND : goal.returns-then-kind-eq-ATTRIBUTE_KIND
unfolding space_from
returns-then-kind-eq-ATTRIBUTE_KIND c = rw (eq-eqb _ _ c.if-kind-eq-ATTRIBUTE_KIND.true)

pub returns-then-kind-eq-MODULE_KIND : goal.returns-then-kind-eq-MODULE_KIND
unfolding space_from
returns-then-kind-eq-MODULE_KIND c = rw (ne_eqb _ _ c.if-kind-eq-ATTRIBUTE_KIND.false, eq-eqb _ _ c.if-kind-eq-MODULE_KIND.true)

pub returns-then-kind-lt-PARAMETER_KIND : goal.returns-then-kind-lt-PARAMETER_KIND
unfolding space_from
returns-then-kind-lt-PARAMETER_KIND c = rw (ne_eqb _ _ c.if-kind-eq-ATTRIBUTE_KIND.false, ne_eqb _ _ c.if-kind-eq-MODULE_KIND.false, lt-ltb _ _ c.if-kind-lt-PARAMETER_KIND.true)

pub returns-then-kind-lt-CELL_PARAMETER_KIND : goal.returns-then-kind-lt-CELL_PARAMETER_KIND
unfolding space_from
returns-then-kind-lt-CELL_PARAMETER_KIND c = rw (ne_eqb _ _ c.if-kind-eq-ATTRIBUTE_KIND.false, ne_eqb _ _ c.if-kind-eq-MODULE_KIND.false, le-ltb _ _ c.if-kind-lt-PARAMETER_KIND.false, lt-ltb _ _ c.if-kind-lt-CELL_PARAMETER_KIND.true)

pub returns-then-kind-lt-CONNECTION_KIND : goal.returns-then-kind-lt-CONNECTION_KIND
unfolding space_from
returns-then-kind-lt-CONNECTION_KIND c = rw (ne_eqb _ _ c.if-kind-eq-ATTRIBUTE_KIND.false, ne_eqb _ _ c.if-kind-eq-MODULE_KIND.false, le-ltb _ _ c.if-kind-lt-PARAMETER_KIND.false, le-ltb _ _ c.if-kind-lt-CELL_PARAMETER_KIND.false, lt-ltb _ _ c.if-kind-lt-CONNECTION_KIND.true)

pub returns-then-kind-eq-PROCESS_KIND : goal.returns-then-kind-eq-PROCESS_KIND
unfolding space_from
returns-then-kind-eq-PROCESS_KIND c = rw (ne_eqb _ _ c.if-kind-eq-ATTRIBUTE_KIND.false, ne_eqb _ _ c.if-kind-eq-MODULE_KIND.false, le-ltb _ _ c.if-kind-lt-PARAMETER_KIND.false, le-ltb _ _ c.if-kind-lt-CELL_PARAMETER_KIND.false, le-ltb _ _ c.if-kind-lt-CONNECTION_KIND.false, eq-eqb _ _ c.if-kind-eq-PROCESS_KIND.true)

pub returns : goal.returns
unfolding space_from
returns c = rw (ne_eqb _ _ c.if-kind-eq-ATTRIBUTE_KIND.false, ne_eqb _ _ c.if-kind-eq-MODULE_KIND.false, le-ltb _ _ c.if-kind-lt-PARAMETER_KIND.false, le-ltb _ _ c.if-kind-lt-CELL_PARAMETER_KIND.false, le-ltb _ _ c.if-kind-lt-CONNECTION_KIND.false, ne_eqb _ _ c.if-kind-eq-PROCESS_KIND.false)

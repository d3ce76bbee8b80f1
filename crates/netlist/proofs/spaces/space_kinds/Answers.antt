-- By the kind.
use borrow.Author.Tests.{lt-ltb, le-ltb, eq-eqb, ne_eqb}
use Rattle.netlist.specs.Found.{kinds_from}
use Rattle.netlist.proofs.spaces.space_kinds.Goals as goal

pub returns-then-kind-lt-WIRE_KIND : goal.returns-then-kind-lt-WIRE_KIND
unfolding kinds_from
returns-then-kind-lt-WIRE_KIND c = rw (lt-ltb _ _ c.if-kind-lt-WIRE_KIND.true)

pub returns-then-kind-lt-CELL_PARAMETER_KIND : goal.returns-then-kind-lt-CELL_PARAMETER_KIND
unfolding kinds_from
returns-then-kind-lt-CELL_PARAMETER_KIND c = rw (le-ltb _ _ c.if-kind-lt-WIRE_KIND.false, lt-ltb _ _ c.if-kind-lt-CELL_PARAMETER_KIND.true)

pub returns-then-kind-eq-PROCESS_KIND : goal.returns-then-kind-eq-PROCESS_KIND
unfolding kinds_from
returns-then-kind-eq-PROCESS_KIND c = rw (le-ltb _ _ c.if-kind-lt-WIRE_KIND.false, le-ltb _ _ c.if-kind-lt-CELL_PARAMETER_KIND.false, eq-eqb _ _ c.if-kind-eq-PROCESS_KIND.true)

pub returns-else-kind-eq-PROCESS_KIND : goal.returns-else-kind-eq-PROCESS_KIND
unfolding kinds_from
returns-else-kind-eq-PROCESS_KIND c = rw (le-ltb _ _ c.if-kind-lt-WIRE_KIND.false, le-ltb _ _ c.if-kind-lt-CELL_PARAMETER_KIND.false, ne_eqb _ _ c.if-kind-eq-PROCESS_KIND.false)

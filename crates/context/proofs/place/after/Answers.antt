-- `place::after` meets its contract.
use Prim.Native.Nat.{◌+◌}
use mathlib.Core.Path.{◌∙◌}
use mathlib.Core.Bool.{false}
use native.Mathlib.Omega.{arith}
use lib.Dec.{eqb}
use Rattle.context.specs.Place.{place_after}
use Rattle.lists.specs.Tests.{cond-le}
use Rattle.context.proofs.KindLaws.{from-test}
use Rattle.context.proofs.place.after.Goals as goal

pub overflow_add-wires : goal.overflow_add-wires
overflow_add-wires c = omega (arith, c.requires, c.from.ensures, from-test (eqb c.args.kind 5), cond-le (eqb c.args.kind 5) 1)

pub overflow_add-result : goal.overflow_add-result
overflow_add-result c =
    omega (arith, c.requires, c.from-2.ensures, from-test (eqb c.args.kind 3), cond-le (eqb c.args.kind 3) 1)

pub returns : goal.returns
unfolding place_after
returns c =
    let args = c.args in
    let wire = c.from.ensures ∙ from-test _ in
    λ i.
    record {
      scope = c.scope_after.ensures i;
      depth = c.depth_after.ensures i;
      first = false;
      attributed = eqb args.kind 2;
      rows = args.p.rows + 1;
      module_from = c.pick.ensures i;
      cell_from = c.pick-2.ensures i;
      object_from = c.pick-3.ensures i;
      wires = args.p.wires + wire i;
      wires_from = (rw wire at c.pick-4.ensures) i;
      modules = args.p.modules + (c.from-2.ensures ∙ from-test _) i;
    }

-- `has_port` meets its contract.
-- Assumes nothing.
use Prim.Native.Nat.{ℕ, ◌/◌}
use mathlib.Core.Path.{sym, ap, ◌∙◌}
use lib.Dec.{eqb}
use Rattle.std.proofs.Common.{rules, arith}
use Rattle.std.proofs.lemmas.Grind.{common_steps}
use Rattle.wires.proofs.SearchLaws.{no-port, port-number}
use Rattle.wires.proofs.has_port.Goals as goal

pub returns-then-direction-le-INOUT : goal.returns-then-direction-le-INOUT
returns-then-direction-le-INOUT c =
    ap (eqb c.args.port) c.column.ensures
    ∙ sym (port-number _ _ _ (c.column-direction.result / 4) (ap (λ (x : ℕ). x / 4) c.column-direction.ensures) c.if-direction-le-INOUT.true.0 (omega (arith, c.if-direction-le-INOUT.true.1)))

pub returns-else-direction-le-INOUT : goal.returns-else-direction-le-INOUT
returns-else-direction-le-INOUT c =
    let outside = c.if-direction-le-INOUT.either in
    let none = no-port _ _ c.args.port (c.column-direction.result / 4) (ap (λ (x : ℕ). x / 4) c.column-direction.ensures) (λ e. grind (arith, common_steps)) (λ e. grind (arith, common_steps)) (λ e. grind (arith, common_steps)) in
    rw none (search rules)

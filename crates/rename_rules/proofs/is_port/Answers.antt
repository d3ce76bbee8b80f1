-- The codes of the directions are 1 to 3.
-- Assumes nothing.
use Prim.Native.Nat.{◌/◌}
use mathlib.Core.Path.{◌≡◌, sym}
use native.Mathlib.Omega.{arith}
use Rattle.wires.specs.Rows.{word_at}
use Rattle.rename_rules.proofs.PortLaws.{no-port, port-code}
use Rattle.rename_rules.proofs.is_port.Goals as goal

pub returns-then-direction-ne0 : goal.returns-then-direction-ne0
unfolding word_at
returns-then-direction-ne0 c = sym (port-code _ _ _ c.word-direction.ensures (omega arith))

pub returns-else-direction-ne0 : goal.returns-else-direction-ne0
unfolding word_at
returns-else-direction-ne0 c =
    let z : c.word-direction.result / 4 ≡ 0 = omega arith in
    rw z (sym (no-port _ _ _ c.word-direction.ensures z))

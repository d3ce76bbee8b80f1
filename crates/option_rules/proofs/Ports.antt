-- The port of a wire: at most one is given.
-- Assumes nothing.
use mathlib.Core.Path.{◌≡◌, refl, sym}
use mathlib.Core.Bool.{false, and-true, false≢true}
use mathlib.Core.List.{[], ◌∷◌}
use mathlib.Core.Option.{Option-elim}
use Prim.Native.Nat.{ℕ, suc, ◌≤◌}
use native.Mathlib.Omega.{arith}
use lib.ListN.{length}
use lib.IntN.{ℤ}
use borrow.Author.Tests.{lt-leb}
use Rattle.rules.specs.Bytes.{all}
use Rattle.rules.specs.Statements.{Direction, input, output, inout}
use Rattle.rules.specs.Numbers.{in_range, port_of}
use Rattle.rules.specs.Layout.{direction_code}
use Rattle.option_rules.specs.Limits.{Ports, ports_good, port_code}

pub code-range : (d : Direction) → (4 ≤ direction_code d) × (direction_code d ≤ 12)
unfolding direction_code
code-range input = (omega arith, omega arith)
code-range output = (omega arith, omega arith)
code-range inout = (omega arith, omega arith)

module _ (q : Direction × ℤ) where
  crowded : (p : Direction × ℤ) (ps : Ports) → ports_good (q ∷ p ∷ ps) ≡ false
  unfolding ports_good
  crowded p ps = rw (lt-leb (suc (suc (length ps))) 1 (omega arith))

  -- with a port in front of others, and of bad ones
  pub port-before : (ps : Ports) → (port_code (port_of ps) ≡ 0 → ⊥) → ports_good (q ∷ ps) ≡ false
  unfolding port_of Option-elim
  port-before [] h = absurd (h refl)
  port-before (p ∷ ps) h = crowded p ps

  pub port-bad : (ps : Ports) → ports_good ps ≡ false → ports_good (q ∷ ps) ≡ false
  unfolding ports_good all
  port-bad [] h = absurd (false≢true (sym h))
  port-bad (p ∷ ps) h = crowded p ps

  pub port-alone : ports_good (q ∷ []) ≡ in_range 1 1023 q.1
  unfolding ports_good all
  port-alone = and-true (in_range 1 1023 q.1)

-- a code of 0 is that of no port
pub no-port : (ps : Ports) → port_code (port_of ps) ≡ 0 → ps ≡ []
unfolding port_of Option-elim
no-port [] h = refl
no-port (p ∷ ps) h = absurd (omega (arith, (code-range p.0).0))

pub code-most : (ps : Ports) {k : ℕ} → port_code (port_of ps) ≡ k → k ≤ 12
unfolding port_of Option-elim
code-most [] e = omega arith
code-most (p ∷ ps) e = omega (arith, (code-range p.0).1)

-- What the answer of a search says of a signal that is the wire.
-- Assumes nothing.
use Rattle.std.specs.Prelude.{ℕ, ◌≡◌, refl, true, Option as Optional}
use Rattle.std.proofs.Common.{ap, ◌∙◌}
use mathlib.Core.List.{[]}
use Rattle.std.proofs.Math.Option.{Option, none, some, Option-elim}
use Rattle.std.proofs.Math.Bool.{false}
use Rattle.rules.specs.Tokens.{Name}
use Rattle.rules.specs.Statements.{Wire, wire}
use Rattle.rules.specs.Signals.{Wires, find, wire_bits, width, bits, declared_wire}
use Rattle.wires.specs.Found.{width_found, found_of}
use Rattle.wires.specs.declared.FoundWire.{FoundWire}

by_width : {B : Type 0} (x : Option (ℕ × Wire)) (b : B) (f : ℕ → ℕ → B) → Option-elim x b (λ w. f w.0 w.1.width) ≡ Option-elim (width_found x) b (λ y. f y.0 y.1)
unfolding Option-elim width_found
by_width none b f = refl
by_width (some w) b f = refl

module _ (ws : Wires) (n : Name) (r : Optional FoundWire) (e : width_found (find n ws) ≡ found_of r) where
  by-found : {B : Type 0} (b : B) (f : ℕ → ℕ → B) → Option-elim (find n ws) b (λ w. f w.0 w.1.width) ≡ Option-elim (found_of r) b (λ y. f y.0 y.1)
  by-found b f = by_width (find n ws) b f ∙ ap (λ (x : Option (ℕ × ℕ)). Option-elim x b (λ y. f y.0 y.1)) e

  pub found_declared : declared_wire ws (wire n) ≡ Option-elim (found_of r) false (λ y. true)
  unfolding declared_wire
  found_declared = by-found false (λ i w. true)

  pub found-width : width ws (wire n) ≡ Option-elim (found_of r) 0 (λ y. y.1)
  unfolding width
  found-width = by-found 0 (λ i w. w)

  pub found-bits : bits ws (wire n) ≡ Option-elim (found_of r) [] (λ y. wire_bits y.0 0 y.1)
  unfolding bits
  found-bits = by-found [] (λ i w. wire_bits i 0 w)

-- What a search for a name answers: the wire's number in its module and its width.
use Rattle.std.specs.Prelude.{ℕ, ◌≡◌, List, Some, None, Option as Optional}
use Rattle.std.proofs.Math.Option.{Option, none, some}
use Rattle.rules.specs.Statements.{Wire}
use Rattle.rules.specs.Signals.{find}
use Rattle.wires.specs.Rows.{wires_from}
use Rattle.wires.specs.declared.FoundWire.{FoundWire}

-- of a found wire, its number and width
unfoldable pub width_found : Option (ℕ × Wire) → Option (ℕ × ℕ)
width_found none = none
width_found (some x) = some (x.0, x.1.width)

unfoldable pub found_of : Optional FoundWire → Option (ℕ × ℕ)
found_of (Some x) = some (x.number.0, x.width)
found_of None = none

abbrev pub FoundIs : List ℕ → List ℕ → ℕ → ℕ → List ℕ → Optional FoundWire → Type 0
FoundIs names t first count n r = width_found (find n (wires_from names t first count)) ≡ found_of r

-- Statements that lie in the tables of names, of rows and of wires.
use Rattle.std.specs.Prelude.{ℕ, List, [], ◌∷◌}
use Rattle.rules.specs.Judgement.{Past}
use Rattle.rules.specs.Layout.{Rooms, empty, put}
use Rattle.tables.specs.Flat.{flat}
use Rattle.netlist.specs.Spans.{Starts}

-- the rooms of the statements so far, the last one first
unfoldable pub rooms_of : Past → Rooms
rooms_of [] = empty
rooms_of (s ∷ ss) = put (rooms_of ss) s

-- the tables begin with what the rooms hold; what stands behind it may be anything
pub record Laid (R : Rooms) (names rows : List ℕ) : Type 0 where
  pub names-start : Starts names R.names
  pub rows_start : Starts rows (flat R.rows)

-- the same of the tables of names and of wires
pub record Wired (R : Rooms) (names wires : List ℕ) : Type 0 where
  pub names-start : Starts names R.names
  pub wires-start : Starts wires (flat R.wires)

-- Tables that begin with what rooms hold, and a statement that stands behind what is used of them.
use Rattle.std.specs.Prelude.{ℕ, ◌*◌, List}
use Rattle.rules.specs.Statements.{Statement}
use Rattle.rules.specs.Layout.{Rooms, Used, name_bytes, bytes_of_string, bit_codes, wire_rows, statement_row}
use Rattle.tables.specs.Flat.{flat}
use Rattle.netlist.specs.Spans.{Starts, Has}
use Rattle.netlist.specs.Tables.{Tables}

-- each table begins with what the rooms hold
pub record Fronts (R : Rooms) (t : Tables) : Type 0 where
  pub names-start : Starts t.names R.names
  pub strings-start : Starts t.strings R.strings
  pub bits-start : Starts t.bits R.bits
  pub wires-start : Starts t.wires (flat R.wires)
  pub rows_start : Starts t.rows (flat R.rows)

-- the parts of a statement stand behind what is used
pub record Parts (names strings bits wires : List ℕ) (u : Used) (s : Statement) : Type 0 where
  pub names-has : Has names u.names (name_bytes s)
  pub strings-has : Has strings u.strings (bytes_of_string s)
  pub bits-has : Has bits u.bits (bit_codes s)
  pub wires-has : Has wires (8 * u.wires) (flat (wire_rows u s))

-- and so does its row
pub record Stands (t : Tables) (u : Used) (s : Statement) : Type 0 where
  pub parts : Parts t.names t.strings t.bits t.wires u s
  pub row : Has t.rows (8 * u.rows) (statement_row u s)

-- The five tables that a design is stored in.
use Rattle.std.specs.Prelude.{ℕ, List}
use Rattle.rules.specs.Layout.{Memory}

pub record Tables : Type 0 where
  pub names : List ℕ
  pub strings : List ℕ
  pub bits : List ℕ
  pub wires : List ℕ
  pub rows : List ℕ

abbrev pub tabled : (names strings bits wires rows : List ℕ) → Tables
tabled names strings bits wires rows = record { names = names; strings = strings; bits = bits; wires = wires; rows = rows }

abbrev pub tables_in : Memory → Tables
tables_in m = tabled m.names m.strings m.bits m.wires m.rows

-- Statements that tables begin with, one behind another, and nothing else of the kind behind them.
use Rattle.std.specs.Prelude.{ℕ, ◌*◌, ◌≡◌, List, Bool, true, false, length, Some, None}
use Rattle.std.specs.Prelude.{Option as Optional}
use Rattle.rules.specs.Bytes.{within}
use Rattle.rules.specs.Statements.{step_kind}
use Rattle.rules.specs.Judgement.{Past}
use Rattle.rules.specs.Layout.{Rooms}
use Rattle.admitted.specs.Admitted.{admitted, closes}
use Rattle.wires.specs.Rows.{word_at}
use Rattle.netlist.specs.Laid.{rooms_of}
use Rattle.context.specs.Place.{place_of}
use Rattle.context.specs.Sizes.{sums_of}
use Rattle.context.specs.declared.sizes.Standing.{Standing}
use Rattle.netlist.specs.Tables as netlist
use Rattle.netlist.specs.Fronts.{Fronts}
use Rattle.name_index.specs.Index.{key_at, Indexed}
use Rattle.row_statements.specs.Reads.{PartTables}

-- the tables of parts and the table of rows
abbrev pub with_rows : PartTables → List ℕ → netlist.Tables
with_rows t rows = netlist.tabled t.names t.strings t.bits t.wires rows

-- the kinds of statements are 1 to 13
unfoldable pub is_statement : ℕ → Bool
is_statement k = within 1 step_kind k

-- each table begins with what the rooms hold, and the row behind the last one is no statement's
pub record Begins (R : Rooms) (t : PartTables) (rows : List ℕ) : Type 0 where
  pub fronts : Fronts R (with_rows t rows)
  pub ends : is_statement (word_at rows (8 * length R.rows)) ≡ false

-- these statements may stand one after another, the last one ends a file, and the tables hold them
pub record Stored (t : PartTables) (rows : List ℕ) (ss : Past) : Type 0 where
  pub admits : admitted ss ≡ true
  pub closed : closes ss ≡ true
  pub begins : Begins (rooms_of ss) t rows

-- the answer, both ways: there are such statements, with this place and these sums behind them; or there are none. There are no others (OneLaws)
unfoldable pub Replays : PartTables → List ℕ → Optional Standing → Type 0
Replays t rows (Some x) =
    (ss : Past) × Stored t rows ss × (place_of ss ≡ x.place) × (sums_of ss ≡ x.sums)
Replays t rows None = (ss : Past) → Stored t rows ss → ⊥

-- where there are such statements, their rows are indexed
unfoldable pub IndexLeft : (heads chain names rows : List ℕ) → Optional Standing → Type 0
IndexLeft heads chain names rows (Some x) = Indexed heads chain (key_at names rows) x.place.rows
IndexLeft heads chain names rows None = Unit {0}

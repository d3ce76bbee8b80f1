-- A statement that stands behind what is used, and its row as it is read.
-- Assumes nothing.
use Prim.Native.Nat.{ℕ, ◌+◌, ◌*◌, ◌≤◌}
use mathlib.Core.Path.{◌≡◌}
use mathlib.Core.List.{List}
use mathlib.Core.Bool.{true}
use lib.ListN.{length}
use Rattle.rules.specs.Statements.{Statement}
use Rattle.rules.specs.Signals.{Wires}
use Rattle.rules.specs.Layout.{Used, statement_row}
use Rattle.admitted.specs.Admitted.{fine_parts}
use Rattle.tables.specs.Row.{row_at}
use Rattle.netlist.specs.RowLaws.{length-statement-row}
use Rattle.netlist.specs.Spans.{row_has, has-row, has-long}
use Rattle.netlist.specs.Fronts.{Stands}
use Rattle.row_statements.specs.Reads.{PartTables, even_signals, Reads}
use Rattle.replay.specs.Begins.{with_rows}

module _ (t : PartTables) (rows : List ℕ) (u : Used) (ws : Wires) (s : Statement) where
  pub stand-long : Stands (with_rows t rows) u s → 8 * u.rows + 8 ≤ length rows
  stand-long h = has-long rows u.rows (statement_row u s) (length-statement-row u s) h.row

  pub stand-reads : Stands (with_rows t rows) u s → fine_parts ws s ≡ true → even_signals s ≡ true → Reads t u ws (row_at rows (8 * u.rows)) s
  stand-reads h f e =
      record {
        parts = h.parts;
        row = row_has rows u.rows (statement_row u s) (length-statement-row u s) (stand-long h) h.row;
        fine = f;
        even = e;
      }

  pub reads-stand : 8 * u.rows + 8 ≤ length rows → Reads t u ws (row_at rows (8 * u.rows)) s → Stands (with_rows t rows) u s
  reads-stand l d =
      record {
        parts = d.parts;
        row = has-row rows u.rows (statement_row u s) (length-statement-row u s) l d.row;
      }

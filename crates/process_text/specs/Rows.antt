-- The lines of a process by its rows, whatever they hold: each at the level that the rows before it lead to.
use Rattle.std.specs.Prelude.{ℕ, zero, suc, ◌+◌, ◌-◌, ◌*◌, List, [], ◌++◌, Bool, cond, ◌&&◌, ◌||◌, eqb}
use Rattle.rules.specs.Statements.{attribute_kind, end_kind, step_kind, switch_step, case_step}
use Rattle.rules.specs.Bytes.{bytes}
use Rattle.context.specs.Place.{is_sync}
use Rattle.wires.specs.Rows.{column}
use Rattle.netlist.specs.Rows.{kind_at}
use Rattle.netlist.specs.Tables.{Tables}
use Rattle.wire_names.specs.Now.{wires_in}
use Rattle.wire_names.specs.declared.Module.{Module}
use Rattle.line_text.specs.Lines.{statement_now, line_of}
use Rattle.process_text.specs.declared.Inside.{Inside}

-- where the attributes that wait behind row k begin: an attribute waits on, any other statement ends the wait
unfoldable pub waiting_from : (kind first k : ℕ) → ℕ
waiting_from kind first k = cond (eqb kind attribute_kind) first (k + 1)

-- the code of the step in row k; 0 if there is none
unfoldable pub step_at : (rows : List ℕ) → (k : ℕ) → ℕ
step_at rows k = cond (eqb (kind_at rows k) step_kind) (column rows k 1) 0

-- the level of a line: an `end` stands with its switch, a case one below it, a sync in its process, any other line where the last led to
unfoldable pub level_of : Inside → (kind step : ℕ) → ℕ
level_of z kind t = cond (eqb kind end_kind) (2 * z.opened) (cond (eqb t case_step) (2 * z.opened + 1) (cond (is_sync t) 2 z.level))

-- a switch, a case and a sync have lines below them
unfoldable pub deepens : ℕ → Bool
deepens t = eqb t switch_step || eqb t case_step || is_sync t

unfoldable pub opened_by : (opened kind step : ℕ) → ℕ
opened_by o kind t = cond (eqb kind end_kind) (o - 1) (o + cond (eqb t switch_step) 1 0)

unfoldable pub behind : Inside → (kind step : ℕ) → Inside
behind z kind t =
    record { opened = opened_by z.opened kind t; level = level_of z kind t + cond (deepens t) 1 0 }

-- the `end` of the process itself
unfoldable pub closes : Inside → (kind : ℕ) → Bool
closes z kind = eqb kind end_kind && eqb z.opened 0

module _ (t : Tables) (m : Module) where
  -- the line of row k, the names of wires being those of now; the lines of count rows from k on
  unfoldable pub row_line : (level k : ℕ) → List ℕ
  row_line l k =
      line_of l (wires_in t.names t.wires t.rows m) (statement_now t.names t.strings t.bits t.wires t.rows m k)

  unfoldable pub row_lines : (level k count : ℕ) → List ℕ
  row_lines l k zero = []
  row_lines l k (suc c) = row_line l k ++ row_lines l (suc k) c

  -- row k with the attributes before it, which begin in row `first`; an attribute waits, and an `end` has none
  unfoldable pub step_rows : (level kind first k : ℕ) → List ℕ
  step_rows l kind first k =
      let from = cond (eqb kind end_kind) k first in
      cond (eqb kind attribute_kind) [] (row_lines l from (k + 1 - from))

  -- count rows from k on, up to the `end` of the process
  unfoldable pub inside_rows : Inside → (first k count : ℕ) → List ℕ
  inside_rows z first k zero = []
  inside_rows z first k (suc c) =
      let kind = kind_at t.rows k in
      let step = step_at t.rows k in
      let goes = step_rows (level_of z kind step) kind first k ++ inside_rows (behind z kind step) (waiting_from kind first k) (suc k) c in
      cond (closes z kind) [] goes

  -- a process in row k, with count rows behind it
  unfoldable pub process_rows : (k count : ℕ) → List ℕ
  process_rows k c = row_line 1 k ++ inside_rows (record { opened = 0; level = 2 }) (k + 1) (k + 1) c ++ bytes "  end\n"

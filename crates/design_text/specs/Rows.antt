-- The written text by the rows of tables, whatever they hold.
use Rattle.std.specs.Prelude.{ℕ, zero, suc, ◌+◌, ◌-◌, List, [], ◌++◌, cond, eqb}
use Rattle.rules.specs.Statements.{autoidx_kind, attribute_kind, module_kind, parameter_kind, wire_kind, memory_kind, cell_kind, cell_parameter_kind, cell_connection_kind, connection_kind, process_kind, end_kind}
use Rattle.rules.specs.Bytes.{bytes}
use Rattle.netlist.specs.Rows.{kind_at}
use Rattle.netlist.specs.Tables.{Tables}
use Rattle.modules.specs.Ranges.{wire_range}
use Rattle.wire_names.specs.declared.Module.{Module}
unfoldable pub use Rattle.process_text.specs.Rows.{waiting_from, row_line}
use Rattle.process_text.specs.Rows.{process_rows}
use Rattle.design_text.specs.declared.Counts.{Counts}

-- the first row of a kind among count rows from k on, or the row behind them
unfoldable pub next_row : (rows : List ℕ) → (kind k count : ℕ) → ℕ
next_row rows kind k zero = k
next_row rows kind k (suc c) = let r = next_row rows kind (suc k) c in cond (eqb (kind_at rows k) kind) k r

module _ (t : Tables) (m : Module) where
  -- the line of row k, if it is of a kind; and those of count rows from k on that are
  unfoldable pub line_if : (kind level k : ℕ) → List ℕ
  line_if kind l k = let r = row_line t m l k in cond (eqb (kind_at t.rows k) kind) r []

  unfoldable pub kind_rows : (kind level k count : ℕ) → List ℕ
  kind_rows kind l k zero = []
  kind_rows kind l k (suc c) = line_if kind l k ++ kind_rows kind l (suc k) c

  -- a cell in row k, with count rows behind it: its parameters and connections stand before the next `end`
  unfoldable pub cell_rows : (k count : ℕ) → List ℕ
  cell_rows k c =
      let inside = next_row t.rows end_kind (k + 1) c - (k + 1) in
      row_line t m 1 k ++ kind_rows cell_parameter_kind 2 (k + 1) inside ++ kind_rows cell_connection_kind 2 (k + 1) inside ++ bytes "  end\n"

  -- an object in row k whose attributes begin in row `first`, if it is of a kind; kind 7 is a cell, kind 11 a process
  unfoldable pub object_if : (kind first k count : ℕ) → List ℕ
  object_if kind first k c =
      let cell = cell_rows k c in
      let process = process_rows t m k c in
      let line = row_line t m 1 k in
      let r = kind_rows attribute_kind 1 first (k - first) ++ cond (eqb kind cell_kind) cell (cond (eqb kind process_kind) process line) in
      cond (eqb (kind_at t.rows k) kind) r []

  unfoldable pub object_rows : (kind first k count : ℕ) → List ℕ
  object_rows kind first k zero = []
  object_rows kind first k (suc c) = object_if kind first k c ++ object_rows kind (waiting_from (kind_at t.rows k) first k) (suc k) c

  -- what stands in a module
  unfoldable pub body_rows : (k count : ℕ) → List ℕ
  body_rows k c =
      kind_rows parameter_kind 1 k c
      ++ object_rows wire_kind k k c
      ++ object_rows memory_kind k k c
      ++ object_rows cell_kind k k c
      ++ object_rows process_kind k k c
      ++ kind_rows connection_kind 1 k c

-- a module by its number
unfoldable pub module_at : (wires : List ℕ) → Counts → ℕ → Module
module_at wires C n =
    let r = wire_range wires C.wires n in
    record { number = record { 0 = n }; first = r.first; wires = r.count; from = C.statements; renames = C.renames }

module _ (t : Tables) (C : Counts) where
  -- module n, if row k is its line; and those of count rows from k on
  unfoldable pub module_if : (n first k count : ℕ) → List ℕ
  module_if n first k c =
      let m = module_at t.wires C n in
      let r =
      kind_rows t m attribute_kind 0 first (k - first)
      ++ row_line t m 0 k
      ++ body_rows t m (k + 1) (next_row t.rows module_kind (k + 1) c - (k + 1))
      ++ bytes "end\n" in
      cond (eqb (kind_at t.rows k) module_kind) r []

  unfoldable pub module_rows : (n first k count : ℕ) → List ℕ
  module_rows n first k zero = []
  module_rows n first k (suc c) =
      module_if n first k c ++ module_rows (n + cond (eqb (kind_at t.rows k) module_kind) 1 0) (waiting_from (kind_at t.rows k) first k) (suc k) c

  -- only the first statement may be `autoidx`
  unfoldable pub text_rows : List ℕ
  text_rows = kind_rows t (module_at t.wires C 0) autoidx_kind 0 0 (cond (eqb C.statements 0) 0 1) ++ module_rows 0 0 0 C.statements

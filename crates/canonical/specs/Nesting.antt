-- A file by its nesting: its modules, in each module its entries, in each cell its entries and in each process its lines, in file order,
-- attributes with the object or step that they stand before.
use Rattle.std.specs.Prelude.{ℕ, zero, suc, ◌+◌, ◌≡◌, Bool, true, false, cond, eqb, ℤ}
use mathlib.Core.List.{List, [], ◌∷◌, ◌++◌, map, flat_map, Option-to_list}
use Rattle.std.proofs.Math.Option.{Option}
use Rattle.rules.specs.Bytes.{any}
use Rattle.rules.specs.Tokens.{Name}
use Rattle.rules.specs.Statements.{Sort, Constant, Signal, Wire, Memory, Statement, autoidx-stmt, attr-stmt, module-stmt, param-stmt, wire-stmt, memory-stmt, cell-stmt, cell-param-stmt, cell-conn-stmt, conn-stmt, end-stmt, Step, switch, step_code}
use Rattle.rules.specs.Design.{Setting, Object, object, Cell, Line, step_line, end_line, Module, Design, line_statements, process_lines}
use Rattle.lists.specs.Elements.{Each}

pub data CellEntry : Type 0 where
  parameter-entry : Sort → Setting → CellEntry
  port-entry : Name → Signal → CellEntry

pub data Entry : Type 0 where
  param-entry : Name → Option Constant → Entry
  wire-entry : Object Wire → Entry
  memory-entry : Object Memory → Entry
  cell-entry : List Setting → (type name : Name) → List CellEntry → Entry
  process-entry : Object (List Line) → Entry
  connection-entry : Signal → Signal → Entry

pub record File : Type 0 where
  pub autoidx : Option ℤ
  pub modules : List (Object (List Entry))

-- ITS STATEMENTS
abbrev pub settings : List Setting → List Statement
settings at = map (λ a. attr-stmt a.0 a.1) at

unfoldable pub line_in : CellEntry → Statement
line_in (parameter-entry o a) = cell-param-stmt o a.0 a.1
line_in (port-entry n x) = cell-conn-stmt n x

unfoldable pub lines_of : Entry → List Statement
lines_of (param-entry n c) = param-stmt n c ∷ []
lines_of (wire-entry o) = settings o.attributes ++ wire-stmt o.body o.name ∷ []
lines_of (memory-entry o) = settings o.attributes ++ memory-stmt o.body o.name ∷ []
lines_of (cell-entry at t n es) = settings at ++ (cell-stmt t n ∷ map line_in es ++ end-stmt ∷ [])
lines_of (process-entry o) = settings o.attributes ++ process_lines o.body o.name
lines_of (connection-entry x y) = conn-stmt x y ∷ []

unfoldable pub lines_of_module : Object (List Entry) → List Statement
lines_of_module o = settings o.attributes ++ (module-stmt o.name ∷ flat_map lines_of o.body ++ end-stmt ∷ [])

unfoldable pub lines_of_file : File → List Statement
lines_of_file f = map autoidx-stmt (Option-to_list f.autoidx) ++ flat_map lines_of_module f.modules

-- ITS DESIGN: each kind by itself
unfoldable pub parameter_of : CellEntry → List (Sort × Setting)
parameter_of (parameter-entry o a) = (o, a) ∷ []
parameter_of (port-entry n x) = []

unfoldable pub port_of : CellEntry → List (Name × Signal)
port_of (parameter-entry o a) = []
port_of (port-entry n x) = (n, x) ∷ []

unfoldable pub parameters_of : Entry → List (Name × Option Constant)
parameters_of (param-entry n c) = (n, c) ∷ []
parameters_of (wire-entry o) = []
parameters_of (memory-entry o) = []
parameters_of (cell-entry at t n es) = []
parameters_of (process-entry o) = []
parameters_of (connection-entry x y) = []

unfoldable pub wires_of : Entry → List (Object Wire)
wires_of (param-entry n c) = []
wires_of (wire-entry o) = o ∷ []
wires_of (memory-entry o) = []
wires_of (cell-entry at t n es) = []
wires_of (process-entry o) = []
wires_of (connection-entry x y) = []

unfoldable pub memories_of : Entry → List (Object Memory)
memories_of (param-entry n c) = []
memories_of (wire-entry o) = []
memories_of (memory-entry o) = o ∷ []
memories_of (cell-entry at t n es) = []
memories_of (process-entry o) = []
memories_of (connection-entry x y) = []

abbrev pub cell_body : Name → List CellEntry → Cell
cell_body t es = record { type = t; parameters = flat_map parameter_of es; connections = flat_map port_of es }

unfoldable pub cells_of : Entry → List (Object Cell)
cells_of (param-entry n c) = []
cells_of (wire-entry o) = []
cells_of (memory-entry o) = []
cells_of (cell-entry at t n es) = object at n (cell_body t es) ∷ []
cells_of (process-entry o) = []
cells_of (connection-entry x y) = []

unfoldable pub processes_of : Entry → List (Object (List Line))
processes_of (param-entry n c) = []
processes_of (wire-entry o) = []
processes_of (memory-entry o) = []
processes_of (cell-entry at t n es) = []
processes_of (process-entry o) = o ∷ []
processes_of (connection-entry x y) = []

unfoldable pub connections_of : Entry → List (Signal × Signal)
connections_of (param-entry n c) = []
connections_of (wire-entry o) = []
connections_of (memory-entry o) = []
connections_of (cell-entry at t n es) = []
connections_of (process-entry o) = []
connections_of (connection-entry x y) = (x, y) ∷ []

unfoldable pub body_of : List Entry → Module
body_of es =
    record {
      parameters = flat_map parameters_of es;
      wires = flat_map wires_of es;
      memories = flat_map memories_of es;
      cells = flat_map cells_of es;
      processes = flat_map processes_of es;
      connections = flat_map connections_of es;
    }

unfoldable pub module_in : Object (List Entry) → Object Module
module_in o = object o.attributes o.name (body_of o.body)

unfoldable pub design_of : File → Design
design_of f = record { autoidx = f.autoidx; modules = map module_in f.modules }

-- A design as a file, each kind by itself
unfoldable pub cell_entries : Cell → List CellEntry
cell_entries c = map (λ p. parameter-entry p.0 p.1) c.parameters ++ map (λ k. port-entry k.0 k.1) c.connections

unfoldable pub entries : Module → List Entry
entries m =
    map (λ p. param-entry p.0 p.1) m.parameters
    ++ map wire-entry m.wires
    ++ map memory-entry m.memories
    ++ map (λ c. cell-entry c.attributes c.body.type c.name (cell_entries c.body)) m.cells
    ++ map process-entry m.processes
    ++ map (λ k. connection-entry k.0 k.1) m.connections

abbrev pub as_file : Object Module → Object (List Entry)
as_file o = object o.attributes o.name (entries o.body)

unfoldable pub file_of : Design → File
file_of d = record { autoidx = d.autoidx; modules = map as_file d.modules }

-- SWITCHES that are closed: with so many open before some lines, so many are open behind them
unfoldable pub is_switch : Step → Bool
is_switch p = any (λ q. eqb (step_code switch) (step_code q)) (p ∷ [])

unfoldable pub balanced_to : (behind before : ℕ) → List Line → Bool
balanced_to d k [] = eqb k d
balanced_to d k (step_line at p xs ∷ ls) = balanced_to d (cond (is_switch p) (k + 1) k) ls
balanced_to d zero (end_line ∷ ls) = false
balanced_to d (suc k) (end_line ∷ ls) = balanced_to d k ls

abbrev pub balanced : ℕ → List Line → Bool
balanced k ls = balanced_to 0 k ls

-- each process closes its switches
abbrev pub Balanced : List (Object (List Line)) → Type 0
Balanced os = Each (λ o. balanced 0 o.body ≡ true) os

abbrev pub BalancedFile : File → Type 0
BalancedFile x = Each (λ o. Balanced (body_of o.body).processes) x.modules

abbrev pub BalancedDesign : Design → Type 0
BalancedDesign d = Each (λ m. Balanced m.body.processes) d.modules

unfoldable pub nesting_open : Unit {0}
unfolding line_in lines_of lines_of_module lines_of_file parameter_of port_of parameters_of wires_of memories_of cells_of processes_of connections_of body_of module_in design_of cell_entries entries file_of line_statements process_lines flat_map Option-to_list
nesting_open = tt

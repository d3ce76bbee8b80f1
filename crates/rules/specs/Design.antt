-- The design that statements define, and its statements in the order of writing.
-- Source: document 01, "Objects", and the order of "The one written text". Order between kinds is no part of a design.
use Rattle.std.specs.Prelude.{ℕ, zero, suc, ◌+◌, Bool, cond, ℤ}
use mathlib.Core.List.{List, [], ◌∷◌, ◌++◌, map, flat_map, zip, head?, Option-to_list}
use Rattle.std.proofs.Math.Option.{Option}
use Rattle.rules.specs.Tokens.{Name}
use Rattle.rules.specs.Statements.{Sort, Constant, Signal, Wire, Memory, Statement, autoidx-stmt, attr-stmt, module-stmt, param-stmt, wire-stmt, memory-stmt, cell-stmt, cell-param-stmt, cell-conn-stmt, conn-stmt, proc-stmt, step-stmt, end-stmt, Step, switch, Contents, an_attribute, a_module, a_parameter, a_cell, a_connection, a_process, an_end, is, contents, own_name}
use Rattle.rules.specs.Judgement.{until, steps}

-- an attribute or a cell's parameter: its name and its constant
abbrev pub Setting : Type 0
Setting = Name × Constant

-- A module, wire, memory or cell with its name and its attributes
pub record Object (A : Type 0) : Type 0 where
  pub attributes : List Setting
  pub name : Name
  pub body : A

abbrev pub object : {A : Type 0} → List Setting → Name → A → Object A
object at n a = record { attributes = at; name = n; body = a }

-- a cell parameter keeps `signed` or `real`
pub record Cell : Type 0 where
  pub type : Name
  pub parameters : List (Sort × Setting)
  pub connections : List (Name × Signal)

-- A line of a process: a step with the attributes before it, or the end of a switch
pub data Line : Type 0 where
  step_line : List Setting → Step → List Signal → Line
  end_line : Line

-- each with its lists in file order; the lines of a process as they stand. Order between kinds isn't part of it
pub record Module : Type 0 where
  pub parameters : List (Name × Option Constant)
  pub wires : List (Object Wire)
  pub memories : List (Object Memory)
  pub cells : List (Object Cell)
  pub processes : List (Object (List Line))
  pub connections : List (Signal × Signal)

-- The design is the autoidx number, if given, and the modules in order
pub record Design : Type 0 where
  pub autoidx : Option ℤ
  pub modules : List (Object Module)

-- A statement that is no attribute, with the attributes that stand before it
pub record Item : Type 0 where
  pub attributes : List Setting
  pub statement : Statement

unfoldable pub setting_in : Statement → List Setting
setting_in s = zip (contents s).names (contents s).constants

unfoldable pub items : List Setting → List Statement → List Item
items at [] = []
items at (s ∷ ss) =
    let waits = items (at ++ setting_in s) ss in
    let stands = items [] ss in
    cond (is an_attribute s) waits (record { attributes = at; statement = s } ∷ stands)

-- each item that opens a block, with the items behind it up to the next
unfoldable pub blocks : (Statement → Bool) → List Item → List (Item × List Item)
blocks opens [] = []
blocks opens (i ∷ is') =
    let r = blocks opens is' in
    cond (opens i.statement) ((i, until (λ j. opens j.statement) is') ∷ r) r

-- what an item is to its module or cell: nothing, unless it is of that kind
abbrev pub Inside : Type 0
Inside = Contents Constant Signal Wire Memory

unfoldable pub objects_in : {A : Type 0} → (Inside → List A) → Item → List (Object A)
objects_in f i = map (λ x. object i.attributes x.0 x.1) (zip (contents i.statement).names (f (contents i.statement)))

unfoldable pub parameter_in : Statement → List (Name × Option Constant)
parameter_in s = cond (is a_parameter s) ((own_name (contents s).names, head? (contents s).constants) ∷ []) []

unfoldable pub port_in : Statement → List (Name × Signal)
port_in s = zip (contents s).names (contents s).signals

unfoldable pub pair : {A : Type 0} → List A → List (A × A)
pair [] = []
pair (x ∷ []) = []
pair (x ∷ y ∷ xs) = (x, y) ∷ []

unfoldable pub connection_in : Statement → List (Signal × Signal)
connection_in s = cond (is a_connection s) (pair (contents s).signals) []

unfoldable pub cell_parameter_in : Statement → List (Sort × Setting)
cell_parameter_in s = zip (contents s).sorts (setting_in s)

unfoldable pub each : {A : Type 0} → (Statement → List A) → List Item → List A
each f is' = flat_map (λ i. f i.statement) is'

-- a cell has two names, its type and its own
unfoldable pub cell_of : Item × List Item → List (Object Cell)
cell_of b =
    map (λ n. object b.0.attributes n.1 (record { type = n.0; parameters = each cell_parameter_in b.1; connections = each port_in b.1 }))
    (pair (contents b.0.statement).names)

-- the lines of a process up to its `end`, where k of its switches are open
unfoldable pub step_in : Item → List Line
step_in i = map (λ p. step_line i.attributes p (contents i.statement).signals) (contents i.statement).steps

unfoldable pub shut : ℕ → (ℕ → List Line) → List Line
shut zero more = []
shut (suc k) more = end_line ∷ more k

unfoldable pub lines_in : ℕ → List Item → List Line
lines_in k [] = []
lines_in k (i ∷ is') =
    let closes = shut k (λ j. lines_in j is') in
    let goes = step_in i ++ lines_in (cond (steps switch i.statement) (k + 1) k) is' in
    cond (is an_end i.statement) closes goes

unfoldable pub process_of : Item × List Item → Object (List Line)
process_of b = object b.0.attributes (own_name (contents b.0.statement).names) (lines_in 0 b.1)

unfoldable pub module_of : Item × List Item → Object Module
module_of b =
    object b.0.attributes (own_name (contents b.0.statement).names)
    (record {
      parameters = each parameter_in b.1;
      wires = flat_map (objects_in (λ c. c.wires)) b.1;
      memories = flat_map (objects_in (λ c. c.memories)) b.1;
      cells = flat_map cell_of (blocks (is a_cell) b.1);
      processes = map process_of (blocks (is a_process) b.1);
      connections = each connection_in b.1;
    })

unfoldable pub design : List Statement → Design
design ss =
    record {
      autoidx = head? (flat_map (λ s. (contents s).integers) ss);
      modules = map module_of (blocks (is a_module) (items [] ss));
    }

-- Per module: attributes, module line, parameters, wires, memories, cells, processes, connections, each kind in file order, attributes right
-- before their object; in a cell, parameters before connections
unfoldable pub objects : {A : Type 0} → (A → Name → List Statement) → List (Object A) → List Statement
objects f os = flat_map (λ o. map (λ a. attr-stmt a.0 a.1) o.attributes ++ f o.body o.name) os

unfoldable pub cell_lines : Cell → Name → List Statement
cell_lines c n =
    cell-stmt c.type n
    ∷ map (λ p. cell-param-stmt p.0 p.1.0 p.1.1) c.parameters
    ++ map (λ k. cell-conn-stmt k.0 k.1) c.connections
    ++ end-stmt
    ∷ []

unfoldable pub line_statements : Line → List Statement
line_statements (step_line at p xs) = map (λ a. attr-stmt a.0 a.1) at ++ step-stmt p xs ∷ []
line_statements end_line = end-stmt ∷ []

unfoldable pub process_lines : List Line → Name → List Statement
process_lines ls n = proc-stmt n ∷ flat_map line_statements ls ++ end-stmt ∷ []

unfoldable pub module_lines : Module → Name → List Statement
module_lines m n =
    module-stmt n
    ∷ map (λ p. param-stmt p.0 p.1) m.parameters
    ++ objects (λ w n. wire-stmt w n ∷ []) m.wires
    ++ objects (λ y n. memory-stmt y n ∷ []) m.memories
    ++ objects cell_lines m.cells
    ++ objects process_lines m.processes
    ++ map (λ k. conn-stmt k.0 k.1) m.connections
    ++ end-stmt
    ∷ []

-- An `autoidx` line, if the design has one, comes first
unfoldable pub flatten : Design → List Statement
flatten d = map autoidx-stmt (Option-to_list d.autoidx) ++ objects module_lines d.modules

unfoldable pub design_open : Unit {0}
unfolding setting_in items blocks objects_in parameter_in port_in pair connection_in cell_parameter_in each cell_of step_in shut lines_in process_of module_of design objects cell_lines line_statements process_lines module_lines flatten flat_map zip Option-to_list
design_open = tt

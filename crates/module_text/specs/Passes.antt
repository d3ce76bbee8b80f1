-- The written text by passes over the statements of a file, in their order: each pass goes through them once.
use Rattle.std.specs.Prelude.{ℕ, zero, suc, ◌+◌, cond, length}
use mathlib.Core.List.{List, [], ◌∷◌, ◌++◌, flat_map, foldl, reverse}
use Rattle.rules.specs.Tokens.{Name}
use Rattle.rules.specs.Statements.{Wire, Statement, autoidx-stmt, attr-stmt, module-stmt, param-stmt, memory-stmt, cell-stmt, cell-param-stmt, cell-conn-stmt, conn-stmt, proc-stmt, step-stmt, switch, Kind, an_autoidx, an_attribute, a_module, a_parameter, a_wire, a_memory, a_cell, a_cell_parameter, a_cell_connection, a_connection, a_process, an_end, a_step, wire-stmt, end-stmt, contents, is}
use Rattle.rules.specs.Shapes.{Scope, in_process}
use Rattle.rules.specs.Signals.{Wires}
use Rattle.rules.specs.Judgement.{until, outer, behind_step, steps}
use Rattle.rules.specs.Text.{level, holder}
use Rattle.rules.specs.Session.{Rename}
use Rattle.modules.specs.Modules.{wires_of}
use Rattle.modules.specs.Now.{numbered, name_now}
use Rattle.module_text.specs.Blocks.{line_of}

-- wire n of module m by its name now
unfoldable pub declared_now : List Rename → (m n : ℕ) → Name × Wire → Name × Wire
declared_now rs m n w = (name_now rs m n w.0, w.1)

-- those that the statements of module m declare, by their names now, the last one first
unfoldable pub wires_now : List Rename → (m : ℕ) → List Statement → Wires
wires_now rs m ss = reverse (numbered (declared_now rs m) (wires_of ss))

-- the same from the wires with the last one first: a wire's number is how many stand before it
unfoldable pub wires_down : List Rename → (m : ℕ) → Wires → Wires
wires_down rs m [] = []
wires_down rs m (w ∷ ws) = declared_now rs m (length ws) w ∷ wires_down rs m ws

-- a wire's statement with its name changed
unfoldable pub named : (Name → Name) → Statement → Statement
named f (autoidx-stmt i) = autoidx-stmt i
named f (attr-stmt x c) = attr-stmt x c
named f (module-stmt x) = module-stmt x
named f (param-stmt x c) = param-stmt x c
named f (wire-stmt w x) = wire-stmt w (f x)
named f (memory-stmt m x) = memory-stmt m x
named f (cell-stmt t x) = cell-stmt t x
named f (cell-param-stmt o x c) = cell-param-stmt o x c
named f (cell-conn-stmt x g) = cell-conn-stmt x g
named f (conn-stmt g h) = conn-stmt g h
named f (proc-stmt x) = proc-stmt x
named f (step-stmt p xs) = step-stmt p xs
named f end-stmt = end-stmt

-- PASSES. The lines of some statements; of those of a kind; of the first of a kind
unfoldable pub lines_of : (level : ℕ) → Wires → List Statement → List ℕ
lines_of l ws ss = flat_map (line_of l ws) ss

unfoldable pub kind_lines : Kind → (level : ℕ) → Wires → List Statement → List ℕ
kind_lines k l ws [] = []
kind_lines k l ws (s ∷ ss) = let r = kind_lines k l ws ss in cond (is k s) (line_of l ws s ++ r) r

unfoldable pub first_line : Kind → List Statement → List ℕ
first_line k [] = []
first_line k (s ∷ ss) = let r = first_line k ss in cond (is k s) (line_of 0 [] s) r

-- Objects of a kind, the next one's number being n. The attribute statements right before a statement wait for it; `print` is given the
-- object's number, its attributes, its statement and all statements behind it
abbrev pub Print : Type 0
Print = (number : ℕ) → (attributes : List Statement) → Statement → (behind : List Statement) → List ℕ

unfoldable pub object_lines : Kind → Print → ℕ → (waiting : List Statement) → List Statement → List ℕ
object_lines k print n at [] = []
object_lines k print n at (s ∷ ss) =
    let waits = object_lines k print n (at ++ s ∷ []) ss in
    let prints = print n at s ss ++ object_lines k print (n + 1) [] ss in
    let passes = object_lines k print n [] ss in
    cond (is an_attribute s) waits (cond (is k s) prints passes)

-- a wire's line has its name now
unfoldable pub print_wire : List Rename → (m : ℕ) → Wires → Print
print_wire rs m ws n at s more = lines_of 1 ws at ++ line_of 1 ws (named (name_now rs m n) s)

unfoldable pub print_memory : Wires → Print
print_memory ws n at s more = lines_of 1 ws at ++ line_of 1 ws s

-- a cell whose parameters and connections are among some statements
unfoldable pub cell_block : Wires → (attributes : List Statement) → Statement → List Statement → List ℕ
cell_block ws at s inside =
    lines_of 1 ws at
    ++ line_of 1 ws s
    ++ kind_lines a_cell_parameter 2 ws inside
    ++ kind_lines a_cell_connection 2 ws inside
    ++ line_of 1 ws end-stmt

-- they stand before the next cell line of its module; and, where each statement stands in its place, before its `end`
unfoldable pub print_cell : Wires → Print
print_cell ws n at s more = cell_block ws at s (until (is a_cell) more)

unfoldable pub print_to_end : Wires → Print
print_to_end ws n at s more = cell_block ws at s (until (is an_end) more)

-- THE LINES OF A PROCESS from a scope on, where so many of its switches are open, up to its own `end`; attributes wait for the step behind them
unfoldable pub shut_lines : ℕ → (ℕ → List ℕ) → List ℕ
shut_lines zero more = []
shut_lines (suc k) more = more k

unfoldable pub step_lines : Wires → Scope → (opened : ℕ) → (waiting : List Statement) → List Statement → List ℕ
step_lines ws p k at [] = []
step_lines ws p k at (s ∷ ss) =
    let l = level (foldl holder p (contents s).steps) in
    let waits = step_lines ws p k (at ++ s ∷ []) ss in
    let closes = shut_lines k (λ j. line_of (level (outer p)) ws end-stmt ++ step_lines ws (outer p) j [] ss) in
    let writes =
    lines_of l ws at
    ++ line_of l ws s
    ++ step_lines ws (foldl behind_step p (contents s).steps) (cond (steps switch s) (k + 1) k) [] ss in
    let passes = step_lines ws p k [] ss in
    cond (is an_attribute s) waits (cond (is an_end s) closes (cond (is a_step s) writes passes))

-- they stand before the next process line of its module
unfoldable pub print_process : Wires → Print
print_process ws n at s more =
    lines_of 1 ws at ++ line_of 1 ws s ++ step_lines ws in_process 0 [] (until (is a_process) more) ++ line_of 1 ws end-stmt

-- module m, whose wires are ws, by the statements behind its line up to the next module line
unfoldable pub body_lines : List Rename → (m : ℕ) → Wires → List Statement → List ℕ
body_lines rs m ws ss =
    kind_lines a_parameter 1 ws ss
    ++ object_lines a_wire (print_wire rs m ws) 0 [] ss
    ++ object_lines a_memory (print_memory ws) 0 [] ss
    ++ object_lines a_cell (print_cell ws) 0 [] ss
    ++ object_lines a_process (print_process ws) 0 [] ss
    ++ kind_lines a_connection 1 ws ss

unfoldable pub print_module : List Rename → Print
print_module rs m at s more =
    lines_of 0 [] at
    ++ line_of 0 [] s
    ++ body_lines rs m (wires_now rs m (until (is a_module) more)) (until (is a_module) more)
    ++ line_of 0 [] end-stmt

-- the whole text of a file's statements under these renames
unfoldable pub file_text : List Rename → List Statement → List ℕ
file_text rs ss = first_line an_autoidx ss ++ object_lines a_module (print_module rs) 0 [] ss

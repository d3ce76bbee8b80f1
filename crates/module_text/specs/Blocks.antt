-- The written text by its blocks: a line at a known level with the module's wires known, a cell, a module.
use Rattle.std.specs.Prelude.{ℕ, ◌*◌, replicate}
use mathlib.Core.List.{List, [], ◌∷◌, ◌++◌, flat_map, Option-to_list}
use Rattle.rules.specs.Statements.{Wire, Memory, Statement, autoidx-stmt, attr-stmt, module-stmt, param-stmt, wire-stmt, memory-stmt, cell-stmt, cell-param-stmt, cell-conn-stmt, conn-stmt, proc-stmt, step-stmt, end-stmt}
use Rattle.rules.specs.Shapes.{Scope, in_process}
use Rattle.rules.specs.Signals.{Wires}
use Rattle.rules.specs.Judgement.{outer, behind_step}
use Rattle.rules.specs.Design.{Setting, Object, Cell, Line, step_line, end_line, Module, Design}
use Rattle.rules.specs.Text.{written, shape_tokens, spaced, level, holder}
use Rattle.canonical.specs.Fine.{wires_in}

-- Two spaces a level, single spaces between tokens, line end 10
unfoldable pub line_of : (level : ℕ) → Wires → Statement → List ℕ
line_of l ws s = replicate (2 * l) 32 ++ spaced (shape_tokens (written ws s)) ++ 10 ∷ []

-- a line without signals looks at no wires
unfoldable pub plain_line : (level : ℕ) → Statement → List ℕ
plain_line l s = line_of l [] s

-- attributes stand right before their object at its level
unfoldable pub attributes_text : (level : ℕ) → List Setting → List ℕ
attributes_text l at = flat_map (λ a. plain_line l (attr-stmt a.0 a.1)) at

unfoldable pub wire_text : Object Wire → List ℕ
wire_text o = attributes_text 1 o.attributes ++ plain_line 1 (wire-stmt o.body o.name)

unfoldable pub memory_text : Object Memory → List ℕ
memory_text o = attributes_text 1 o.attributes ++ plain_line 1 (memory-stmt o.body o.name)

-- in a cell, parameters before connections
unfoldable pub cell_text : Wires → Object Cell → List ℕ
cell_text ws o =
    attributes_text 1 o.attributes
    ++ plain_line 1 (cell-stmt o.body.type o.name)
    ++ flat_map (λ p. plain_line 2 (cell-param-stmt p.0 p.1.0 p.1.1)) o.body.parameters
    ++ flat_map (λ k. line_of 2 ws (cell-conn-stmt k.0 k.1)) o.body.connections
    ++ plain_line 1 end-stmt

-- the lines of a process from a scope on, each where the rules indent it, and its attributes there too
unfoldable pub lines_text : Scope → Wires → List Line → List ℕ
lines_text p ws [] = []
lines_text p ws (step_line at q xs ∷ ls) =
    attributes_text (level (holder p q)) at ++ line_of (level (holder p q)) ws (step-stmt q xs) ++ lines_text (behind_step p q) ws ls
lines_text p ws (end_line ∷ ls) = plain_line (level (outer p)) end-stmt ++ lines_text (outer p) ws ls

unfoldable pub process_text : Wires → Object (List Line) → List ℕ
process_text ws o =
    attributes_text 1 o.attributes
    ++ plain_line 1 (proc-stmt o.name)
    ++ lines_text in_process ws o.body
    ++ plain_line 1 end-stmt

-- Per module: attributes, module line, parameters, wires, memories, cells, processes, connections
unfoldable pub body_text : Wires → Module → List ℕ
body_text ws m =
    flat_map (λ p. plain_line 1 (param-stmt p.0 p.1)) m.parameters
    ++ flat_map wire_text m.wires
    ++ flat_map memory_text m.memories
    ++ flat_map (cell_text ws) m.cells
    ++ flat_map (process_text ws) m.processes
    ++ flat_map (λ k. line_of 1 ws (conn-stmt k.0 k.1)) m.connections

unfoldable pub module_text : Object Module → List ℕ
module_text o =
    attributes_text 0 o.attributes
    ++ plain_line 0 (module-stmt o.name)
    ++ body_text (wires_in o.body) o.body
    ++ plain_line 0 end-stmt

-- An `autoidx` line, if the design has one, comes first
unfoldable pub design_text : Design → List ℕ
design_text d =
    flat_map (λ i. plain_line 0 (autoidx-stmt i)) (Option-to_list d.autoidx) ++ flat_map module_text d.modules

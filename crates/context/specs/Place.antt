-- Where a line stands, field by field from what the rules say of the past; and the same carried on by one statement.
use Rattle.std.specs.Prelude.{ℕ, ◌+◌, ◌-◌, ◌≤◌, ◌≡◌, Bool, false, cond, not, ◌&&◌, ◌||◌, List, [], ◌∷◌, eqb, leb, length}
use Rattle.rules.specs.Statements.{Statement, Step, step_code, a_module, a_wire, code, contents, attribute_kind, module_kind, wire_kind, cell_kind, process_kind, end_kind, switch_step, case_step, global_step, edge_step}
use Rattle.rules.specs.Shapes.{Scope, top, in_module, in_cell, in_process, in_tail, in_sync, in_switch, in_case, Context}
use Rattle.rules.specs.Judgement.{Past, sum, nested, scope, context, of_module, of_cell, of_object, count}
use Rattle.context.specs.declared.place.Place.{Place}

-- a scope as two numbers, its own and how many switches are open around the innermost one; and the scope of two numbers
unfoldable pub scope_code : Scope → ℕ
scope_code top = 0
scope_code in_module = 1
scope_code in_cell = 2
scope_code in_process = 3
scope_code in_tail = 4
scope_code in_sync = 5
scope_code (in_switch k) = 6
scope_code (in_case k) = 7

unfoldable pub scope_of : (code depth : ℕ) → Scope
scope_of n k =
    cond (eqb n 0) top
    (cond (eqb n 1) in_module
    (cond (eqb n 2) in_cell
    (cond (eqb n 3) in_process
    (cond (eqb n 4) in_tail
    (cond (eqb n 5) in_sync
    (cond (eqb n 6) (in_switch k) (in_case k)))))))

-- how many statements of the past are wires
unfoldable pub wires_in : Past → ℕ
wires_in ss = sum (count (a_wire ∷ [])) ss

-- where the line behind these statements stands
unfoldable pub place_of : Past → Place
place_of ss =
    record {
      scope = scope_code (scope ss);
      depth = nested (scope ss);
      first = (context ss).first;
      attributed = (context ss).attributed;
      rows = length ss;
      module_from = length ss - length (of_module ss);
      cell_from = length ss - length (of_cell ss);
      object_from = length ss - length (of_object ss);
      wires = wires_in ss;
      wires_from = wires_in ss - wires_in (of_module ss);
      modules = sum (count (a_module ∷ [])) ss;
    }

-- the context that the rules give a line at a place
unfoldable pub context_of : Place → Context
context_of p = record { scope = scope_of p.scope p.depth; first = p.first; attributed = p.attributed }

-- whether a file may end at a place
unfoldable pub closes_at : Place → Bool
closes_at p = eqb p.scope 0 && not p.attributed

-- no field is above the statements so far
pub record Bounds (p : Place) : Type 0 where
  pub module-from : p.module_from ≤ p.rows
  pub cell-from : p.cell_from ≤ p.rows
  pub object-from : p.object_from ≤ p.rows
  pub wires-from : p.wires_from ≤ p.wires
  pub wires : p.wires ≤ p.rows
  pub modules : p.modules ≤ p.rows
  pub depth : p.depth ≤ p.rows

-- the code of a statement's step, 0 if it has none; the syncs
unfoldable pub step_of : List Step → ℕ
step_of [] = 0
step_of (p ∷ ps) = step_code p

unfoldable pub is_sync : ℕ → Bool
is_sync t = leb global_step t && leb t edge_step

-- a scope's number behind an `end` and behind a step
unfoldable pub end_scope : (code depth : ℕ) → ℕ
end_scope n d = cond (leb n 1) 0 (cond (leb n 5) 1 (cond (eqb d 0) 4 7))

unfoldable pub step_scope : (code step : ℕ) → ℕ
step_scope n t = cond (eqb t switch_step) 6 (cond (eqb t case_step) 7 (cond (is_sync t) 5 n))

-- a scope's two numbers behind a statement of a kind with a step
unfoldable pub scope_after : (code depth kind step : ℕ) → ℕ
scope_after n d k t =
    cond (eqb k module_kind) 1
    (cond (eqb k cell_kind) 2
    (cond (eqb k process_kind) 3
    (cond (eqb k end_kind) (end_scope n d) (step_scope n t))))

unfoldable pub depth_after : (code depth kind step : ℕ) → ℕ
depth_after n d k t =
    cond (eqb k module_kind || eqb k cell_kind || eqb k process_kind) 0
    (cond (eqb k end_kind) (d - 1)
    (cond (eqb t switch_step) (d + cond (eqb n 7) 1 0)
    (cond (is_sync t) 0 d)))

-- the place behind a statement of a kind, with a step, that stands at p
unfoldable pub place_after : Place → (kind step : ℕ) → Place
place_after p k t =
    record {
      scope = scope_after p.scope p.depth k t;
      depth = depth_after p.scope p.depth k t;
      first = false;
      attributed = eqb k attribute_kind;
      rows = p.rows + 1;
      module_from = cond (eqb k module_kind) (p.rows + 1) p.module_from;
      cell_from = cond (eqb k cell_kind) (p.rows + 1) p.cell_from;
      object_from = cond (eqb k attribute_kind) p.object_from (p.rows + 1);
      wires = p.wires + cond (eqb k wire_kind) 1 0;
      wires_from = cond (eqb k module_kind) (p.wires + cond (eqb k wire_kind) 1 0) p.wires_from;
      modules = p.modules + cond (eqb k module_kind) 1 0;
    }

-- r is the place behind each statement of this kind and step that stands at p
abbrev pub AfterIs : Place → (kind step : ℕ) → Place → Type 0
AfterIs p k t r =
    (ss : Past) (s : Statement) → p ≡ place_of ss → k ≡ code (contents s).kind → t ≡ step_of (contents s).steps → place_of (s ∷ ss) ≡ r

-- What the passes over the statements of a file print for each part of its design; the whole text is proofs/FileText's.
-- Assumes nothing.
use Prim.Native.Nat.{ℕ, zero, suc, ◌+◌}
use Rattle.std.proofs.Common.{arith, ◌∙◌}
use Rattle.std.specs.Prelude.{◌≡◌, true, false}
use Rattle.std.proofs.Math.Path.{refl, sym, ap, ap₂}
use Rattle.std.proofs.Math.Option.{Option}
use Rattle.std.proofs.Math.Bool.{cond}
use Rattle.std.proofs.lemmas.Bool.{false≢true}
use mathlib.Core.List.{List, [], ◌∷◌, ◌++◌, map, map-append, flat_map, head?, reverse, reverse_aux, reverse_aux-append, Option-to_list, append-nil}
use Rattle.rules.specs.Tokens.{Name}
use Rattle.rules.specs.Statements.{Sort, Constant, Signal, Wire, Statement, autoidx-stmt, attr-stmt, module-stmt, param-stmt, wire-stmt, cell-stmt, cell-param-stmt, cell-conn-stmt, conn-stmt, proc-stmt, step-stmt, end-stmt, switch, Kind, an_autoidx, an_attribute, a_parameter, a_cell, a_cell_parameter, a_cell_connection, a_connection, a_process, is, contents, statements_open}
use Rattle.rules.specs.Signals.{Wires}
use Rattle.rules.specs.Bytes.{any}
use Rattle.rules.specs.Shapes.{Scope}
use Rattle.rules.specs.Judgement.{Past, until, only, outer, behind_step, scope, steps}
use Rattle.rules.specs.Design.{Setting, setting_in, Object, object, Cell, Line, step_line, end_line, Module, Design, Item, items, blocks, objects_in, parameter_in, port_in, connection_in, cell_parameter_in, each, cell_of, step_in, shut, lines_in, process_of, line_statements, process_lines, design_open}
use Rattle.rules.specs.Session.{Rename}
use Rattle.rules.specs.Text.{level, holder}
use Rattle.lists.specs.Tests.{by-test}
use Rattle.lists.specs.Lists.{flat_map-same, flat_map-map}
use Rattle.context.specs.Forms.{by_form, by-attribute}
use Rattle.modules.specs.DesignLaws.{only-attribute, items-until, wires-pairs}
use Rattle.modules.specs.Now.{numbered, name_now, wire_now}
use Rattle.modules.specs.NowLaws.{numbered-same, map-numbered}
use Rattle.canonical.specs.Nesting.{settings}
use Rattle.lists.specs.Elements.{Each, each_map}
use Rattle.canonical.specs.Fine.{wires_in, FineProcess, FineModule, FineDesign}
use Rattle.canonical.specs.Following.{process-leaves}
use Rattle.module_text.specs.Blocks.{line_of, plain_line, attributes_text, wire_text, cell_text, lines_text}
use Rattle.module_text.specs.BlockLaws.{behind_line, behind_lines, Leaves}
use Rattle.module_text.specs.LineLaws.{plain-line}
use Rattle.module_text.specs.Passes.{declared_now, named, wires_now, lines_of, kind_lines, first_line, Print, object_lines, print_wire, cell_block, print_cell, shut_lines, step_lines}
use Rattle.module_text.specs.StatementLaws.{parameters-are, connections-are, cell-parameters-are, ports-are}

-- ---- the lines of a kind

module _ (l : ℕ) (ws : Wires) where
  pub lines-only : (k : Kind) (ss : List Statement) → flat_map (line_of l ws) (only (is k) ss) ≡ kind_lines k l ws ss
  unfolding flat_map only kind_lines
  lines-only k [] = refl
  lines-only k (s ∷ ss) = by-test (is k s) (λ e. rw (e, lines-only k ss)) (λ e. rw (e, lines-only k ss))

  lines-map : {A : Type 0} (f : A → Statement) (g : A → List ℕ) → ((x : A) → g x ≡ line_of l ws (f x)) → (xs : List A) → flat_map g xs ≡ flat_map (line_of l ws) (map f xs)
  lines-map f g h xs = flat_map-same g _ h xs ∙ sym (flat_map-map (line_of l ws) f xs)

  -- those of some parts, whose statements are those of a kind
  lines-kind : {A : Type 0} (f : A → Statement) (g : A → List ℕ) → ((x : A) → g x ≡ line_of l ws (f x)) → (k : Kind) (xs : List A) (ss : List Statement) → map f xs ≡ only (is k) ss → kind_lines k l ws ss ≡ flat_map g xs
  lines-kind f g h k xs ss e = sym (lines-map f g h xs ∙ ap (flat_map (line_of l ws)) e ∙ lines-only k ss)

  pub attributes-lines : (at : List Setting) → lines_of l ws (settings at) ≡ attributes_text l at
  unfolding lines_of attributes_text statements_open
  attributes-lines at = sym (lines-map (λ (a : Setting). attr-stmt a.0 a.1) (λ a. plain_line l (attr-stmt a.0 a.1)) (λ a. sym (plain-line l ws (attr-stmt a.0 a.1) refl)) at)

-- ---- objects

-- the texts of objects, each with its number, from n on
unfoldable pub texts : {A : Type 0} → (ℕ → A → List ℕ) → ℕ → List A → List ℕ
texts t n [] = []
texts t n (x ∷ xs) = t n x ++ texts t (n + 1) xs

module _ {A : Type 0} where
  pub texts-each : (t : A → List ℕ) (n : ℕ) (xs : List A) → texts (λ i. t) n xs ≡ flat_map t xs
  unfolding texts flat_map
  texts-each t n [] = refl
  texts-each t n (x ∷ xs) = ap (λ (l : List ℕ). t x ++ l) (texts-each t (n + 1) xs)

  texts-numbered : (t : A → List ℕ) (f : ℕ → A → A) (n : ℕ) (xs : List A) → texts (λ i x. t (f i x)) n xs ≡ flat_map t (numbered (λ i. f (n + i)) xs)
  unfolding texts flat_map numbered
  texts-numbered t f n [] = refl
  texts-numbered t f n (x ∷ xs) =
      ap₂ ◌++◌ (ap (λ (j : ℕ). t (f j x)) (omega arith))
      (texts-numbered t f (n + 1) xs ∙ ap (flat_map t) (numbered-same (λ i. f (n + 1 + i)) (λ i. f (n + suc i)) (λ i y. ap (λ (j : ℕ). f j y) (omega arith)) xs))

  pub texts-first : (t : A → List ℕ) (f : ℕ → A → A) (xs : List A) → texts (λ i x. t (f i x)) 0 xs ≡ flat_map t (numbered f xs)
  texts-first t f xs = texts-numbered t f 0 xs ∙ ap (flat_map t) (numbered-same (λ i. f (0 + i)) f (λ i x. ap (λ (j : ℕ). f j x) (omega arith)) xs)

-- an attribute statement is the line of its setting
pub is-attribute : (s : Statement) → is an_attribute s ≡ true → s ∷ [] ≡ settings (setting_in s)
unfolding design_open statements_open
is-attribute = by-attribute _ (λ n c. refl)

-- A PASS prints the objects that the items give, if it does so at each item
abbrev pub Steps : {A : Type 0} → Kind → Print → (List Item → List A) → (ℕ → A → List ℕ) → ℕ → List Setting → Statement → Type 0
Steps k print given t n at s =
    (ss : List Statement) →
    cond (is k s) (print n (settings at) s ss ++ texts t (n + 1) (given (items [] ss))) (texts t n (given (items [] ss)))
    ≡ texts t n (given (record { attributes = at; statement = s } ∷ items [] ss))

module _ {A : Type 0} (k : Kind) (print : Print) (given : List Item → List A) (t : ℕ → A → List ℕ) (none : given [] ≡ []) (step : (n : ℕ) (at : List Setting) (s : Statement) → Steps k print given t n at s) where
  pub objects-text : (n : ℕ) (at : List Setting) (ss : List Statement) → object_lines k print n (settings at) ss ≡ texts t n (given (items at ss))
  unfolding object_lines items texts
  objects-text n at [] = rw none
  objects-text n at (s ∷ ss) =
      by-test (is an_attribute s)
      (λ e. rw (e, is-attribute s e, ← map-append) (objects-text n (at ++ setting_in s) ss))
      (λ e. rw e (ap₂ (λ (a b : List ℕ). cond (is k s) (print n (settings at) s ss ++ a) b) (objects-text (n + 1) [] ss) (objects-text n [] ss) ∙ step n at s ss))

-- ---- wires, each with its number and its name now

pub wire-text : (rs : List Rename) (m : ℕ) (ws : Wires) (n : ℕ) (at : List Setting) (w : Wire) (x : Name) (more : List Statement) → print_wire rs m ws n (settings at) (wire-stmt w x) more ≡ wire_text (wire_now rs m n (object at x w))
unfolding print_wire named wire_text wire_now statements_open
wire-text rs m ws n at w x more =
    ap₂ ◌++◌ (attributes-lines 1 ws at) (plain-line 1 ws (wire-stmt w (name_now rs m n x)) refl)

-- ---- cells

-- a cell by its items
abbrev cell_in : Name → List Item → Cell
cell_in t is' = record { type = t; parameters = each cell_parameter_in is'; connections = each port_in is' }

cell-parameters-text : (ws : Wires) (at : List Setting) (ss : List Statement) → kind_lines a_cell_parameter 2 ws ss ≡ flat_map (λ p. plain_line 2 (cell-param-stmt p.0 p.1.0 p.1.1)) (each cell_parameter_in (items at ss))
unfolding statements_open
cell-parameters-text ws at ss =
    lines-kind 2 ws (λ (p : Sort × Setting). cell-param-stmt p.0 p.1.0 p.1.1) (λ p. plain_line 2 (cell-param-stmt p.0 p.1.0 p.1.1))
    (λ p. sym (plain-line 2 ws (cell-param-stmt p.0 p.1.0 p.1.1) refl))
    a_cell_parameter (each cell_parameter_in (items at ss)) ss (cell-parameters-are at ss)

ports-text : (ws : Wires) (at : List Setting) (ss : List Statement) → kind_lines a_cell_connection 2 ws ss ≡ flat_map (λ k. line_of 2 ws (cell-conn-stmt k.0 k.1)) (each port_in (items at ss))
ports-text ws at ss =
    lines-kind 2 ws (λ (k : Name × Signal). cell-conn-stmt k.0 k.1) (λ k. line_of 2 ws (cell-conn-stmt k.0 k.1)) (λ k. refl)
    a_cell_connection (each port_in (items at ss)) ss (ports-are at ss)

pub cell-text : (ws : Wires) (n : ℕ) (at : List Setting) (t x : Name) (ss : List Statement) → print_cell ws n (settings at) (cell-stmt t x) ss ≡ cell_text ws (object at x (cell_in t (until (λ j. is a_cell j.statement) (items [] ss))))
unfolding print_cell cell_block cell_text statements_open
cell-text ws n at t x ss =
    ap₂ ◌++◌
    (ap₂ ◌++◌
    (ap₂ ◌++◌
    (ap₂ ◌++◌ (attributes-lines 1 ws at) (plain-line 1 ws (cell-stmt t x) refl))
    (cell-parameters-text ws [] (until (is a_cell) ss)))
    (ports-text ws [] (until (is a_cell) ss)))
    (plain-line 1 ws end-stmt refl)
    ∙ ap (λ (is' : List Item). cell_text ws (object at x (cell_in t is'))) (sym (items-until (is a_cell) (λ s h. (only-attribute s h).no_cell) [] ss))

-- ---- processes

-- behind an `end`: of the process, or of one of its switches
shut-text : (p : Scope) (ws : Wires) (k : ℕ) (f : ℕ → List ℕ) (g : ℕ → List Line) → ((j : ℕ) → f j ≡ lines_text (outer p) ws (g j)) → shut_lines k (λ j. line_of (level (outer p)) ws end-stmt ++ f j) ≡ lines_text p ws (shut k g)
unfolding shut_lines shut lines_text statements_open
shut-text p ws zero f g h = refl
shut-text p ws (suc k) f g h = ap₂ ◌++◌ (plain-line (level (outer p)) ws end-stmt refl) (h k)

-- the lines that the items give, if those behind this statement do
abbrev LinesAt : Wires → Scope → ℕ → List Setting → List Statement → Statement → Type 0
LinesAt ws p k at ss s =
    is an_attribute s ≡ false →
    step_lines ws p k (settings at) (s ∷ ss) ≡ lines_text p ws (lines_in k (record { attributes = at; statement = s } ∷ items [] ss))

pub lines-here : (ws : Wires) (p : Scope) (k : ℕ) (at : List Setting) (ss : List Statement) → ((p : Scope) (k : ℕ) → step_lines ws p k [] ss ≡ lines_text p ws (lines_in k (items [] ss))) → (s : Statement) → LinesAt ws p k at ss s
unfolding step_lines lines_in lines_text step_in steps any statements_open
lines-here ws p k at ss onward =
    by_form (LinesAt ws p k at ss)
    (λ i e. onward p k) (λ x c e. absurd (false≢true (sym e))) (λ x e. onward p k) (λ x c e. onward p k) (λ w x e. onward p k) (λ m x e. onward p k)
    (λ t x e. onward p k) (λ o x c e. onward p k) (λ x g e. onward p k) (λ g h e. onward p k) (λ x e. onward p k)
    (λ q xs e.
    let l : ℕ = level (holder p q) in
    ap₂ ◌++◌ (ap (λ (x : List ℕ). x ++ line_of l ws (step-stmt q xs)) (attributes-lines l ws at)) (onward (behind_step p q) (cond (steps switch (step-stmt q xs)) (k + 1) k)))
    (λ e. shut-text p ws k (λ j. step_lines ws (outer p) j [] ss) (λ j. lines_in j (items [] ss)) (λ j. onward (outer p) j))

-- ---- modules

-- a module by its items; with the names now of its wires
abbrev pub module_in : List Item → Module
module_in is' =
    record {
      parameters = each parameter_in is';
      wires = flat_map (objects_in (λ c. c.wires)) is';
      memories = flat_map (objects_in (λ c. c.memories)) is';
      cells = flat_map cell_of (blocks (is a_cell) is');
      processes = map process_of (blocks (is a_process) is');
      connections = each connection_in is';
    }

abbrev pub body_now : List Rename → (m : ℕ) → Module → Module
body_now rs m b =
    record {
      parameters = b.parameters;
      wires = numbered (wire_now rs m) b.wires;
      memories = b.memories;
      cells = b.cells;
      processes = b.processes;
      connections = b.connections;
    }

pub parameters-text : (ws : Wires) (at : List Setting) (ss : List Statement) → kind_lines a_parameter 1 ws ss ≡ flat_map (λ p. plain_line 1 (param-stmt p.0 p.1)) (each parameter_in (items at ss))
unfolding statements_open
parameters-text ws at ss =
    lines-kind 1 ws (λ (p : Name × Option Constant). param-stmt p.0 p.1) (λ p. plain_line 1 (param-stmt p.0 p.1))
    (λ p. sym (plain-line 1 ws (param-stmt p.0 p.1) refl))
    a_parameter (each parameter_in (items at ss)) ss (parameters-are at ss)

pub connections-text : (ws : Wires) (at : List Setting) (ss : List Statement) → kind_lines a_connection 1 ws ss ≡ flat_map (λ k. line_of 1 ws (conn-stmt k.0 k.1)) (each connection_in (items at ss))
connections-text ws at ss =
    lines-kind 1 ws (λ (k : Signal × Signal). conn-stmt k.0 k.1) (λ k. line_of 1 ws (conn-stmt k.0 k.1)) (λ k. refl)
    a_connection (each connection_in (items at ss)) ss (connections-are at ss)

-- its wires by their names now
pub wires-seen : (rs : List Rename) (m : ℕ) (ss : List Statement) → wires_now rs m ss ≡ wires_in (body_now rs m (module_in (items [] ss)))
unfolding wires_now wires_in declared_now wire_now
wires-seen rs m ss =
    let os : List (Object Wire) = flat_map (objects_in (λ c. c.wires)) (items [] ss) in
    ap reverse
    (ap (numbered (declared_now rs m)) (sym (wires-pairs [] ss))
    ∙ sym (map-numbered (λ (o : Object Wire). (o.name, o.body)) (wire_now rs m) (declared_now rs m) (λ i o. refl) os))

pub autoidx-text : (ss : List Statement) → first_line an_autoidx ss ≡ flat_map (λ i. plain_line 0 (autoidx-stmt i)) (Option-to_list (head? (flat_map (λ s. (contents s).integers) ss)))
unfolding first_line plain_line statements_open flat_map
autoidx-text [] = refl
autoidx-text (s ∷ ss) =
    by_form (λ s. first_line an_autoidx (s ∷ ss) ≡ flat_map (λ i. plain_line 0 (autoidx-stmt i)) (Option-to_list (head? (flat_map (λ s. (contents s).integers) (s ∷ ss)))))
    (λ i. sym (append-nil (line_of 0 [] (autoidx-stmt i)))) (λ x c. autoidx-text ss) (λ x. autoidx-text ss) (λ x c. autoidx-text ss) (λ w x. autoidx-text ss) (λ m x. autoidx-text ss)
    (λ t x. autoidx-text ss) (λ o x c. autoidx-text ss) (λ x g. autoidx-text ss) (λ g h. autoidx-text ss) (λ x. autoidx-text ss) (λ p xs. autoidx-text ss) (autoidx-text ss) s

-- ---- a fine process leads back to its module

settings-behind : (at : List Setting) (q : Past) → scope (reverse_aux (settings at) q) ≡ scope q
unfolding scope statements_open
settings-behind [] q = refl
settings-behind (a ∷ at) q = settings-behind at (attr-stmt a.0 a.1 ∷ q)

lines-behind : (ls : List Line) (q : Past) → scope (reverse_aux (flat_map line_statements ls) q) ≡ behind_lines (scope q) ls
unfolding scope line_statements behind_line flat_map statements_open
lines-behind [] q = refl
lines-behind (step_line at p xs ∷ ls) q =
    ap scope (reverse_aux-append (settings at ++ step-stmt p xs ∷ []) (flat_map line_statements ls) q)
    ∙ lines-behind ls (reverse_aux (settings at ++ step-stmt p xs ∷ []) q)
    ∙ ap (λ (z : Scope). behind_lines z ls)
    (ap scope (reverse_aux-append (settings at) (step-stmt p xs ∷ []) q) ∙ ap (λ (z : Scope). behind_step z p) (settings-behind at q))
lines-behind (end_line ∷ ls) q = lines-behind ls (end-stmt ∷ q)

process-leads : (o : Object (List Line)) → FineProcess o → Leaves o
unfolding scope process_lines statements_open
process-leads o f =
    let q : Past = module-stmt o.name ∷ [] in
    let b : List Statement = flat_map line_statements o.body in
    ap outer (sym (lines-behind o.body (proc-stmt o.name ∷ q)))
    ∙ ap scope (sym (reverse_aux-append b (end-stmt ∷ []) (proc-stmt o.name ∷ q)))
    ∙ process-leaves o f q refl

abbrev pub Lead : Design → Type 0
Lead d = Each (λ o. Each Leaves o.body.processes) d.modules

pub fine-leads : (d : Design) → FineDesign d → Lead d
fine-leads d f =
    each_map FineModule _ (λ o m. each_map FineProcess Leaves process-leads o.body.processes m.processes) d.modules f.modules

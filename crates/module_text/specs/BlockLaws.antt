-- The written text of a design is that of its blocks.
-- Assumes nothing.
use Rattle.std.specs.Prelude.{ℕ, ◌≡◌, false, cond, ℤ}
use Rattle.std.proofs.Math.Path.{refl, sym, ap}
use Rattle.std.proofs.Common.{ap₂, ◌∙◌}
use Rattle.std.proofs.Math.Option.{Option}
use mathlib.Core.List.{List, [], ◌∷◌, ◌++◌, map, flat_map, foldl, zip, reverse, reverse_aux, Option-to_list, append_assoc}
use Rattle.rules.specs.Tokens.{Name}
use Rattle.rules.specs.Statements.{Sort, Constant, Signal, Wire, Memory, Statement, autoidx-stmt, attr-stmt, module-stmt, param-stmt, wire-stmt, memory-stmt, cell-stmt, cell-param-stmt, cell-conn-stmt, conn-stmt, proc-stmt, step-stmt, end-stmt, Step, an_attribute, a_module, is, contents, statements_open}
use Rattle.rules.specs.Shapes.{Scope, top, in_module, in_cell, in_process}
use Rattle.rules.specs.Signals.{Wires}
use Rattle.rules.specs.Judgement.{Past, until, outer, behind_step, scope, of_module, wires}
use Rattle.rules.specs.Design.{Setting, Object, Cell, Line, step_line, end_line, Module, Design, objects, cell_lines, line_statements, process_lines, module_lines, flatten}
use Rattle.rules.specs.Text.{written, level, holder, indent, object, line_text, text_from, text}
use Rattle.lists.specs.Tests.{by-test}
use Rattle.lists.specs.Lists.{flat_map-one}
use Rattle.lists.specs.Elements.{Each}
use Rattle.admitted.specs.CountLaws.{scope_behind, scope-behind}
use Rattle.canonical.specs.Nesting.{settings}
use Rattle.canonical.specs.Fine.{wires_in}
use Rattle.module_text.specs.Blocks.{line_of, plain_line, attributes_text, wire_text, memory_text, cell_text, lines_text, process_text, body_text, module_text, design_text}

-- ---- what a line sees of the past is its scope and the wires of its module

unfoldable wires_after : Wires → Statement → Wires
wires_after ws s = cond (is a_module s) [] (zip (contents s).names (contents s).wires ++ ws)

unfoldable text_in : Scope → Wires → List Statement → List ℕ
text_in p ws [] = []
text_in p ws (s ∷ more) = line_of (indent p (object s more)) ws s ++ text_in (scope_behind p s) (wires_after ws s) more

unfoldable line_open : Unit {0}
unfolding scope_behind wires_after text_in level holder indent line_of plain_line written outer zip statements_open
line_open = tt

wires-after : (s : Statement) (ss : Past) → wires (s ∷ ss) ≡ wires_after (wires ss) s
unfolding wires of_module until flat_map wires_after
wires-after s ss = by-test (is a_module s) (λ e. rw e) (λ e. rw e)

text_in_lem : (ss : Past) (more : List Statement) → text_from ss more ≡ text_in (scope ss) (wires ss) more
unfolding text_from text_in line_text line_of
text_in_lem ss [] = refl
text_in_lem ss (s ∷ more) =
    let l : ℕ = indent (scope ss) (object s more) in
    sym (append_assoc (line_text l ss s) (10 ∷ []) (text_from (s ∷ ss) more))
    ∙ ap (λ (x : List ℕ). line_of l (wires ss) s ++ x)
    (text_in_lem (s ∷ ss) more ∙ ap₂ (λ (p : Scope) (ws : Wires). text_in p ws more) (scope-behind s ss) (wires-after s ss))

-- a line that is no attribute stands by itself
object-self : (s : Statement) (more : List Statement) → is an_attribute s ≡ false → object s more ≡ s
unfolding object
object-self s [] e = refl
object-self s (t ∷ more) e = rw e

line-in : (p : Scope) (ws : Wires) (s : Statement) (more : List Statement) → is an_attribute s ≡ false → text_in p ws (s ∷ more) ≡ line_of (indent p s) ws s ++ text_in (scope_behind p s) (wires_after ws s) more
unfolding text_in
line-in p ws s more e = rw (object-self s more e)

-- ---- statements behind which stand others

module _ {A : Type 0} (p : Scope) (ws : Wires) where
  -- some lines each
  text-flat : (f : A → List Statement) (g : A → List ℕ) → ((x : A) (more : List Statement) → text_in p ws (f x ++ more) ≡ g x ++ text_in p ws more) → (xs : List A) (more : List Statement) → text_in p ws (flat_map f xs ++ more) ≡ flat_map g xs ++ text_in p ws more
  unfolding flat_map
  text-flat f g h [] more = refl
  text-flat f g h (x ∷ xs) more =
      ap (text_in p ws) (append_assoc (f x) (flat_map f xs) more)
      ∙ h x (flat_map f xs ++ more)
      ∙ ap (λ (l : List ℕ). g x ++ l) (text-flat f g h xs more)
      ∙ sym (append_assoc (g x) (flat_map g xs) (text_in p ws more))

  -- a line each
  text-map : (f : A → Statement) (g : A → List ℕ) → ((x : A) (more : List Statement) → text_in p ws (f x ∷ more) ≡ g x ++ text_in p ws more) → (xs : List A) (more : List Statement) → text_in p ws (map f xs ++ more) ≡ flat_map g xs ++ text_in p ws more
  text-map f g h xs more = ap (λ (l : List Statement). text_in p ws (l ++ more)) (sym (flat_map-one _ f (λ x. refl) xs)) ∙ text-flat (λ x. f x ∷ []) g h xs more

-- one line: no wire is asked for but by signals, and no scope or wires change but by a module, a cell, an `end` and a wire
module _ (ws : Wires) (more : List Statement) where
  module-line : (p : Scope) (n : Name) → text_in p ws (module-stmt n ∷ more) ≡ plain_line (level p) (module-stmt n) ++ text_in in_module [] more
  unfolding line_open
  module-line p n = line-in p ws (module-stmt n) more refl

  cell-line : (t n : Name) → text_in in_module ws (cell-stmt t n ∷ more) ≡ plain_line 1 (cell-stmt t n) ++ text_in in_cell ws more
  unfolding line_open
  cell-line t n = line-in in_module ws (cell-stmt t n) more refl

  process-line : (n : Name) → text_in in_module ws (proc-stmt n ∷ more) ≡ plain_line 1 (proc-stmt n) ++ text_in in_process ws more
  unfolding line_open
  process-line n = line-in in_module ws (proc-stmt n) more refl

  cell-end-line : text_in in_cell ws (end-stmt ∷ more) ≡ plain_line 1 end-stmt ++ text_in in_module ws more
  unfolding line_open
  cell-end-line = line-in in_cell ws end-stmt more refl

  module-end-line : text_in in_module ws (end-stmt ∷ more) ≡ plain_line 0 end-stmt ++ text_in top ws more
  unfolding line_open
  module-end-line = line-in in_module ws end-stmt more refl

-- ---- blocks

-- attributes stand where the line behind them does
object-behind : (at : List Setting) (n : Name) (c : Constant) (s : Statement) (more : List Statement) → is an_attribute s ≡ false → object (attr-stmt n c) (settings at ++ s ∷ more) ≡ s
unfolding object statements_open
object-behind [] n c s more e = object-self s more e
object-behind (a ∷ at) n c s more e = object-behind at a.0 a.1 s more e

text-attributes : (p : Scope) (ws : Wires) (at : List Setting) (s : Statement) (more : List Statement) → is an_attribute s ≡ false → text_in p ws (settings at ++ s ∷ more) ≡ attributes_text (indent p s) at ++ text_in p ws (s ∷ more)
unfolding attributes_text flat_map text_in scope_behind wires_after line_of plain_line written zip statements_open
text-attributes p ws [] s more e = refl
text-attributes p ws (a ∷ at) s more e =
    rw (object-behind at a.0 a.1 s more e)
    (ap (λ (l : List ℕ). plain_line (indent p s) (attr-stmt a.0 a.1) ++ l) (text-attributes p ws at s more e)
    ∙ sym (append_assoc (plain_line (indent p s) (attr-stmt a.0 a.1)) (attributes_text (indent p s) at) (text_in p ws (s ∷ more))))

-- an object whose lines, the first of which is no attribute, lead from a scope and wires to others
text-object : (p q : Scope) (ws vs : Wires) (at : List Setting) (s : Statement) (ls : List Statement) (t : List ℕ) → is an_attribute s ≡ false → ((more : List Statement) → text_in p ws (s ∷ ls ++ more) ≡ t ++ text_in q vs more) → (more : List Statement) → text_in p ws (settings at ++ s ∷ ls ++ more) ≡ attributes_text (indent p s) at ++ t ++ text_in q vs more
text-object p q ws vs at s ls t e h more =
    ap (text_in p ws) (append_assoc (settings at) (s ∷ ls) more)
    ∙ text-attributes p ws at s (ls ++ more) e
    ∙ ap (λ (l : List ℕ). attributes_text (indent p s) at ++ l) (h more)
    ∙ sym (append_assoc (attributes_text (indent p s) at) t (text_in q vs more))

-- wires are declared one after another
text-wires : (os : List (Object Wire)) (ws : Wires) (more : List Statement) → text_in in_module ws (objects (λ w n. wire-stmt w n ∷ []) os ++ more) ≡ flat_map wire_text os ++ text_in in_module (reverse_aux (map (λ o. (o.name, o.body)) os) ws) more
unfolding objects flat_map wire_text line_open
text-wires [] ws more = refl
text-wires (o ∷ os) ws more =
    let rest : List Statement = objects (λ w n. wire-stmt w n ∷ []) os in
    let vs : Wires = (o.name, o.body) ∷ ws in
    ap (text_in in_module ws) (append_assoc (settings o.attributes ++ wire-stmt o.body o.name ∷ []) rest more)
    ∙ text-object in_module in_module ws vs o.attributes (wire-stmt o.body o.name) [] (plain_line 1 (wire-stmt o.body o.name)) refl
    (λ more. line-in in_module ws (wire-stmt o.body o.name) more refl) (rest ++ more)
    ∙ ap (λ (l : List ℕ). wire_text o ++ l) (text-wires os vs more)
    ∙ sym (append_assoc (wire_text o) (flat_map wire_text os) (text_in in_module (reverse_aux (map (λ o. (o.name, o.body)) os) vs) more))

text-memories : (ws : Wires) (os : List (Object Memory)) (more : List Statement) → text_in in_module ws (objects (λ y n. memory-stmt y n ∷ []) os ++ more) ≡ flat_map memory_text os ++ text_in in_module ws more
unfolding objects memory_text line_open
text-memories ws os more =
    text-flat in_module ws (λ (o : Object Memory). settings o.attributes ++ memory-stmt o.body o.name ∷ []) memory_text
    (λ o more. text-object in_module in_module ws ws o.attributes (memory-stmt o.body o.name) [] (plain_line 1 (memory-stmt o.body o.name)) refl
    (λ more. line-in in_module ws (memory-stmt o.body o.name) more refl) more)
    os more

abbrev cell_param_lines : List (Sort × Setting) → List Statement
cell_param_lines ps = map (λ p. cell-param-stmt p.0 p.1.0 p.1.1) ps

abbrev cell_conn_lines : List (Name × Signal) → List Statement
cell_conn_lines ks = map (λ k. cell-conn-stmt k.0 k.1) ks

text-cell-params : (ws : Wires) (ps : List (Sort × Setting)) (more : List Statement) → text_in in_cell ws (cell_param_lines ps ++ more) ≡ flat_map (λ p. plain_line 2 (cell-param-stmt p.0 p.1.0 p.1.1)) ps ++ text_in in_cell ws more
unfolding line_open
text-cell-params ws ps more =
    text-map in_cell ws (λ (p : Sort × Setting). cell-param-stmt p.0 p.1.0 p.1.1) (λ p. plain_line 2 (cell-param-stmt p.0 p.1.0 p.1.1)) (λ p more. line-in in_cell ws (cell-param-stmt p.0 p.1.0 p.1.1) more refl) ps more

text-cell-conns : (ws : Wires) (ks : List (Name × Signal)) (more : List Statement) → text_in in_cell ws (cell_conn_lines ks ++ more) ≡ flat_map (λ k. line_of 2 ws (cell-conn-stmt k.0 k.1)) ks ++ text_in in_cell ws more
unfolding line_open
text-cell-conns ws ks more =
    text-map in_cell ws (λ (k : Name × Signal). cell-conn-stmt k.0 k.1) (λ k. line_of 2 ws (cell-conn-stmt k.0 k.1)) (λ k more. line-in in_cell ws (cell-conn-stmt k.0 k.1) more refl) ks more

text-cell : (ws : Wires) (o : Object Cell) (more : List Statement) → text_in in_module ws (settings o.attributes ++ cell_lines o.body o.name ++ more) ≡ cell_text ws o ++ text_in in_module ws more
unfolding cell_text cell_lines level indent statements_open
text-cell ws o more =
    let ps : List Statement = cell_param_lines o.body.parameters in
    let ks : List Statement = cell_conn_lines o.body.connections in
    ap (text_in in_module ws) (simp append_assoc)
    ∙ text-attributes in_module ws o.attributes (cell-stmt o.body.type o.name) (ps ++ (ks ++ (end-stmt ∷ more))) refl
    ∙ ap (λ (l : List ℕ). attributes_text 1 o.attributes ++ l)
    (cell-line ws (ps ++ (ks ++ (end-stmt ∷ more))) o.body.type o.name
    ∙ ap (λ (l : List ℕ). plain_line 1 (cell-stmt o.body.type o.name) ++ l)
    (text-cell-params ws o.body.parameters (ks ++ (end-stmt ∷ more))
    ∙ ap (λ (l : List ℕ). flat_map (λ p. plain_line 2 (cell-param-stmt p.0 p.1.0 p.1.1)) o.body.parameters ++ l)
    (text-cell-conns ws o.body.connections (end-stmt ∷ more)
    ∙ ap (λ (l : List ℕ). flat_map (λ k. line_of 2 ws (cell-conn-stmt k.0 k.1)) o.body.connections ++ l) (cell-end-line ws more))))
    ∙ simp append_assoc

text-cells : (ws : Wires) (os : List (Object Cell)) (more : List Statement) → text_in in_module ws (objects cell_lines os ++ more) ≡ flat_map (cell_text ws) os ++ text_in in_module ws more
unfolding objects
text-cells ws os more =
    text-flat in_module ws (λ (o : Object Cell). settings o.attributes ++ cell_lines o.body o.name) (cell_text ws) (text-cell ws) os more

-- the lines of a process lead from scope to scope
unfoldable pub behind_line : Scope → Line → Scope
behind_line p (step_line at q xs) = behind_step p q
behind_line p end_line = outer p

abbrev pub behind_lines : Scope → List Line → Scope
behind_lines p ls = foldl behind_line p ls

text-step : (p : Scope) (ws : Wires) (at : List Setting) (q : Step) (xs : List Signal) (more : List Statement) → text_in p ws (line_statements (step_line at q xs) ++ more) ≡ attributes_text (level (holder p q)) at ++ line_of (level (holder p q)) ws (step-stmt q xs) ++ text_in (behind_step p q) ws more
unfolding line_statements indent scope_behind wires_after zip statements_open
text-step p ws at q xs more =
    text-object p (behind_step p q) ws ws at (step-stmt q xs) [] (line_of (level (holder p q)) ws (step-stmt q xs)) refl (λ more. line-in p ws (step-stmt q xs) more refl) more

text-end : (p : Scope) (ws : Wires) (more : List Statement) → text_in p ws (end-stmt ∷ more) ≡ plain_line (level (outer p)) end-stmt ++ text_in (outer p) ws more
unfolding indent scope_behind wires_after zip line_of plain_line written statements_open
text-end p ws more = line-in p ws end-stmt more refl

text-lines : (ws : Wires) (ls : List Line) (p : Scope) (more : List Statement) → text_in p ws (flat_map line_statements ls ++ more) ≡ lines_text p ws ls ++ text_in (behind_lines p ls) ws more
unfolding flat_map lines_text behind_line line_statements
text-lines ws [] p more = refl
text-lines ws (step_line at q xs ∷ ls) p more =
    let l : ℕ = level (holder p q) in
    ap (text_in p ws) (append_assoc (line_statements (step_line at q xs)) (flat_map line_statements ls) more)
    ∙ text-step p ws at q xs (flat_map line_statements ls ++ more)
    ∙ ap (λ (x : List ℕ). attributes_text l at ++ line_of l ws (step-stmt q xs) ++ x) (text-lines ws ls (behind_step p q) more)
    ∙ sym (append_assoc (attributes_text l at ++ line_of l ws (step-stmt q xs)) (lines_text (behind_step p q) ws ls) (text_in (behind_lines (behind_step p q) ls) ws more))
text-lines ws (end_line ∷ ls) p more =
    ap (text_in p ws) (append_assoc (line_statements end_line) (flat_map line_statements ls) more)
    ∙ text-end p ws (flat_map line_statements ls ++ more)
    ∙ ap (λ (x : List ℕ). plain_line (level (outer p)) end-stmt ++ x) (text-lines ws ls (outer p) more)
    ∙ sym (append_assoc (plain_line (level (outer p)) end-stmt) (lines_text (outer p) ws ls) (text_in (behind_lines (outer p) ls) ws more))

-- a process whose lines lead back to where its `end` closes it
abbrev pub Leaves : Object (List Line) → Type 0
Leaves o = outer (behind_lines in_process o.body) ≡ in_module

text-process : (ws : Wires) (o : Object (List Line)) → Leaves o → (more : List Statement) → text_in in_module ws (settings o.attributes ++ process_lines o.body o.name ++ more) ≡ process_text ws o ++ text_in in_module ws more
unfolding process_text process_lines level indent statements_open
text-process ws o e more =
    let ls : List Statement = flat_map line_statements o.body in
    ap (text_in in_module ws) (simp append_assoc)
    ∙ text-attributes in_module ws o.attributes (proc-stmt o.name) (ls ++ (end-stmt ∷ more)) refl
    ∙ ap (λ (l : List ℕ). attributes_text 1 o.attributes ++ l)
    (process-line ws (ls ++ (end-stmt ∷ more)) o.name
    ∙ ap (λ (l : List ℕ). plain_line 1 (proc-stmt o.name) ++ l)
    (text-lines ws o.body in_process (end-stmt ∷ more)
    ∙ ap (λ (l : List ℕ). lines_text in_process ws o.body ++ l)
    (text-end (behind_lines in_process o.body) ws more ∙ ap (λ (z : Scope). plain_line (level z) end-stmt ++ text_in z ws more) e)))
    ∙ simp append_assoc

text-processes : (ws : Wires) (os : List (Object (List Line))) → Each Leaves os → (more : List Statement) → text_in in_module ws (objects process_lines os ++ more) ≡ flat_map (process_text ws) os ++ text_in in_module ws more
unfolding objects flat_map
text-processes ws [] h more = refl
text-processes ws (o ∷ os) h more =
    let ls : List Statement = settings o.attributes ++ process_lines o.body o.name in
    ap (text_in in_module ws) (append_assoc ls (objects process_lines os) more)
    ∙ text-process ws o h.0 (objects process_lines os ++ more)
    ∙ ap (λ (l : List ℕ). process_text ws o ++ l) (text-processes ws os h.1 more)
    ∙ sym (append_assoc (process_text ws o) (flat_map (process_text ws) os) (text_in in_module ws more))

abbrev param_lines : List (Name × Option Constant) → List Statement
param_lines ps = map (λ p. param-stmt p.0 p.1) ps

abbrev conn_lines : List (Signal × Signal) → List Statement
conn_lines ks = map (λ k. conn-stmt k.0 k.1) ks

text-params : (ws : Wires) (ps : List (Name × Option Constant)) (more : List Statement) → text_in in_module ws (param_lines ps ++ more) ≡ flat_map (λ p. plain_line 1 (param-stmt p.0 p.1)) ps ++ text_in in_module ws more
unfolding line_open
text-params ws ps more =
    text-map in_module ws (λ (p : Name × Option Constant). param-stmt p.0 p.1) (λ p. plain_line 1 (param-stmt p.0 p.1)) (λ p more. line-in in_module ws (param-stmt p.0 p.1) more refl) ps more

text-conns : (ws : Wires) (ks : List (Signal × Signal)) (more : List Statement) → text_in in_module ws (conn_lines ks ++ more) ≡ flat_map (λ k. line_of 1 ws (conn-stmt k.0 k.1)) ks ++ text_in in_module ws more
unfolding line_open
text-conns ws ks more =
    text-map in_module ws (λ (k : Signal × Signal). conn-stmt k.0 k.1) (λ k. line_of 1 ws (conn-stmt k.0 k.1)) (λ k more. line-in in_module ws (conn-stmt k.0 k.1) more refl) ks more

abbrev wire_lines : List (Object Wire) → List Statement
wire_lines os = objects (λ w n. wire-stmt w n ∷ []) os

abbrev memory_lines : List (Object Memory) → List Statement
memory_lines os = objects (λ y n. memory-stmt y n ∷ []) os

-- the lines of a module behind its own
text-body : (m : Module) → Each Leaves m.processes → (more : List Statement) → text_in in_module [] (param_lines m.parameters ++ (wire_lines m.wires ++ (memory_lines m.memories ++ (objects cell_lines m.cells ++ (objects process_lines m.processes ++ (conn_lines m.connections ++ more)))))) ≡ body_text (wires_in m) m ++ text_in in_module (wires_in m) more
unfolding body_text wires_in
text-body m h more =
    let ws : Wires = reverse (map (λ o. (o.name, o.body)) m.wires) in
    let ks : List Statement = conn_lines m.connections ++ more in
    let ps : List Statement = objects process_lines m.processes ++ ks in
    let cs : List Statement = objects cell_lines m.cells ++ ps in
    let ms : List Statement = memory_lines m.memories ++ cs in
    text-params [] m.parameters (wire_lines m.wires ++ ms)
    ∙ ap (λ (l : List ℕ). flat_map (λ p. plain_line 1 (param-stmt p.0 p.1)) m.parameters ++ l)
    (text-wires m.wires [] ms
    ∙ ap (λ (l : List ℕ). flat_map wire_text m.wires ++ l)
    (text-memories ws m.memories cs
    ∙ ap (λ (l : List ℕ). flat_map memory_text m.memories ++ l)
    (text-cells ws m.cells ps
    ∙ ap (λ (l : List ℕ). flat_map (cell_text ws) m.cells ++ l)
    (text-processes ws m.processes h ks
    ∙ ap (λ (l : List ℕ). flat_map (process_text ws) m.processes ++ l) (text-conns ws m.connections more)))))
    ∙ simp append_assoc

-- a module's text, whatever wires were seen before it; the wires that are seen behind it
text-module : (ws : Wires) (o : Object Module) → Each Leaves o.body.processes → (more : List Statement) → text_in top ws (settings o.attributes ++ module_lines o.body o.name ++ more) ≡ module_text o ++ text_in top (wires_in o.body) more
unfolding module_text module_lines level indent statements_open
text-module ws o h more =
    let m : Module = o.body in
    let b : List Statement = param_lines m.parameters ++ (wire_lines m.wires ++ (memory_lines m.memories ++ (objects cell_lines m.cells ++ (objects process_lines m.processes ++ (conn_lines m.connections ++ (end-stmt ∷ more)))))) in
    ap (text_in top ws) (simp append_assoc)
    ∙ text-attributes top ws o.attributes (module-stmt o.name) b refl
    ∙ ap (λ (l : List ℕ). attributes_text 0 o.attributes ++ l)
    (module-line ws b top o.name
    ∙ ap (λ (l : List ℕ). plain_line 0 (module-stmt o.name) ++ l)
    (text-body m h (end-stmt ∷ more)
    ∙ ap (λ (l : List ℕ). body_text (wires_in m) m ++ l) (module-end-line (wires_in m) more)))
    ∙ simp append_assoc

text-objects : (ws : Wires) (os : List (Object Module)) → Each (λ o. Each Leaves o.body.processes) os → text_in top ws (objects module_lines os) ≡ flat_map module_text os
unfolding objects flat_map text_in
text-objects ws [] h = refl
text-objects ws (o ∷ os) h =
    text-module ws o h.0 (objects module_lines os) ∙ ap (λ (l : List ℕ). module_text o ++ l) (text-objects (wires_in o.body) os h.1)

text-autoidx : (is' : List ℤ) (more : List Statement) → text_in top [] (map autoidx-stmt is' ++ more) ≡ flat_map (λ i. plain_line 0 (autoidx-stmt i)) is' ++ text_in top [] more
unfolding line_open
text-autoidx is' more = text-map top [] autoidx-stmt (λ i. plain_line 0 (autoidx-stmt i)) (λ i more. line-in top [] (autoidx-stmt i) more refl) is' more

-- the written text of a design whose processes lead back to their modules
pub text-modules : (d : Design) → Each (λ o. Each Leaves o.body.processes) d.modules → text d ≡ design_text d
unfolding text flatten design_text scope wires of_module until flat_map
text-modules d h =
    text_in_lem [] (flatten d)
    ∙ text-autoidx (Option-to_list d.autoidx) (objects module_lines d.modules)
    ∙ ap (λ (l : List ℕ). flat_map (λ i. plain_line 0 (autoidx-stmt i)) (Option-to_list d.autoidx) ++ l) (text-objects [] d.modules h)

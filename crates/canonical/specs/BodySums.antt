-- Sums over the statements of a file are sums over its design, whatever the order.
-- Assumes nothing.
use Rattle.std.specs.Prelude.{ℕ, ◌+◌, ◌≡◌, cond, eqb, ℤ}
use Rattle.std.proofs.Math.Path.{refl, sym, ap}
use Rattle.std.proofs.Common.{◌∙◌}
use mathlib.Core.List.{List, [], ◌∷◌, ◌++◌, map, flat_map, Option-to_list}
use Rattle.std.proofs.Math.Option.{Option, none, some}
use native.Mathlib.Omega.{arith}
use Rattle.rules.specs.Bytes.{same, any}
use Rattle.rules.specs.Tokens.{Name}
use Rattle.rules.specs.Statements.{Sort, Constant, Signal, Wire, Memory, Statement, autoidx-stmt, attr-stmt, module-stmt, param-stmt, wire-stmt, memory-stmt, cell-stmt, cell-param-stmt, cell-conn-stmt, conn-stmt, proc-stmt, step-stmt, end-stmt, Step, statements_open}
use Rattle.rules.specs.Judgement.{sum, among, space, port_numbers}
use Rattle.rules.specs.Design.{Setting, Object, Cell, Line, step_line, end_line, Module, Design, line_statements, flatten}
use Rattle.rules.specs.Session.{names}
use Rattle.canonical.specs.Nesting.{CellEntry, parameter-entry, port-entry, Entry, param-entry, wire-entry, memory-entry, cell-entry, process-entry, connection-entry, File, settings, line_in, lines_of, lines_of_module, lines_of_file, parameter_of, port_of, body_of, module_in, design_of, file_of, nesting_open}
use Rattle.canonical.specs.DesignLaws.{flatten-file, design-file}
use Rattle.canonical.specs.Fine.{times, setting_names, ports_in}
use Rattle.canonical.specs.Tally.{name_tally, module_names, object_names, attribute_names, parameter_names, cell_parameter_names, cell_port_names, port_tally}
use Rattle.lists.specs.Sums.{sum-append, sum-map, sum-flat_map, sum_same, sum-zero}
use Rattle.canonical.specs.Sums.{times-append}

-- a cell; a process; a module's entries
module _ (f : Statement → ℕ) where
  unfoldable pub cell_sum : Object Cell → ℕ
  cell_sum c =
      sum f (settings c.attributes)
      + f (cell-stmt c.body.type c.name)
      + sum (λ p. f (cell-param-stmt p.0 p.1.0 p.1.1)) c.body.parameters
      + sum (λ k. f (cell-conn-stmt k.0 k.1)) c.body.connections
      + f end-stmt

  unfoldable pub process_sum : Object (List Line) → ℕ
  process_sum o = sum f (settings o.attributes) + f (proc-stmt o.name) + sum f (flat_map line_statements o.body) + f end-stmt

  unfoldable pub body_sum : Module → ℕ
  body_sum m =
      sum (λ p. f (param-stmt p.0 p.1)) m.parameters
      + sum (λ w. sum f (settings w.attributes) + f (wire-stmt w.body w.name)) m.wires
      + sum (λ y. sum f (settings y.attributes) + f (memory-stmt y.body y.name)) m.memories
      + sum cell_sum m.cells
      + sum process_sum m.processes
      + sum (λ k. f (conn-stmt k.0 k.1)) m.connections

  cell-sum :
      (es : List CellEntry) →
      sum f (map line_in es)
      ≡ sum (λ p. f (cell-param-stmt p.0 p.1.0 p.1.1)) (flat_map parameter_of es) + sum (λ k. f (cell-conn-stmt k.0 k.1)) (flat_map port_of es)
  unfolding nesting_open sum
  cell-sum [] = refl
  cell-sum (parameter-entry o a ∷ es) = omega (arith, cell-sum es)
  cell-sum (port-entry n x ∷ es) = omega (arith, cell-sum es)

  entry-sum : (e : Entry) (es : List Entry) → body_sum (body_of (e ∷ es)) ≡ sum f (lines_of e) + body_sum (body_of es)
  unfolding nesting_open sum body_sum cell_sum process_sum
  entry-sum (param-entry n c) es = omega arith
  entry-sum (wire-entry o) es = omega (arith, sum-append f (settings o.attributes) (wire-stmt o.body o.name ∷ []))
  entry-sum (memory-entry o) es = omega (arith, sum-append f (settings o.attributes) (memory-stmt o.body o.name ∷ []))
  entry-sum (cell-entry at t n cs) es =
      omega (
        arith,
        sum-append f (settings at) (cell-stmt t n ∷ map line_in cs ++ end-stmt ∷ []),
        sum-append f (map line_in cs) (end-stmt ∷ []),
        cell-sum cs,
      )
  entry-sum (process-entry o) es =
      omega (
        arith,
        sum-append f (settings o.attributes) (proc-stmt o.name ∷ flat_map line_statements o.body ++ end-stmt ∷ []),
        sum-append f (flat_map line_statements o.body) (end-stmt ∷ []),
      )
  entry-sum (connection-entry x y) es = omega arith

  pub body-sum : (es : List Entry) → sum f (flat_map lines_of es) ≡ body_sum (body_of es)
  unfolding flat_map sum body_sum body_of
  body-sum [] = refl
  body-sum (e ∷ es) = sum-append f (lines_of e) (flat_map lines_of es) ∙ ap (λ (n : ℕ). sum f (lines_of e) + n) (body-sum es) ∙ sym (entry-sum e es)

  pub body_end : (es : List Entry) → f end-stmt ≡ 0 → sum f (flat_map lines_of es ++ end-stmt ∷ []) ≡ body_sum (body_of es)
  unfolding sum
  body_end es e = omega (arith, sum-append f (flat_map lines_of es) (end-stmt ∷ []), body-sum es)

  -- a module of a design; a design
  unfoldable pub module_sum : Object Module → ℕ
  module_sum o = sum f (settings o.attributes) + f (module-stmt o.name) + body_sum o.body + f end-stmt

  unfoldable pub design_sum : Design → ℕ
  design_sum d = sum f (map autoidx-stmt (Option-to_list d.autoidx)) + sum module_sum d.modules

  module-sum : (o : Object (List Entry)) → sum f (lines_of_module o) ≡ module_sum (module_in o)
  unfolding lines_of_module module_in module_sum sum
  module-sum o =
      omega (
        arith,
        sum-append f (settings o.attributes) (module-stmt o.name ∷ flat_map lines_of o.body ++ end-stmt ∷ []),
        sum-append f (flat_map lines_of o.body) (end-stmt ∷ []),
        body-sum o.body,
      )

  file-sum : (x : File) → sum f (lines_of_file x) ≡ design_sum (design_of x)
  unfolding lines_of_file design_of design_sum
  file-sum x =
      sum-append f (map autoidx-stmt (Option-to_list x.autoidx)) (flat_map lines_of_module x.modules)
      ∙ ap (λ (n : ℕ). sum f (map autoidx-stmt (Option-to_list x.autoidx)) + n)
      (sum-flat_map f lines_of_module x.modules ∙ sum_same _ (λ o. module_sum (module_in o)) module-sum x.modules ∙ sym (sum-map module_sum module_in x.modules))

  pub flatten-sum : (d : Design) → sum f (flatten d) ≡ design_sum d
  flatten-sum d = ap (sum f) (flatten-file d) ∙ file-sum (file_of d) ∙ ap design_sum (design-file d)

  -- in canonical order the same
  pub canonical-sum : (x : File) → sum f (flatten (design_of x)) ≡ sum f (lines_of_file x)
  canonical-sum x = flatten-sum (design_of x) ∙ sym (file-sum x)

-- SUMS THAT LEAVE OUT `autoidx`, attributes, what is inside cells and processes, and ends
pub record Sparse (f : Statement → ℕ) : Type 0 where
  pub autoidx : (i : ℤ) → f (autoidx-stmt i) ≡ 0
  pub attribute : (n : Name) (c : Constant) → f (attr-stmt n c) ≡ 0
  pub parameter : (o : Sort) (n : Name) (c : Constant) → f (cell-param-stmt o n c) ≡ 0
  pub port : (n : Name) (x : Signal) → f (cell-conn-stmt n x) ≡ 0
  pub step : (p : Step) (xs : List Signal) → f (step-stmt p xs) ≡ 0
  pub end : f end-stmt ≡ 0

pub settings-zero : (f : Statement → ℕ) → ((n : Name) (c : Constant) → f (attr-stmt n c) ≡ 0) → (at : List Setting) → sum f (settings at) ≡ 0
settings-zero f z at = sum-map f (λ a. attr-stmt a.0 a.1) at ∙ sum-zero _ (λ a. z a.0 a.1) at

module _ (f : Statement → ℕ) (z : Sparse f) where
  autoidx-zero : (o : Option ℤ) → sum f (map autoidx-stmt (Option-to_list o)) ≡ 0
  unfolding sum Option-to_list
  autoidx-zero none = refl
  autoidx-zero (some i) = omega (arith, z.autoidx i)

  cell-zero : (c : Object Cell) → cell_sum f c ≡ f (cell-stmt c.body.type c.name)
  unfolding cell_sum
  cell-zero c =
      let p = sum-zero (λ (p : Sort × Setting). f (cell-param-stmt p.0 p.1.0 p.1.1)) (λ p. z.parameter p.0 p.1.0 p.1.1) c.body.parameters in
      let k = sum-zero (λ (k : Name × Signal). f (cell-conn-stmt k.0 k.1)) (λ k. z.port k.0 k.1) c.body.connections in
      omega (arith, settings-zero f z.attribute c.attributes, z.end)

  line-zero : (l : Line) → sum f (line_statements l) ≡ 0
  unfolding line_statements sum
  line-zero (step_line at p xs) = omega (arith, sum-append f (settings at) (step-stmt p xs ∷ []), settings-zero f z.attribute at, z.step p xs)
  line-zero end_line = omega (arith, z.end)

  process-zero : (o : Object (List Line)) → process_sum f o ≡ f (proc-stmt o.name)
  unfolding process_sum
  process-zero o =
      let b : sum f (flat_map line_statements o.body) ≡ 0 = sum-flat_map f line_statements o.body ∙ sum-zero (λ l. sum f (line_statements l)) line-zero o.body in
      omega (arith, settings-zero f z.attribute o.attributes, z.end)

  -- by the sums of a module's six lists
  sparse-sum :
      (m : Module) {p w y c r k : ℕ} →
      sum (λ p. f (param-stmt p.0 p.1)) m.parameters ≡ p →
      sum (λ w. f (wire-stmt w.body w.name)) m.wires ≡ w →
      sum (λ y. f (memory-stmt y.body y.name)) m.memories ≡ y →
      sum (λ c. f (cell-stmt c.body.type c.name)) m.cells ≡ c →
      sum (λ o. f (proc-stmt o.name)) m.processes ≡ r →
      sum (λ k. f (conn-stmt k.0 k.1)) m.connections ≡ k →
      body_sum f m ≡ p + w + y + c + r + k
  unfolding body_sum
  sparse-sum m ep ew ey ec er ek =
      omega (
        arith,
        sum_same (λ (w : Object Wire). sum f (settings w.attributes) + f (wire-stmt w.body w.name)) (λ w. f (wire-stmt w.body w.name))
            (λ w. omega (arith, settings-zero f z.attribute w.attributes)) m.wires,
        sum_same (λ (y : Object Memory). sum f (settings y.attributes) + f (memory-stmt y.body y.name)) (λ y. f (memory-stmt y.body y.name))
            (λ y. omega (arith, settings-zero f z.attribute y.attributes)) m.memories,
        sum_same (cell_sum f) (λ c. f (cell-stmt c.body.type c.name)) cell-zero m.cells,
        sum_same (process_sum f) (λ o. f (proc-stmt o.name)) process-zero m.processes,
      )

-- THE TALLIES
times-map : {A : Type 0} (n : Name) (g : A → Name) (xs : List A) → times (same n) (map g xs) ≡ sum (λ x. cond (same n (g x)) 1 0) xs
unfolding times
times-map n g xs = sum-map (λ m. cond (same n m) 1 0) g xs

pub object-sparse : (n : Name) → Sparse (object_names.one n)
unfolding name_tally space among any statements_open
object-sparse n = record { autoidx = λ i. refl; attribute = λ m c. refl; parameter = λ o m c. refl; port = λ m x. refl; step = λ p xs. refl; end = refl }

pub object-sum : (n : Name) (m : Module) → body_sum (object_names.one n) m ≡ times (same n) (names m)
unfolding name_tally space among any names statements_open
object-sum n m =
    let ws = map (λ (o : Object Wire). o.name) m.wires in
    let ys = map (λ (o : Object Memory). o.name) m.memories in
    let cs = map (λ (o : Object Cell). o.name) m.cells in
    let ac = times-append (same n) (ws ++ ys ++ cs) (map (λ o. o.name) m.processes) in
    let ab = times-append (same n) (ws ++ ys) cs in
    let aa = times-append (same n) ws ys in
    omega (
      arith,
      sparse-sum (object_names.one n) (object-sparse n) m (sum-zero _ (λ p. refl) m.parameters) (sym (times-map n (λ o. o.name) m.wires))
          (sym (times-map n (λ o. o.name) m.memories)) (sym (times-map n (λ o. o.name) m.cells)) (sym (times-map n (λ o. o.name) m.processes)) (sum-zero _ (λ k. refl) m.connections),
    )

pub parameter-sparse : (n : Name) → Sparse (parameter_names.one n)
unfolding name_tally space among any statements_open
parameter-sparse n = record { autoidx = λ i. refl; attribute = λ m c. refl; parameter = λ o m c. refl; port = λ m x. refl; step = λ p xs. refl; end = refl }

pub parameter-sum : (n : Name) (m : Module) → body_sum (parameter_names.one n) m ≡ times (same n) (map (λ p. p.0) m.parameters)
unfolding name_tally space among any statements_open
parameter-sum n m =
    omega (
      arith,
      sparse-sum (parameter_names.one n) (parameter-sparse n) m (sym (times-map n (λ p. p.0) m.parameters)) (sum-zero _ (λ w. refl) m.wires)
          (sum-zero _ (λ y. refl) m.memories) (sum-zero _ (λ c. refl) m.cells) (sum-zero _ (λ o. refl) m.processes) (sum-zero _ (λ k. refl) m.connections),
    )

module-sparse : (n : Name) → Sparse (module_names.one n)
unfolding name_tally space among any statements_open
module-sparse n = record { autoidx = λ i. refl; attribute = λ m c. refl; parameter = λ o m c. refl; port = λ m x. refl; step = λ p xs. refl; end = refl }

module-named : (n : Name) (o : Object Module) → module_sum (module_names.one n) o ≡ cond (same n o.name) 1 0
unfolding module_sum name_tally space among any statements_open
module-named n o =
    let m = o.body in
    omega (
      arith,
      settings-zero (module_names.one n) (module-sparse n).attribute o.attributes,
      sparse-sum (module_names.one n) (module-sparse n) m (sum-zero _ (λ p. refl) m.parameters) (sum-zero _ (λ w. refl) m.wires)
          (sum-zero _ (λ y. refl) m.memories) (sum-zero _ (λ c. refl) m.cells) (sum-zero _ (λ o. refl) m.processes) (sum-zero _ (λ k. refl) m.connections),
    )

pub file-names-sum : (n : Name) (x : File) → sum (module_names.one n) (lines_of_file x) ≡ times (same n) (map (λ o. o.name) x.modules)
unfolding design_sum design_of module_in
file-names-sum n x =
    omega (
      arith,
      file-sum (module_names.one n) x,
      autoidx-zero (module_names.one n) (module-sparse n) x.autoidx,
      sum-map (module_sum (module_names.one n)) module_in x.modules,
      sum_same _ _ (λ o. module-named n (module_in o)) x.modules,
      times-map n (λ (o : Object (List Entry)). o.name) x.modules,
    )

pub port-sparse : (n : ℕ) → Sparse (port_tally.one n)
unfolding port_tally sum statements_open
port-sparse n = record { autoidx = λ i. refl; attribute = λ m c. refl; parameter = λ o m c. refl; port = λ m x. refl; step = λ p xs. refl; end = refl }

port-wires :
    (n : ℕ) (ws : List (Object Wire)) → sum (λ w. port_tally.one n (wire-stmt w.body w.name)) ws ≡ times (eqb n) (flat_map (λ w. port_numbers w.body) ws)
unfolding port_tally times sum flat_map statements_open
port-wires n [] = refl
port-wires n (w ∷ ws) = omega (arith, sum-append (λ m. cond (eqb n m) 1 0) (port_numbers w.body) (flat_map (λ w. port_numbers w.body) ws), port-wires n ws)

pub port-sum : (n : ℕ) (m : Module) → body_sum (port_tally.one n) m ≡ times (eqb n) (ports_in m)
unfolding port_tally sum ports_in statements_open
port-sum n m =
    omega (
      arith,
      sparse-sum (port_tally.one n) (port-sparse n) m (sum-zero _ (λ p. refl) m.parameters) (port-wires n m.wires)
          (sum-zero _ (λ y. refl) m.memories) (sum-zero _ (λ c. refl) m.cells) (sum-zero _ (λ o. refl) m.processes) (sum-zero _ (λ k. refl) m.connections),
    )

-- inside a cell, and on an object
pub cell-parameter-sum :
    (n : Name) (es : List CellEntry) →
    sum (cell_parameter_names.one n) (map line_in es ++ end-stmt ∷ []) ≡ times (same n) (map (λ p. p.1.0) (flat_map parameter_of es))
unfolding name_tally space among any times sum nesting_open statements_open
cell-parameter-sum n [] = refl
cell-parameter-sum n (parameter-entry o a ∷ es) = omega (arith, cell-parameter-sum n es)
cell-parameter-sum n (port-entry m x ∷ es) = omega (arith, cell-parameter-sum n es)

pub cell-port-sum :
    (n : Name) (es : List CellEntry) → sum (cell_port_names.one n) (map line_in es ++ end-stmt ∷ []) ≡ times (same n) (map (λ k. k.0) (flat_map port_of es))
unfolding name_tally space among any times sum nesting_open statements_open
cell-port-sum n [] = refl
cell-port-sum n (parameter-entry o a ∷ es) = omega (arith, cell-port-sum n es)
cell-port-sum n (port-entry m x ∷ es) = omega (arith, cell-port-sum n es)

pub attribute-sum : (n : Name) (at : List Setting) → sum (attribute_names.one n) (settings at) ≡ times (same n) (setting_names at)
unfolding name_tally space among any times sum statements_open
attribute-sum n [] = refl
attribute-sum n (a ∷ at) = omega (arith, attribute-sum n at)

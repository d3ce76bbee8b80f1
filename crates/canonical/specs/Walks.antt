-- Along the statements of a file: what each is new for, if the file's modules are fine.
-- Assumes nothing.
use Rattle.std.specs.Prelude.{ℕ, ◌≤◌, ◌≡◌, Bool, true, ℤ, eqb, length}
use Rattle.std.proofs.Math.Path.{refl}
use Rattle.std.proofs.Common.{ap, ◌∙◌, arith}
use mathlib.Core.List.{List, [], ◌∷◌, ◌++◌, map, flat_map, reverse, reverse_aux, reverse_aux-append, Option-to_list}
use Rattle.std.proofs.Math.Option.{Option, none, some}
use Rattle.std.proofs.Math.Bool.{not}
use Rattle.std.proofs.lemmas.Bool.{not-true}
use Rattle.rules.specs.Bytes.{same, any, all}
use Rattle.rules.specs.Tokens.{Name}
use Rattle.rules.specs.Statements.{Constant, Signal, Wire, Memory, Statement, autoidx-stmt, attr-stmt, module-stmt, param-stmt, wire-stmt, memory-stmt, cell-stmt, conn-stmt, proc-stmt, step-stmt, end-stmt, a_module, a_cell, a_cell_parameter, a_cell_connection, is, statements_open}
use Rattle.rules.specs.Judgement.{Past, sum, among, space}
use Rattle.rules.specs.Design.{Setting, Object, Cell, Line, step_line, end_line, Module, line_statements, process_lines}
use Rattle.rules.specs.Session.{names}
use Rattle.lists.specs.Tests.{or-false-left, or-false-right}
use Rattle.lists.specs.Elements.{all_append, all-each, all_same, all_first, all-later, Each, all-flat_map, each-front, each_back, each-apart}
use Rattle.canonical.specs.Nesting.{CellEntry, Entry, param-entry, wire-entry, memory-entry, cell-entry, process-entry, connection-entry, File, settings, line_in, lines_of, lines_of_module, lines_of_file, wires_of, memories_of, cell_body, cells_of, processes_of, connections_of, body_of, module_in, nesting_open}
use Rattle.canonical.specs.DesignLaws.{settings-pass, cell-pass, lines-pass}
use Rattle.canonical.specs.Fine.{times, Differ, ports_in, setting_names, line_settings, FineCell, FineProcess, FineModule}
use Rattle.canonical.specs.Tally.{Through, Tally, Lawful, behind-all, through-behind, held-once, part-once, part-new, not_attribute, name_tally, module_names, object_names, attribute_names, parameter_names, cell_parameter_names, cell_port_names, port_tally, module-names-lawful, object-names-lawful, attribute-names-lawful, parameter-names-lawful, cell-parameter-names-lawful, cell-port-names-lawful, port-lawful}
use Rattle.canonical.specs.BodySums.{body_sum, body_end, Sparse, object-sparse, parameter-sparse, port-sparse, object-sum, parameter-sum, port-sum, file-names-sum, cell-parameter-sum, cell-port-sum, attribute-sum}

-- what each element's statements keep, all keep
pub behind-each :
    {A : Type 0} (g : A → List Statement) (P : A → Type 0) (Q : Past → Type 0) → ((x : A) (p : Past) → P x → Q p → Q (reverse_aux (g x) p)) →
    (xs : List A) (p : Past) → Each P xs → Q p → Q (reverse_aux (flat_map g xs) p)
unfolding flat_map
behind-each g P Q h [] p e q = q
behind-each g P Q h (x ∷ xs) p e q =
    rw (reverse_aux-append (g x) (flat_map g xs) p) (behind-each g P Q h xs (reverse_aux (g x) p) e.1 (h x p e.0 q))

pub behind-settings :
    (Q : Past → Type 0) → ((n : Name) (c : Constant) (p : Past) → Q p → Q (attr-stmt n c ∷ p)) → (at : List Setting) (p : Past) → Q p →
    Q (reverse_aux (settings at) p)
behind-settings Q h [] p q = q
behind-settings Q h (a ∷ at) p q = behind-settings Q h at (attr-stmt a.0 a.1 ∷ p) (h a.0 a.1 p q)

-- through a module: its attributes, its line, its entries and its end
pub behind-module :
    (P : Entry → Type 0) (Q R : Past → Type 0) → ((e : Entry) (p : Past) → P e → Q p → Q (reverse_aux (lines_of e) p)) → ((p : Past) → Q p → R (end-stmt ∷ p)) →
    (o : Object (List Entry)) (p : Past) → Each P o.body → Q (module-stmt o.name ∷ reverse_aux (settings o.attributes) p) → R (reverse_aux (lines_of_module o) p)
unfolding lines_of_module
behind-module P Q R h k o p e q =
    rw (reverse_aux-append (settings o.attributes), reverse_aux-append (flat_map lines_of o.body)) (k _ (behind-each lines_of P Q h o.body _ e q))

-- LINES
abbrev pub no_module : Statement → Bool
no_module s = not (is a_module s)

abbrev pub no_cell : Statement → Bool
no_cell s = not (is a_cell s)

attribute-no-module : (n : Name) (c : Constant) → no_module (attr-stmt n c) ≡ true
unfolding statements_open
attribute-no-module n c = refl

pub entry-inside : (e : Entry) → all no_module (lines_of e) ≡ true
unfolding all lines_of process_lines statements_open
entry-inside (param-entry n c) = refl
entry-inside (wire-entry o) = all_append no_module (settings o.attributes) _ (settings-pass no_module attribute-no-module o.attributes) refl
entry-inside (memory-entry o) = all_append no_module (settings o.attributes) _ (settings-pass no_module attribute-no-module o.attributes) refl
entry-inside (cell-entry at t n es) = all_append no_module (settings at) _ (settings-pass no_module attribute-no-module at) (cell-pass (λ s. s) no_module (λ o n c. refl) (λ n x. refl) refl es)
entry-inside (process-entry o) = all_append no_module (settings o.attributes) _ (settings-pass no_module attribute-no-module o.attributes) (lines-pass no_module attribute-no-module (λ p xs. refl) refl o.body)
entry-inside (connection-entry x y) = refl

pub body-inside : (es : List Entry) → all no_module (flat_map lines_of es ++ end-stmt ∷ []) ≡ true
unfolding all statements_open
body-inside es = all_append no_module (flat_map lines_of es) _ (all-flat_map no_module lines_of entry-inside es) refl

pub is-module : (n : Name) → is {C = Constant} {S = Signal} {W = Wire} {M = Memory} a_module (module-stmt n) ≡ true
unfolding statements_open
is-module n = refl

pub is-cell : (t n : Name) → is {C = Constant} {S = Signal} {W = Wire} {M = Memory} a_cell (cell-stmt t n) ≡ true
unfolding statements_open
is-cell t n = refl

-- no statement in a module, or in a cell, ends what is told of it
pub body-stays :
    {I : Type 0} (t : Tally I) → ((s : Statement) → t.ends s ≡ is a_module s) → (es : List Entry) →
    all (λ s. not (t.ends s)) (flat_map lines_of es ++ end-stmt ∷ []) ≡ true
body-stays t q es = all_same (λ s. not (t.ends s)) no_module (λ s. ap not (q s)) _ ∙ body-inside es

pub cell_stays :
    (t : Tally Name) → ((s : Statement) → t.ends s ≡ is a_cell s) → (es : List CellEntry) → all (λ s. not (t.ends s)) (map line_in es ++ end-stmt ∷ []) ≡ true
unfolding statements_open
cell_stays t q es = all_same (λ s. not (t.ends s)) no_cell (λ s. ap not (q s)) _ ∙ cell-pass (λ s. s) no_cell (λ o n c. refl) (λ n x. refl) refl es

-- A MODULE'S PARTS: a tally of what may stand only once in a module, and how often it stands in a module's design
pub record OfModule {I : Type 0} (t : Tally I) (of : Module → I → ℕ) : Type 0 where
  pub lawful : Lawful t
  pub ends : (s : Statement) → t.ends s ≡ is a_module s
  pub sparse : (i : I) → Sparse (t.one i)
  pub sums : (i : I) (m : Module) → body_sum (t.one i) m ≡ of m i

module _ {I : Type 0} {t : Tally I} {of : Module → I → ℕ} (w : OfModule t of) where
  body-once : (es : List Entry) (i : I) → sum (t.one i) (flat_map lines_of es ++ end-stmt ∷ []) ≡ of (body_of es) i
  body-once es i = body_end (t.one i) es (w.sparse i).end ∙ w.sums i (body_of es)

  pub module-once :
      (n : Name) (es : List Entry) (p : Past) → Through t.new (reverse_aux (flat_map lines_of es ++ end-stmt ∷ []) (module-stmt n ∷ p)) → (i : I) →
      of (body_of es) i ≤ 1
  module-once n es p h i =
      rw (← body-once es i) (part-once t w.lawful (module-stmt n) _ p (w.ends (module-stmt n) ∙ is-module n) (body-stays t w.ends es) h i)

  -- an `autoidx` line and attributes are new
  pub autoidx-new : (i : ℤ) → t.new [] (autoidx-stmt i) ≡ true
  autoidx-new i = w.lawful.fresh (autoidx-stmt i) [] (λ j. omega (arith, w.lawful.none j, (w.sparse j).autoidx i))

  attribute-new : (n : Name) (c : Constant) (p : Past) → Through t.new p → Through t.new (attr-stmt n c ∷ p)
  attribute-new n c p h = (w.lawful.fresh (attr-stmt n c) p (λ i. omega (arith, held-once t w.lawful p h i, (w.sparse i).attribute n c)), h)

  module-new : (o : Object (List Entry)) (p : Past) → ((i : I) → of (body_of o.body) i ≤ 1) → Through t.new p → Through t.new (reverse_aux (lines_of_module o) p)
  unfolding lines_of_module
  module-new o p b h =
      rw (reverse_aux-append (settings o.attributes))
      (part-new t w.lawful (module-stmt o.name) _ (reverse_aux (settings o.attributes) p) (w.ends (module-stmt o.name) ∙ is-module o.name)
      (body-stays t w.ends o.body) (λ i. rw (body-once o.body i) (b i))
      (behind-settings (Through t.new) attribute-new o.attributes p h))

  pub modules-new :
      (os : List (Object (List Entry))) (p : Past) → Each (λ o. (i : I) → of (body_of o.body) i ≤ 1) os → Through t.new p →
      Through t.new (reverse_aux (flat_map lines_of_module os) p)
  modules-new os p e h = behind-each lines_of_module _ (Through t.new) module-new os p e h

-- wires, memories, cells and processes; parameters; port numbers
pub objects : OfModule object_names (λ m n. times (same n) (names m))
unfolding name_tally
objects = record { lawful = object-names-lawful; ends = λ s. refl; sparse = object-sparse; sums = object-sum }

pub parameters : OfModule parameter_names (λ m n. times (same n) (map (λ p. p.0) m.parameters))
unfolding name_tally
parameters = record { lawful = parameter-names-lawful; ends = λ s. refl; sparse = parameter-sparse; sums = parameter-sum }

pub port-numbers : OfModule port_tally (λ m n. times (eqb n) (ports_in m))
unfolding port_tally
port-numbers = record { lawful = port-lawful; ends = λ s. refl; sparse = port-sparse; sums = port-sum }

-- A CELL'S PARTS
unfoldable pub inside_cell : Statement → Bool
inside_cell s = among (a_cell_parameter ∷ a_cell_connection ∷ []) s

-- a tally of what may stand only once in a cell, and how often it stands in a cell's design
pub record OfCell (t : Tally Name) (of : Cell → Name → ℕ) : Type 0 where
  pub lawful : Lawful t
  pub ends : (s : Statement) → t.ends s ≡ is a_cell s
  pub outside : (s : Statement) (p : Past) → not (inside_cell s) ≡ true → t.new p s ≡ true
  pub sums : (i y : Name) (es : List CellEntry) → sum (t.one i) (map line_in es ++ end-stmt ∷ []) ≡ of (cell_body y es) i

module _ {t : Tally Name} {of : Cell → Name → ℕ} (w : OfCell t of) where
  pub cell-once :
      (y n : Name) (es : List CellEntry) (p : Past) → Through t.new (reverse_aux (map line_in es ++ end-stmt ∷ []) (cell-stmt y n ∷ p)) → (i : Name) →
      of (cell_body y es) i ≤ 1
  cell-once y n es p h i = rw (← w.sums i y es) (part-once t w.lawful (cell-stmt y n) _ p (w.ends (cell-stmt y n) ∙ is-cell y n) (cell_stays t w.ends es) h i)

  outside-new : (l : List Statement) (p : Past) → all (λ s. not (inside_cell s)) l ≡ true → Through t.new p → Through t.new (reverse_aux l p)
  outside-new = behind-all (Through t.new) (λ s. not (inside_cell s)) (λ s p e h. (w.outside s p e, h))

  pub autoidx-outside : (i : ℤ) → t.new [] (autoidx-stmt i) ≡ true
  unfolding inside_cell among any statements_open
  autoidx-outside i = w.outside (autoidx-stmt i) [] refl

  settings-outside : (at : List Setting) → all (λ s. not (inside_cell s)) (settings at) ≡ true
  unfolding inside_cell among any statements_open
  settings-outside at = settings-pass (λ s. not (inside_cell s)) (λ n c. refl) at

  abbrev Once : Object Cell → Type 0
  Once c = (i : Name) → of c.body i ≤ 1

  entry_new : (e : Entry) (p : Past) → Each Once (cells_of e) → Through t.new p → Through t.new (reverse_aux (lines_of e) p)
  unfolding inside_cell lines_of process_lines cells_of all among any statements_open
  entry_new (param-entry n c) p b h = outside-new (lines_of (param-entry n c)) p refl h
  entry_new (wire-entry o) p b h = outside-new (lines_of (wire-entry o)) p (all_append (λ s. not (inside_cell s)) (settings o.attributes) _ (settings-outside o.attributes) refl) h
  entry_new (memory-entry o) p b h = outside-new (lines_of (memory-entry o)) p (all_append (λ s. not (inside_cell s)) (settings o.attributes) _ (settings-outside o.attributes) refl) h
  entry_new (cell-entry at y n es) p b h =
      rw (reverse_aux-append (settings at))
      (part-new t w.lawful (cell-stmt y n) (map line_in es ++ end-stmt ∷ []) (reverse_aux (settings at) p) (w.ends (cell-stmt y n) ∙ is-cell y n) (cell_stays t w.ends es)
      (λ i. rw (w.sums i y es) (b.0 i))
      (outside-new (settings at) p (settings-outside at) h))
  entry_new (process-entry o) p b h =
      outside-new (lines_of (process-entry o)) p
      (all_append (λ s. not (inside_cell s)) (settings o.attributes) _ (settings-outside o.attributes) (lines-pass (λ s. not (inside_cell s)) (λ n c. refl) (λ q xs. refl) refl o.body)) h
  entry_new (connection-entry x y) p b h = outside-new (lines_of (connection-entry x y)) p refl h

  cells-new-in : (o : Object (List Entry)) (p : Past) → Each Once (body_of o.body).cells → Through t.new p → Through t.new (reverse_aux (lines_of_module o) p)
  unfolding body_of inside_cell all among any statements_open
  cells-new-in o p b h =
      behind-module _ (Through t.new) (Through t.new) entry_new (λ q. outside-new (end-stmt ∷ []) q refl) o p (each-apart Once cells_of o.body b)
      (outside-new (module-stmt o.name ∷ []) _ refl (outside-new (settings o.attributes) p (settings-outside o.attributes) h))

  pub cells-new :
      (os : List (Object (List Entry))) (p : Past) → Each (λ o. Each Once (body_of o.body).cells) os → Through t.new p →
      Through t.new (reverse_aux (flat_map lines_of_module os) p)
  cells-new os p e h = behind-each lines_of_module _ (Through t.new) cells-new-in os p e h

-- parameters and ports of a cell
pub cell-parameters : OfCell cell_parameter_names (λ c n. times (same n) (map (λ p. p.1.0) c.parameters))
unfolding name_tally space inside_cell among any
cell-parameters =
    record {
      lawful = cell-parameter-names-lawful;
      ends = λ s. refl;
      outside = λ s p e. rw (or-false-left (is a_cell_parameter s) _ (not-true _ e));
      sums = λ n y es. cell-parameter-sum n es;
    }

pub cell-ports : OfCell cell_port_names (λ c n. times (same n) (map (λ k. k.0) c.connections))
unfolding name_tally space inside_cell among any
cell-ports =
    record {
      lawful = cell-port-names-lawful;
      ends = λ s. refl;
      outside = λ s p e. rw (or-false-left (is a_cell_connection s) _ (or-false-right (is a_cell_parameter s) _ (not-true _ e)));
      sums = λ n y es. cell-port-sum n es;
    }

-- ATTRIBUTES: none wait for the next object
abbrev pub Clean : Past → Type 0
Clean p = (n : Name) → attribute_names.held n p ≡ 0

abbrev Attributed : Past → Type 0
Attributed p = Through attribute_names.new p × Clean p

attribute-ends : (s : Statement) → attribute_names.ends s ≡ not_attribute s
unfolding name_tally
attribute-ends s = refl

pub settings-stay : (at : List Setting) → all (λ s. not (attribute_names.ends s)) (settings at) ≡ true
unfolding name_tally statements_open
settings-stay at = settings-pass (λ s. not (attribute_names.ends s)) (λ n c. refl) at

pub clean-behind : (s : Statement) (p : Past) → not_attribute s ≡ true → Clean (s ∷ p)
clean-behind s p e n = attribute-names-lawful.reset n s p (attribute-ends s ∙ e)

pub opening-clean : (o : Option ℤ) → Clean (reverse_aux (map autoidx-stmt (Option-to_list o)) [])
unfolding Option-to_list statements_open
opening-clean none n = attribute-names-lawful.none n
opening-clean (some i) n = clean-behind (autoidx-stmt i) [] refl n

next-attributed : (s : Statement) (p : Past) → not_attribute s ≡ true → Through attribute_names.new p → Attributed (s ∷ p)
next-attributed s p e h = ((attribute-names-lawful.opens s p (attribute-ends s ∙ e), h), clean-behind s p e)

others-attributed : (l : List Statement) (p : Past) → all not_attribute l ≡ true → Attributed p → Attributed (reverse_aux l p)
others-attributed = behind-all Attributed not_attribute (λ s p e h. next-attributed s p e h.0)

object-attributed :
    (at : List Setting) (s : Statement) (l : List Statement) (p : Past) → Differ (setting_names at) → all not_attribute (s ∷ l) ≡ true → Attributed p →
    Attributed (reverse_aux (settings at ++ s ∷ l) p)
object-attributed at s l p d e h =
    let t = through-behind attribute_names attribute-names-lawful (settings at) p (settings-stay at) (λ n. omega (arith, attribute-sum n at, d n, h.1 n)) h.0 in
    rw (reverse_aux-append (settings at))
    (others-attributed l (s ∷ reverse_aux (settings at) p) (all-later not_attribute s l e) (next-attributed s (reverse_aux (settings at) p) (all_first not_attribute s l e) t))

line-attributed : (l : Line) (p : Past) → Differ (setting_names (line_settings l)) → Attributed p → Attributed (reverse_aux (line_statements l) p)
unfolding all line_statements line_settings statements_open
line-attributed (step_line at q xs) p d h = object-attributed at (step-stmt q xs) [] p d refl h
line-attributed end_line p d h = others-attributed (end-stmt ∷ []) p refl h

process-attributed : (o : Object (List Line)) (p : Past) → FineProcess o → Attributed p → Attributed (reverse_aux (settings o.attributes ++ process_lines o.body o.name) p)
unfolding all process_lines statements_open
process-attributed o p f h =
    let front = object-attributed o.attributes (proc-stmt o.name) [] p f.attributes refl h in
    let inside : Attributed (proc-stmt o.name ∷ reverse_aux (settings o.attributes) p) = rw reverse_aux-append at front in
    rw (reverse_aux-append (settings o.attributes), reverse_aux-append (flat_map line_statements o.body))
    (others-attributed (end-stmt ∷ []) _ refl (behind-each line_statements _ Attributed line-attributed o.body _ f.steps inside))

-- what an entry has of a fine module
pub record FineEntry (e : Entry) : Type 0 where
  pub wires : Each (λ w. Differ (setting_names w.attributes)) (wires_of e)
  pub memories : Each (λ y. Differ (setting_names y.attributes)) (memories_of e)
  pub cells : Each FineCell (cells_of e)
  pub processes : Each FineProcess (processes_of e)
  pub connections : Each (λ k. eqb (length k.0) (length k.1) ≡ true) (connections_of e)

entry-attributed : (e : Entry) (p : Past) → FineEntry e → Attributed p → Attributed (reverse_aux (lines_of e) p)
unfolding all nesting_open statements_open
entry-attributed (param-entry n c) p d h = others-attributed (param-stmt n c ∷ []) p refl h
entry-attributed (wire-entry o) p d h = object-attributed o.attributes (wire-stmt o.body o.name) [] p d.wires.0 refl h
entry-attributed (memory-entry o) p d h = object-attributed o.attributes (memory-stmt o.body o.name) [] p d.memories.0 refl h
entry-attributed (cell-entry at y n es) p d h = object-attributed at (cell-stmt y n) (map line_in es ++ end-stmt ∷ []) p d.cells.0.attributes (cell-pass (λ s. s) not_attribute (λ o m c. refl) (λ m x. refl) refl es) h
entry-attributed (process-entry o) p d h = process-attributed o p d.processes.0 h
entry-attributed (connection-entry x y) p d h = others-attributed (conn-stmt x y ∷ []) p refl h

entries-apart :
    (es : List Entry) → let m = body_of es in
    Each (λ w. Differ (setting_names w.attributes)) m.wires → Each (λ y. Differ (setting_names y.attributes)) m.memories → Each FineCell m.cells →
    Each FineProcess m.processes → Each (λ k. eqb (length k.0) (length k.1) ≡ true) m.connections → Each FineEntry es
unfolding body_of flat_map
entries-apart [] w y c r k = tt
entries-apart (e ∷ es) w y c r k = (
  record {
    wires = each-front _ (wires_of e) _ w;
    memories = each-front _ (memories_of e) _ y;
    cells = each-front _ (cells_of e) _ c;
    processes = each-front _ (processes_of e) _ r;
    connections = each-front _ (connections_of e) _ k;
  },
  entries-apart es (each_back _ (wires_of e) _ w) (each_back _ (memories_of e) _ y) (each_back _ (cells_of e) _ c) (each_back _ (processes_of e) _ r) (each_back _ (connections_of e) _ k),
)

abbrev pub FineIn : Object (List Entry) → Type 0
FineIn o = FineModule (module_in o)

pub entries-fine : (o : Object (List Entry)) → FineIn o → Each FineEntry o.body
unfolding module_in
entries-fine o f = entries-apart o.body f.wires f.memories f.cells f.processes f.connections

module-attributed : (o : Object (List Entry)) (p : Past) → FineIn o → Attributed p → Attributed (reverse_aux (lines_of_module o) p)
unfolding all module_in statements_open
module-attributed o p f h =
    let front = object-attributed o.attributes (module-stmt o.name) [] p f.attributes refl h in
    behind-module FineEntry Attributed Attributed entry-attributed (λ q. others-attributed (end-stmt ∷ []) q refl) o p (entries-fine o f)
    (rw reverse_aux-append at front)

pub attributes-new :
    (os : List (Object (List Entry))) (p : Past) → Each FineIn os → Through attribute_names.new p → Clean p → Through attribute_names.new (reverse_aux (flat_map lines_of_module os) p)
attributes-new os p fine h c = (behind-each lines_of_module FineIn Attributed module-attributed os p fine (h, c)).0

-- MODULE NAMES
pub modules-named : (x : File) → Differ (map (λ o. o.name) x.modules) → Through module_names.new (reverse (lines_of_file x))
unfolding name_tally
modules-named x d =
    through-behind module_names module-names-lawful (lines_of_file x) [] (all-each _ (λ s. refl) (lines_of_file x)) (λ n. omega (arith, file-names-sum n x, d n, module-names-lawful.none n)) tt

-- Each statement of a file of fine modules stands where it may, and the file may end behind the last one.
-- Assumes nothing.
use Rattle.std.specs.Prelude.{◌≡◌, refl, Bool, true, false, length, ℤ}
use Rattle.std.proofs.Common.{ap, ◌∙◌}
use mathlib.Core.List.{List, [], ◌∷◌, ◌++◌, map, flat_map, reverse, reverse_aux, reverse_aux-append, Option-to_list}
use Rattle.std.proofs.Math.Option.{Option, none, some}
use Rattle.rules.specs.Bytes.{any, all}
use Rattle.rules.specs.Tokens.{Name}
use Rattle.rules.specs.Statements.{Constant, Statement, an_attribute, a_parameter, a_connection, an_end, is, contents, autoidx-stmt, attr-stmt, module-stmt, param-stmt, wire-stmt, memory-stmt, cell-stmt, cell-param-stmt, cell-conn-stmt, conn-stmt, proc-stmt, end-stmt, statements_open}
use Rattle.rules.specs.Shapes.{Scope, top, in_module, in_cell, in_process, in_tail, in_sync, in_switch, in_case}
use Rattle.rules.specs.Judgement.{Past, outer, scope, switches, context, among, equal, fit_widths}
use Rattle.rules.specs.Reading.{is_top}
use Rattle.rules.specs.Design.{Setting, Object, Line, line_statements, process_lines}
use Rattle.lists.specs.Tests.{or_true_right}
use Rattle.lists.specs.Elements.{Each}
use Rattle.context.specs.Forms.{no}
use Rattle.admitted.specs.Admitted.{kinds, steps_in, stands_in, stands, closes}
use Rattle.admitted.specs.CountLaws.{stands-kind, stands-step, context-scope}
use Rattle.canonical.specs.Nesting.{connections_of, processes_of, CellEntry, parameter-entry, port-entry, Entry, param-entry, wire-entry, memory-entry, cell-entry, process-entry, connection-entry, File, settings, line_in, lines_of, lines_of_module, lines_of_file}
use Rattle.canonical.specs.Tally.{Through}
use Rattle.canonical.specs.Fine.{follows, FineProcess}
use Rattle.canonical.specs.Following.{passing-through, depth, inside, process-ends, none_open, lines-shut, process-follows}
use Rattle.canonical.specs.Walks.{behind-each, behind-settings, behind-module, FineEntry, FineIn, entries-fine}

-- statements that follow one another, and the next one's place: its scope, and that no attribute waits
pub record At (z : Scope) (p : Past) : Type 0 where
  pub standing : Through follows p
  pub scope : scope p ≡ z

pub record Ready (z : Scope) (p : Past) : Type 0 where
  pub at : At z p
  pub free : (context p).attributed ≡ false

-- where it may stand
abbrev pub fits : Scope → Bool → Bool → Statement → Bool
fits z first attributed s = stands_in z first attributed s

-- a statement that is no step follows where it may stand, if its signals are equally wide
pub record Simple (s : Statement) : Type 0 where
  pub no_steps : (contents s).steps ≡ []
  pub even : equal (map length (contents s).signals) ≡ true

follows-in : (z : Scope) (p : Past) (s : Statement) → Simple s → scope p ≡ z → fits z (context p).first (context p).attributed s ≡ true → follows p s ≡ true
unfolding follows stands fit_widths flat_map all
follows-in z p s o e h =
    let k : stands p s ≡ true = rw (context-scope p, e) h in
    rw (k, o.no_steps, o.even)

-- what may stand behind an attribute may stand where none waits
pub object-fits : (s : Statement) → fits in_module false true s ≡ true → (f a : Bool) → fits in_module f a s ≡ true
unfolding stands_in kinds steps_in among any
object-fits s h f true = h
object-fits s h f false =
    let k = or_true_right (is a_parameter s) _ (or_true_right (is a_connection s) _ (or_true_right (is an_end s) _ (stands-kind in_module false true s h))) in
    rw (k, stands-step in_module false true s h)

-- attributes wait for an object
unfoldable takes : Scope → Bool
takes top = true
takes in_module = true
takes in_cell = false
takes in_process = false
takes in_tail = false
takes in_sync = false
takes (in_switch k) = false
takes (in_case k) = false

attribute-at : (z : Scope) → takes z ≡ true → (n : Name) (c : Constant) (first attributed : Bool) → fits z first attributed (attr-stmt n c) ≡ true
unfolding takes stands_in kinds among any all statements_open
attribute-at top h n c true a = refl
attribute-at top h n c false a = refl
attribute-at in_module h n c f a = object-fits (attr-stmt n c) refl f a
attribute-at in_cell h n c f a = no h
attribute-at in_process h n c f a = no h
attribute-at in_tail h n c f a = no h
attribute-at in_sync h n c f a = no h
attribute-at (in_switch k) h n c f a = no h
attribute-at (in_case k) h n c f a = no h

simple-attribute : (n : Name) (c : Constant) → Simple (attr-stmt n c)
unfolding equal statements_open
simple-attribute n c = record { no_steps = refl; even = refl }

scope-attribute : (n : Name) (c : Constant) (p : Past) → scope (attr-stmt n c ∷ p) ≡ scope p
unfolding scope statements_open
scope-attribute n c p = refl

settings-at : (z : Scope) → takes z ≡ true → (at : List Setting) (p : Past) → At z p → At z (reverse_aux (settings at) p)
settings-at z h =
    behind-settings (At z)
    (λ n c p a. record { standing = (follows-in z p (attr-stmt n c) (simple-attribute n c) a.scope (attribute-at z h n c _ _), a.standing); scope = scope-attribute n c p ∙ a.scope })

-- a statement that is no attribute, where any may stand or where no attribute waits
next :
    {z y : Scope} {p : Past} (s : Statement) → Simple s → At z p → fits z (context p).first (context p).attributed s ≡ true → (scope p ≡ z → scope (s ∷ p) ≡ y) →
    is an_attribute s ≡ false → Ready y (s ∷ p)
unfolding context
next {z} {y} {p} s o a h k e = record { at = record { standing = (follows-in z p s o a.scope h, a.standing); scope = k a.scope }; free = e }

next-free :
    {z y : Scope} {p : Past} (s : Statement) → Simple s → Ready z p → ((first : Bool) → fits z first false s ≡ true) → (scope p ≡ z → scope (s ∷ p) ≡ y) →
    is an_attribute s ≡ false → Ready y (s ∷ p)
next-free {p = p} s o a h k e = next s o a.at (rw a.free (h (context p).first)) k e

module-fits : (n : Name) (f a : Bool) → fits top f a (module-stmt n) ≡ true
unfolding stands_in kinds among any all statements_open
module-fits n true a = refl
module-fits n false a = refl

ready-module : (n : Name) (p : Past) → At top p → Ready in_module (module-stmt n ∷ p)
unfolding scope equal statements_open
ready-module n p a = next (module-stmt n) (record { no_steps = refl; even = refl }) a (module-fits n _ _) (λ e. refl) refl

simple-end : Simple end-stmt
unfolding equal statements_open
simple-end = record { no_steps = refl; even = refl }

ready-end : (p : Past) → Ready in_module p → Ready top (end-stmt ∷ p)
unfolding scope outer stands_in kinds among any all statements_open
ready-end p a = next-free end-stmt simple-end a (λ f. refl) (λ e. rw e) refl

cell-lines : (es : List CellEntry) (p : Past) → Ready in_cell p → Ready in_module (reverse_aux (map line_in es ++ end-stmt ∷ []) p)
unfolding scope outer stands_in kinds among any all line_in equal statements_open
cell-lines [] p a = next-free end-stmt simple-end a (λ f. refl) (λ e. rw e) refl
cell-lines (parameter-entry o b ∷ es) p a =
    cell-lines es (cell-param-stmt o b.0 b.1 ∷ p) (next-free (cell-param-stmt o b.0 b.1) (record { no_steps = refl; even = refl }) a (λ f. refl) (λ e. e) refl)
cell-lines (port-entry n x ∷ es) p a = cell-lines es (cell-conn-stmt n x ∷ p) (next-free (cell-conn-stmt n x) (record { no_steps = refl; even = refl }) a (λ f. refl) (λ e. e) refl)

takes-top : takes top ≡ true
unfolding takes
takes-top = refl

takes-module : takes in_module ≡ true
unfolding takes
takes-module = refl

-- an object with its attributes
object-ready :
    {y : Scope} (at : List Setting) (s : Statement) (p : Past) → Simple s → fits in_module false true s ≡ true → (scope (reverse_aux (settings at) p) ≡ in_module → scope (s ∷ reverse_aux (settings at) p) ≡ y) →
    is an_attribute s ≡ false → Ready in_module p → Ready y (s ∷ reverse_aux (settings at) p)
object-ready at s p o h k e a = next s o (settings-at in_module takes-module at p a.at) (object-fits s h _ _) k e

-- a process: its lines follow there too, and behind them its module goes on
process-ready : (o : Object (List Line)) (p : Past) → FineProcess o → Ready in_module p → Ready in_module (reverse_aux (settings o.attributes ++ process_lines o.body o.name) p)
unfolding process_lines scope context depth inside statements_open
process-ready o p f a =
    let r = reverse_aux (settings o.attributes) p in
    let at = settings-at in_module takes-module o.attributes p a.at in
    let shut-before : switches r ≡ [] = none_open r at.standing (ap depth at.scope) in
    let lines : Through follows (reverse_aux (process_lines o.body o.name) r) =
    passing-through follows (process_lines o.body o.name) r (process-follows o.body o.name o.name r at.scope shut-before ∙ f.lines) at.standing in
    let body = flat_map line_statements o.body in
    let whole : Through follows (end-stmt ∷ reverse_aux body (proc-stmt o.name ∷ r)) = rw (reverse_aux-append body) at lines in
    let shut = lines-shut o.body 0 (proc-stmt o.name ∷ r) refl refl f.balanced whole.1 in
    rw (reverse_aux-append (settings o.attributes), reverse_aux-append body)
    (record { at = record { standing = whole; scope = process-ends (scope (reverse_aux body (proc-stmt o.name ∷ r))) shut.inside shut.depth }; free = refl })

entry_ready : (e : Entry) (p : Past) → FineEntry e → Ready in_module p → Ready in_module (reverse_aux (lines_of e) p)
unfolding lines_of scope stands_in kinds among any all equal connections_of processes_of statements_open
entry_ready (param-entry n c) p f a = next-free (param-stmt n c) (record { no_steps = refl; even = refl }) a (λ f. refl) (λ e. e) refl
entry_ready (wire-entry o) p f a =
    rw (reverse_aux-append (settings o.attributes))
    (object-ready o.attributes (wire-stmt o.body o.name) p (record { no_steps = refl; even = refl }) refl (λ e. e) refl a)
entry_ready (memory-entry o) p f a =
    rw (reverse_aux-append (settings o.attributes))
    (object-ready o.attributes (memory-stmt o.body o.name) p (record { no_steps = refl; even = refl }) refl (λ e. e) refl a)
entry_ready (cell-entry at t n es) p f a =
    rw (reverse_aux-append (settings at))
    (cell-lines es (cell-stmt t n ∷ reverse_aux (settings at) p) (object-ready at (cell-stmt t n) p (record { no_steps = refl; even = refl }) refl (λ e. refl) refl a))
entry_ready (process-entry o) p f a = process-ready o p f.processes.0 a
entry_ready (connection-entry x y) p f a =
    next-free (conn-stmt x y) (record { no_steps = refl; even = rw f.connections.0 }) a (λ f. refl) (λ e. e) refl

module-ready : (o : Object (List Entry)) (p : Past) → FineIn o → Ready top p → Ready top (reverse_aux (lines_of_module o) p)
module-ready o p f a =
    behind-module FineEntry (Ready in_module) (Ready top) entry_ready ready-end o p (entries-fine o f)
    (ready-module o.name _ (settings-at top takes-top o.attributes p a.at))

start-ready : Ready top []
unfolding scope context
start-ready = record { at = record { standing = tt; scope = refl }; free = refl }

autoidx-ready : (o : Option ℤ) → Ready top (reverse_aux (map autoidx-stmt (Option-to_list o)) [])
unfolding scope context follows stands stands_in kinds fit_widths equal flat_map among any all Option-to_list statements_open
autoidx-ready none = start-ready
autoidx-ready (some i) = record { at = record { standing = (refl, tt); scope = refl }; free = refl }

pub file-ready : (x : File) → Each FineIn x.modules → Ready top (reverse (lines_of_file x))
unfolding lines_of_file
file-ready x f =
    rw (reverse_aux-append (map autoidx-stmt (Option-to_list x.autoidx)))
    (behind-each lines_of_module FineIn (Ready top) module-ready x.modules _ f (autoidx-ready x.autoidx))

pub ready-closes : (p : Past) → Ready top p → closes p ≡ true
unfolding closes is_top
ready-closes p a = rw (context-scope p, a.at.scope, a.free)

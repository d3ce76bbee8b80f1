-- The design of an admitted file is fine.
-- Assumes nothing.
use Rattle.std.specs.Prelude.{◌≡◌, refl, Bool, true, false, not, length, eqb}
use Rattle.std.proofs.Common.{sym, ap, ◌∙◌, arith}
use mathlib.Core.List.{List, [], ◌∷◌, ◌++◌, map, flat_map, reverse, reverse_aux, reverse_aux-append, reverse-reverse, append_assoc, Option-to_list, map-map}
use Rattle.std.proofs.lemmas.Bool.{false≢true}
use Rattle.rules.specs.Bytes.{any, all}
use Rattle.rules.specs.Tokens.{Name}
use Rattle.rules.specs.Statements.{Statement, autoidx-stmt, module-stmt, param-stmt, wire-stmt, memory-stmt, cell-stmt, conn-stmt, proc-stmt, step-stmt, end-stmt, Signal, statements_open}
use Rattle.rules.specs.Shapes.{Scope, top, in_module, in_cell, in_process, in_tail, in_sync, in_switch, in_case}
use Rattle.rules.specs.Judgement.{Past, sum, wires, scope, context, among, equal, fit_widths}
use Rattle.rules.specs.Design.{Setting, Object, object, Line, step_line, end_line, line_statements, process_lines, design, flatten}
use Rattle.lists.specs.Tests.{and-true-left}
use Rattle.lists.specs.Elements.{Each, each_map, each-apart, each-together, all-each, all-flat_map}
use Rattle.lists.specs.Sums.{sum-reverse}
use Rattle.admitted.specs.Admitted.{kinds, stands_in, fine_alone, admits, admitted, closes}
use Rattle.canonical.specs.Nesting.{Entry, param-entry, wire-entry, memory-entry, cell-entry, process-entry, connection-entry, File, settings, line_in, lines_of, lines_of_module, lines_of_file, wires_of, memories_of, cell_body, cells_of, processes_of, connections_of, body_of, module_in, design_of, Balanced, BalancedFile}
use Rattle.canonical.specs.DesignLaws.{design-lines}
use Rattle.canonical.specs.Fine.{times, Differ, setting_names, line_settings, wires_in, follows, FineCell, FineProcess, FineModule, FineDesign}
use Rattle.canonical.specs.Following.{through-passing, follows-all, depth, none_open, process-follows}
use Rattle.canonical.specs.Tally.{Through, through_before, held-once, held-behind, not_attribute, name_tally, module_names, attribute_names, module-names-lawful, attribute-names-lawful}
use Rattle.canonical.specs.Sums.{all-fewer, sizes-fewer}
use Rattle.canonical.specs.BodySums.{canonical-sum, file-names-sum, attribute-sum}
use Rattle.canonical.specs.Apart.{sees, includes, through-admits, admitted-apart}
use Rattle.canonical.specs.Walks.{FineEntry, Clean, clean-behind, opening-clean, settings-stay, no_module, entry-inside, module-once, objects, parameters, port-numbers, cell-once, cell-parameters, cell-ports}
use Rattle.canonical.specs.Seen.{body-wires, seen-sound, body-sound}
use Rattle.canonical.specs.Parse.{Parsed, parsed}

-- lines that are admitted behind some statements, where no attribute waits
record Placed (l : List Statement) : Type 0 where
  past : Past
  clean : Clean past
  admits : Through admits (reverse_aux l past)

clean-last : (l : List Statement) (s : Statement) (p : Past) → not_attribute s ≡ true → Clean (reverse_aux (l ++ s ∷ []) p)
clean-last l s p e = rw (reverse_aux-append l) (clean-behind s (reverse_aux l p) e)

-- one after another
module _ {A : Type 0} (g : A → List Statement) (ends : (x : A) (p : Past) → Clean (reverse_aux (g x) p)) where
  all_placed : (xs : List A) (p : Past) → Clean p → Through admits (reverse_aux (flat_map g xs) p) → Each (λ x. Placed (g x)) xs
  unfolding flat_map
  all_placed [] p c h = tt
  all_placed (x ∷ xs) p c h =
      let k : Through admits (reverse_aux (flat_map g xs) (reverse_aux (g x) p)) = rw reverse_aux-append at h in
      (record { past = p; clean = c; admits = through_before admits (flat_map g xs) (reverse_aux (g x) p) k }, all_placed xs (reverse_aux (g x) p) (ends x p) k)

entry-clean : (e : Entry) (p : Past) → Clean (reverse_aux (lines_of e) p)
unfolding lines_of process_lines statements_open
entry-clean (param-entry n c) p = clean-last [] (param-stmt n c) p refl
entry-clean (wire-entry o) p = clean-last (settings o.attributes) (wire-stmt o.body o.name) p refl
entry-clean (memory-entry o) p = clean-last (settings o.attributes) (memory-stmt o.body o.name) p refl
entry-clean (cell-entry at t n es) p = rw (← append_assoc (settings at) (cell-stmt t n ∷ map line_in es)) (clean-last (settings at ++ cell-stmt t n ∷ map line_in es) end-stmt p refl)
entry-clean (process-entry o) p =
    rw (← append_assoc (settings o.attributes) (proc-stmt o.name ∷ flat_map line_statements o.body))
    (clean-last (settings o.attributes ++ proc-stmt o.name ∷ flat_map line_statements o.body) end-stmt p refl)
entry-clean (connection-entry x y) p = clean-last [] (conn-stmt x y) p refl

module-clean : (o : Object (List Entry)) (p : Past) → Clean (reverse_aux (lines_of_module o) p)
unfolding lines_of_module statements_open
module-clean o p =
    let l : List Statement = module-stmt o.name ∷ flat_map lines_of o.body in
    rw (← append_assoc (settings o.attributes) l) (clean-last (settings o.attributes ++ l) end-stmt p refl)

-- attributes of an object
settings-differ : (at : List Setting) (l : List Statement) → (t : Placed (settings at ++ l)) → Differ (setting_names at)
settings-differ at l t n =
    let p = t.past in
    let k : Through admits (reverse_aux l (reverse_aux (settings at) p)) = rw reverse_aux-append at t.admits in
    let h = includes attribute_names.new (λ q s a. a.attribute-names) (reverse_aux (settings at) p) (through_before admits l (reverse_aux (settings at) p) k) in
    omega (
      arith,
      held-once attribute_names attribute-names-lawful (reverse_aux (settings at) p) h n,
      held-behind attribute_names attribute-names-lawful (settings at) p (settings-stay at) n,
      attribute-sum n at,
      t.clean n,
    )

-- a process: its steps, and its lines as they follow behind any module's line
line_clean : (l : Line) (p : Past) → Clean (reverse_aux (line_statements l) p)
unfolding line_statements statements_open
line_clean (step_line at q xs) p = clean-last (settings at) (step-stmt q xs) p refl
line_clean end_line p = clean-last [] end-stmt p refl

line-differs : (l : Line) → Placed (line_statements l) → Differ (setting_names (line_settings l))
unfolding line_statements line_settings times sum
line-differs (step_line at q xs) t = settings-differ at (step-stmt q xs ∷ []) t
line-differs end_line t = λ n. omega arith

clean-process : (n : Name) (p : Past) → Clean (proc-stmt n ∷ p)
unfolding statements_open
clean-process n p = clean-behind (proc-stmt n) p refl

process-scope : (z : Scope) (f a : Bool) (n : Name) → stands_in z f a (proc-stmt n) ≡ true → z ≡ in_module
unfolding stands_in kinds among any statements_open
process-scope top true a n e = absurd (false≢true e)
process-scope top false a n e = absurd (false≢true e)
process-scope in_module f a n e = refl
process-scope in_cell f a n e = absurd (false≢true e)
process-scope in_process f true n e = absurd (false≢true e)
process-scope in_process f false n e = absurd (false≢true e)
process-scope in_tail f a n e = absurd (false≢true e)
process-scope in_sync f a n e = absurd (false≢true e)
process-scope (in_switch k) f true n e = absurd (false≢true e)
process-scope (in_switch k) f false n e = absurd (false≢true e)
process-scope (in_case k) f true n e = absurd (false≢true e)
process-scope (in_case k) f false n e = absurd (false≢true e)

through-follows : (p : Past) → Through admits p → Through follows p
through-follows p h = includes follows (λ q s a. a.standing) p h

process-fine : (o : Object (List Line)) → Balanced (o ∷ []) → Placed (settings o.attributes ++ process_lines o.body o.name) → FineProcess o
unfolding process_lines depth
process-fine o b t =
    let n = o.name in
    let r = reverse_aux (settings o.attributes) t.past in
    let body = flat_map line_statements o.body in
    let whole : Through admits (reverse_aux (proc-stmt n ∷ body ++ end-stmt ∷ []) r) = rw reverse_aux-append at t.admits in
    let ended : Through admits (end-stmt ∷ reverse_aux body (proc-stmt n ∷ r)) = rw reverse_aux-append at whole in
    let before : Through follows (proc-stmt n ∷ r) = through-follows (proc-stmt n ∷ r) (through_before admits body (proc-stmt n ∷ r) ended.1) in
    let z = process-scope (scope r) (context r).first (context r).attributed n (follows-all r (proc-stmt n) before.0).standing in
    let lines = through-passing follows (process_lines o.body n) r (through-follows (reverse_aux (proc-stmt n ∷ body ++ end-stmt ∷ []) r) whole) in
    record {
      attributes = settings-differ o.attributes _ t;
      steps = each_map _ _ line-differs o.body (all_placed line_statements line_clean o.body (proc-stmt n ∷ r) (clean-process n r) ended.1);
      balanced = b.0;
      lines = sym (process-follows o.body n n r z (none_open r before.1 (ap depth z))) ∙ lines;
    }

-- both sides of a connection
connection-even : (x y : Signal) → Placed (conn-stmt x y ∷ []) → eqb (length x) (length y) ≡ true
unfolding fit_widths equal flat_map all statements_open
connection-even x y t = and-true-left (eqb (length x) (length y)) true (follows-all t.past (conn-stmt x y) (through-follows (conn-stmt x y ∷ t.past) t.admits).0).widths

entry-fine : (e : Entry) → Balanced (processes_of e) → Placed (lines_of e) → FineEntry e
unfolding lines_of wires_of memories_of cells_of processes_of connections_of
entry-fine (param-entry n c) b t = record { wires = tt; memories = tt; cells = tt; processes = tt; connections = tt }
entry-fine (wire-entry o) b t = record { wires = (settings-differ o.attributes _ t, tt); memories = tt; cells = tt; processes = tt; connections = tt }
entry-fine (memory-entry o) b t = record { wires = tt; memories = (settings-differ o.attributes _ t, tt); cells = tt; processes = tt; connections = tt }
entry-fine (cell-entry at y n es) b t =
    let r = reverse_aux (settings at) t.past in
    let l : List Statement = map line_in es ++ end-stmt ∷ [] in
    let k : Through admits (reverse_aux l (cell-stmt y n ∷ r)) = rw reverse_aux-append at t.admits in
    let lines = reverse_aux l (cell-stmt y n ∷ r) in
    let cell : FineCell (object at n (cell_body y es)) =
    record {
      attributes = settings-differ at _ t;
      parameters = cell-once cell-parameters y n es r (includes _ (λ q s a. a.cell-parameter-names) lines k);
      ports = cell-once cell-ports y n es r (includes _ (λ q s a. a.cell-port-names) lines k);
    } in
    record { wires = tt; memories = tt; cells = (cell, tt); processes = tt; connections = tt }
entry-fine (process-entry o) b t = record { wires = tt; memories = tt; cells = tt; processes = (process-fine o b t, tt); connections = tt }
entry-fine (connection-entry x y) b t = record { wires = tt; memories = tt; cells = tt; processes = tt; connections = (connection-even x y t, tt) }

entries-fine : (es : List Entry) → Each (λ e. Balanced (processes_of e)) es → Each (λ e. Placed (lines_of e)) es → Each FineEntry es
entries-fine [] b t = tt
entries-fine (e ∷ es) b t = (entry-fine e b.0 t.0, entries-fine es b.1 t.1)

clean-module : (n : Name) (p : Past) → Clean (module-stmt n ∷ p)
unfolding statements_open
clean-module n p = clean-behind (module-stmt n) p refl

-- a module
module-fine : (o : Object (List Entry)) → Balanced (body_of o.body).processes → Placed (lines_of_module o) → FineModule (module_in o)
unfolding lines_of_module module_in body_of
module-fine o b t =
    let es = o.body in
    let m = module-stmt o.name in
    let r = reverse_aux (settings o.attributes) t.past in
    let l : List Statement = flat_map lines_of es ++ end-stmt ∷ [] in
    let whole : Through admits (reverse_aux l (m ∷ r)) = rw reverse_aux-append at t.admits in
    let ended : Through admits (end-stmt ∷ reverse_aux (flat_map lines_of es) (m ∷ r)) = rw reverse_aux-append at whole in
    let body : Through admits (reverse_aux (flat_map lines_of es) (m ∷ r)) = ended.1 in
    let fine = entries-fine es (each-apart _ processes_of es b) (all_placed lines_of entry-clean es (m ∷ r) (clean-module o.name r) body) in
    record {
      attributes = settings-differ o.attributes _ t;
      names = module-once objects o.name es r (includes _ (λ q s a. a.object-names) (reverse_aux l (m ∷ r)) whole);
      parameters = module-once parameters o.name es r (includes _ (λ q s a. a.parameter-names) (reverse_aux l (m ∷ r)) whole);
      port-numbers = module-once port-numbers o.name es r (includes _ (λ q s a. a.ports) (reverse_aux l (m ∷ r)) whole);
      wires = each-together _ wires_of es (each_map FineEntry _ (λ e d. d.wires) es fine);
      memories = each-together _ memories_of es (each_map FineEntry _ (λ e d. d.memories) es fine);
      cells = each-together _ cells_of es (each_map FineEntry _ (λ e d. d.cells) es fine);
      processes = each-together _ processes_of es (each_map FineEntry _ (λ e d. d.processes) es fine);
      connections = each-together _ connections_of es (each_map FineEntry _ (λ e d. d.connections) es fine);
      signals =
          body-sound (wires_in (body_of es)) es
          (seen-sound (wires_in (body_of es)) (flat_map lines_of es) (m ∷ r) (sym (body-wires o.name es r)) (all-flat_map no_module lines_of entry-inside es)
          (includes sees (λ q s a. a.signals) (reverse_aux (flat_map lines_of es) (m ∷ r)) body));
    }

modules-fine : (os : List (Object (List Entry))) → Each (λ o. Balanced (body_of o.body).processes) os → Each (λ o. Placed (lines_of_module o)) os → Each FineModule (map module_in os)
modules-fine [] b t = tt
modules-fine (o ∷ os) b t = (module-fine o b.0 t.0, modules-fine os b.1 t.1)

-- THE FILE
map-names : (os : List (Object (List Entry))) → map (λ o. o.name) (map module_in os) ≡ map (λ o. o.name) os
unfolding module_in
map-names os = map-map (λ o. o.name) module_in os

never_ends : (l : List Statement) → all (λ s. not (module_names.ends s)) l ≡ true
unfolding name_tally
never_ends l = all-each _ (λ s. refl) l

file-through :
    (x : File) → admitted (reverse (lines_of_file x)) ≡ true →
    Through admits (reverse_aux (flat_map lines_of_module x.modules) (reverse_aux (map autoidx-stmt (Option-to_list x.autoidx)) []))
unfolding lines_of_file
file-through x e = rw (← reverse_aux-append (map autoidx-stmt (Option-to_list x.autoidx))) (through-admits (reverse (lines_of_file x)) e)

pub lines-fine : (x : File) → BalancedFile x → admitted (reverse (lines_of_file x)) ≡ true → FineDesign (design_of x)
unfolding design_of
lines-fine x b e =
    let a = admitted-apart (reverse (lines_of_file x)) e in
    let t : Through admits (reverse_aux (flat_map lines_of_module x.modules) (reverse_aux (map autoidx-stmt (Option-to_list x.autoidx)) [])) = file-through x e in
    record {
      modules = modules-fine x.modules b (all_placed lines_of_module module-clean x.modules _ (opening-clean x.autoidx) t);
      names =
          rw (map-names x.modules)
          (λ n.
          omega (
            arith,
            held-once module_names module-names-lawful (reverse (lines_of_file x)) a.module-names n,
            held-behind module_names module-names-lawful (lines_of_file x) [] (never_ends (lines_of_file x)) n,
            module-names-lawful.none n,
            file-names-sum n x,
          ));
      statements = all-fewer (flatten (design_of x)) (reverse (lines_of_file x)) (λ f. omega (arith, canonical-sum f x, sum-reverse f (lines_of_file x))) fine_alone a.alone;
      sizes = sizes-fewer (flatten (design_of x)) (reverse (lines_of_file x)) (λ f. omega (arith, canonical-sum f x, sum-reverse f (lines_of_file x))) a.room;
    }

-- admitted statements are the lines of a file, whose processes close their switches
pub file-of : (ss : List Statement) → admitted (reverse ss) ≡ true → closes (reverse ss) ≡ true → Parsed ss
file-of ss e c =
    let y = parsed (reverse ss) (admitted-apart (reverse ss) e).standing c in
    record { file = y.file; lines = sym (reverse-reverse ss) ∙ y.lines; balanced = y.balanced }

pub admitted-fine : (ss : List Statement) → admitted (reverse ss) ≡ true → closes (reverse ss) ≡ true → FineDesign (design ss)
admitted-fine ss e c =
    let y = file-of ss e c in
    let h : admitted (reverse (lines_of_file y.file)) ≡ true = rw y.lines at e in
    rw (y.lines, design-lines y.file y.balanced) (lines-fine y.file y.balanced h)

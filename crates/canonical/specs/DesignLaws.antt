-- The design of a file is found kind by kind; so a design is that of its own statements in canonical order, if its processes close their
-- switches.
-- Assumes nothing.
use Rattle.std.specs.Prelude.{ℕ, zero, suc, ◌+◌, ◌≡◌, Bool, true, false, not, cond, ℤ}
use Rattle.std.proofs.Math.Path.{refl}
use Rattle.std.proofs.Common.{sym, ap, ap₂, ◌∙◌, arith, eqb-true}
use mathlib.Core.List.{List, [], ◌∷◌, ◌++◌, map, flat_map, zip, zip_with, head?, Option-to_list, append_assoc, append-nil, map-append, map-map}
use Rattle.std.proofs.Math.Option.{Option, none, some}
use Rattle.std.proofs.lemmas.Bool.{false≢true, not-true}
use Rattle.rules.specs.Tokens.{Name}
use Rattle.rules.specs.Statements.{Sort, Constant, Signal, Wire, Memory, Statement, autoidx-stmt, attr-stmt, module-stmt, param-stmt, wire-stmt, memory-stmt, cell-stmt, cell-param-stmt, cell-conn-stmt, conn-stmt, proc-stmt, step-stmt, end-stmt, Step, an_attribute, a_module, a_cell, a_process, is, contents, statements_open}
use Rattle.rules.specs.Bytes.{any, all}
use Rattle.rules.specs.Judgement.{until, steps}
use Rattle.rules.specs.Design.{Setting, Object, object, Cell, Line, step_line, end_line, Module, Design, Item, setting_in, items, blocks, objects_in, parameter_in, port_in, pair, connection_in, cell_parameter_in, each, cell_of, step_in, shut, lines_in, process_of, module_of, design, flatten, objects, cell_lines, line_statements, process_lines, module_lines, design_open}
use Rattle.lists.specs.Tests.{and-true-left, and-true-right}
use Rattle.lists.specs.Lists.{flat_map-append, flat_map-same, flat_map-map, flat_map-flat_map, flat_map-none, flat_map-one, flat_map-self}
use Rattle.lists.specs.Elements.{Each, until_none, all_append, all_one, all_map, all-each, map_back, each_all, each-through, all-flat_map}
use Rattle.canonical.specs.Nesting.{CellEntry, parameter-entry, port-entry, Entry, param-entry, wire-entry, memory-entry, cell-entry, process-entry, connection-entry, File, settings, line_in, lines_of, lines_of_module, lines_of_file, parameter_of, port_of, parameters_of, wires_of, memories_of, cell_body, cells_of, processes_of, connections_of, body_of, module_in, design_of, cell_entries, entries, as_file, file_of, is_switch, balanced_to, Balanced, BalancedFile, BalancedDesign, nesting_open}

none_of : {A B : Type 0} (xs : List A) → flat_map {B = B} (λ (x : A). []) xs ≡ []
none_of xs = flat_map-none (λ x. []) (λ x. refl) xs

-- ATTRIBUTES AND THE LINES OF A CELL: tests that they pass, and what none of them has
pub settings-pass : (f : Statement → Bool) → ((n : Name) (c : Constant) → f (attr-stmt n c) ≡ true) → (at : List Setting) → all f (settings at) ≡ true
settings-pass f h at = all_map f _ at ∙ all-each _ (λ a. h a.0 a.1) at

module _ {A : Type 0} (g : Statement → A) where
  abbrev in_cell : List CellEntry → List A
  in_cell es = map (λ e. g (line_in e)) es ++ g end-stmt ∷ []

  pub cell-pass :
      (f : A → Bool) → ((o : Sort) (n : Name) (c : Constant) → f (g (cell-param-stmt o n c)) ≡ true) → ((n : Name) (x : Signal) → f (g (cell-conn-stmt n x)) ≡ true) →
      f (g end-stmt) ≡ true → (es : List CellEntry) → all f (in_cell es) ≡ true
  unfolding all line_in
  cell-pass f p k e [] = rw e
  cell-pass f p k e (parameter-entry o a ∷ es) = rw (p o a.0 a.1) (cell-pass f p k e es)
  cell-pass f p k e (port-entry n x ∷ es) = rw (k n x) (cell-pass f p k e es)

  -- each line by itself
  cell-each :
      {B : Type 0} (f : A → List B) (h : CellEntry → List B) → ((e : CellEntry) → f (g (line_in e)) ≡ h e) → f (g end-stmt) ≡ [] → (es : List CellEntry) →
      flat_map f (in_cell es) ≡ flat_map h es
  unfolding flat_map
  cell-each f h p e es =
      flat_map-append f (map (λ e. g (line_in e)) es) (g end-stmt ∷ [])
      ∙ rw (e, append-nil) (flat_map-map f (λ e. g (line_in e)) es ∙ flat_map-same (λ e. f (g (line_in e))) h p es)

  cell-none :
      {B : Type 0} (f : A → List B) → ((o : Sort) (n : Name) (c : Constant) → f (g (cell-param-stmt o n c)) ≡ []) → ((n : Name) (x : Signal) → f (g (cell-conn-stmt n x)) ≡ []) →
      f (g end-stmt) ≡ [] → (es : List CellEntry) → flat_map f (in_cell es) ≡ []
  unfolding line_in
  cell-none f p k e es = cell-each f (λ x. []) (elim [ parameter-entry o a ↦ p o a.0 a.1 | port-entry n x ↦ k n x ]) e es ∙ none_of es

-- THE LINES OF A PROCESS
pub lines-pass :
    (f : Statement → Bool) → ((n : Name) (c : Constant) → f (attr-stmt n c) ≡ true) → ((p : Step) (xs : List Signal) → f (step-stmt p xs) ≡ true) → f end-stmt ≡ true →
    (ls : List Line) → all f (flat_map line_statements ls ++ end-stmt ∷ []) ≡ true
unfolding all line_statements
lines-pass f a p e ls =
    let line : (l : Line) → all f (line_statements l) ≡ true =
    elim [ step_line at q xs ↦ all_append f (settings at) (step-stmt q xs ∷ []) (settings-pass f a at) (all_one f (step-stmt q xs) (p q xs)) | end_line ↦ all_one f end-stmt e ] in
    all_append f (flat_map line_statements ls) (end-stmt ∷ []) (all-flat_map f line_statements line ls) (all_one f end-stmt e)

-- THE ITEMS OF A FILE
abbrev plain : Statement → Item
plain s = record { attributes = []; statement = s }

abbrev with-settings : List Setting → Statement → Item
with-settings at s = record { attributes = at; statement = s }

items-settings : (at bt : List Setting) (ss : List Statement) → items at (settings bt ++ ss) ≡ items (at ++ bt) ss
unfolding design_open statements_open
items-settings at [] ss = rw append-nil
items-settings at (a ∷ bt) ss = items-settings (at ++ a ∷ []) bt ss ∙ ap (λ (l : List Setting). items l ss) (append_assoc at (a ∷ []) bt)

items-next : (at : List Setting) (s : Statement) (ss : List Statement) → is an_attribute s ≡ false → items at (s ∷ ss) ≡ with-settings at s ∷ items [] ss
unfolding items
items-next at s ss e = rw e

items-object :
    (at : List Setting) (s : Statement) (ss : List Statement) → is an_attribute s ≡ false → items [] (settings at ++ s ∷ ss) ≡ with-settings at s ∷ items [] ss
items-object at s ss e = items-settings [] at (s ∷ ss) ∙ items-next at s ss e

-- a line with its attributes, lines whose items are known, and an end
items-block :
    (at : List Setting) (s : Statement) (ls : List Statement) (js : List Item) → is an_attribute s ≡ false → ((ss : List Statement) → items [] (ls ++ ss) ≡ js ++ items [] ss) →
    (ss : List Statement) → items [] ((settings at ++ (s ∷ ls ++ end-stmt ∷ [])) ++ ss) ≡ with-settings at s ∷ (js ++ plain end-stmt ∷ []) ++ items [] ss
unfolding statements_open
items-block at s ls js e h ss =
    rw (append_assoc (settings at))
    (items-object at s ((ls ++ end-stmt ∷ []) ++ ss) e
    ∙ ap (λ (l : List Item). with-settings at s ∷ l)
    (ap (items []) (append_assoc ls (end-stmt ∷ []) ss)
    ∙ h (end-stmt ∷ ss)
    ∙ ap (λ (l : List Item). js ++ l) (items-next [] end-stmt ss refl)
    ∙ sym (append_assoc js (plain end-stmt ∷ []) (items [] ss))))

-- of a process
unfoldable line_item : Line → Item
line_item (step_line at p xs) = with-settings at (step-stmt p xs)
line_item end_line = plain end-stmt

abbrev in_process : List Line → List Item
in_process ls = map line_item ls ++ plain end-stmt ∷ []

line-pass : (f : Item → Bool) → ((at : List Setting) (p : Step) (xs : List Signal) → f (with-settings at (step-stmt p xs)) ≡ true) → f (plain end-stmt) ≡ true → (ls : List Line) → all f (in_process ls) ≡ true
unfolding all line_item
line-pass f p e [] = rw e
line-pass f p e (step_line at q xs ∷ ls) = rw (p at q xs) (line-pass f p e ls)
line-pass f p e (end_line ∷ ls) = rw e (line-pass f p e ls)

line-none :
    {B : Type 0} (f : Item → List B) → ((at : List Setting) (p : Step) (xs : List Signal) → f (with-settings at (step-stmt p xs)) ≡ []) → f (plain end-stmt) ≡ [] → (ls : List Line) →
    flat_map f (in_process ls) ≡ []
unfolding flat_map line_item
line-none f p e [] = rw e
line-none f p e (step_line at q xs ∷ ls) = rw (p at q xs) (line-none f p e ls)
line-none f p e (end_line ∷ ls) = rw e (line-none f p e ls)

unfoldable items_of : Entry → List Item
items_of (param-entry n c) = plain (param-stmt n c) ∷ []
items_of (wire-entry o) = with-settings o.attributes (wire-stmt o.body o.name) ∷ []
items_of (memory-entry o) = with-settings o.attributes (memory-stmt o.body o.name) ∷ []
items_of (cell-entry at t n es) = with-settings at (cell-stmt t n) ∷ in_cell plain es
items_of (process-entry o) = with-settings o.attributes (proc-stmt o.name) ∷ in_process o.body
items_of (connection-entry x y) = plain (conn-stmt x y) ∷ []

items-cell : (es : List CellEntry) (ss : List Statement) → items [] (map line_in es ++ ss) ≡ map (λ e. plain (line_in e)) es ++ items [] ss
unfolding nesting_open design_open statements_open
items-cell [] ss = refl
items-cell (parameter-entry o a ∷ es) ss = ap (λ (l : List Item). plain (cell-param-stmt o a.0 a.1) ∷ l) (items-cell es ss)
items-cell (port-entry n x ∷ es) ss = ap (λ (l : List Item). plain (cell-conn-stmt n x) ∷ l) (items-cell es ss)

items-lines : (ls : List Line) (ss : List Statement) → items [] (flat_map line_statements ls ++ ss) ≡ map line_item ls ++ items [] ss
unfolding flat_map line_statements line_item statements_open
items-lines [] ss = refl
items-lines (step_line at p xs ∷ ls) ss =
    ap (items []) (append_assoc (settings at ++ step-stmt p xs ∷ []) (flat_map line_statements ls) ss ∙ append_assoc (settings at) (step-stmt p xs ∷ []) (flat_map line_statements ls ++ ss))
    ∙ items-object at (step-stmt p xs) (flat_map line_statements ls ++ ss) refl
    ∙ ap (λ (l : List Item). with-settings at (step-stmt p xs) ∷ l) (items-lines ls ss)
items-lines (end_line ∷ ls) ss = items-next [] end-stmt (flat_map line_statements ls ++ ss) refl ∙ ap (λ (l : List Item). plain end-stmt ∷ l) (items-lines ls ss)

items-entry : (e : Entry) (ss : List Statement) → items [] (lines_of e ++ ss) ≡ items_of e ++ items [] ss
unfolding nesting_open items_of statements_open
items-entry (param-entry n c) ss = items-next [] (param-stmt n c) ss refl
items-entry (wire-entry o) ss = rw append_assoc (items-object o.attributes (wire-stmt o.body o.name) ss refl)
items-entry (memory-entry o) ss = rw append_assoc (items-object o.attributes (memory-stmt o.body o.name) ss refl)
items-entry (cell-entry at t n es) ss = items-block at (cell-stmt t n) (map line_in es) (map (λ e. plain (line_in e)) es) refl (items-cell es) ss
items-entry (process-entry o) ss = items-block o.attributes (proc-stmt o.name) (flat_map line_statements o.body) (map line_item o.body) refl (items-lines o.body) ss
items-entry (connection-entry x y) ss = items-next [] (conn-stmt x y) ss refl

items-entries : (es : List Entry) (ss : List Statement) → items [] (flat_map lines_of es ++ ss) ≡ flat_map items_of es ++ items [] ss
unfolding flat_map
items-entries [] ss = refl
items-entries (e ∷ es) ss =
    ap (items []) (append_assoc (lines_of e) (flat_map lines_of es) ss)
    ∙ items-entry e (flat_map lines_of es ++ ss)
    ∙ ap (λ (l : List Item). items_of e ++ l) (items-entries es ss)
    ∙ sym (append_assoc (items_of e) (flat_map items_of es) (items [] ss))

-- of a module: its line, its entries, its end
unfoldable in_module : List Entry → List Item
in_module es = flat_map items_of es ++ plain end-stmt ∷ []

unfoldable module_items : Object (List Entry) → List Item
module_items o = with-settings o.attributes (module-stmt o.name) ∷ in_module o.body

items-module : (o : Object (List Entry)) (ss : List Statement) → items [] (lines_of_module o ++ ss) ≡ module_items o ++ items [] ss
unfolding lines_of_module in_module module_items statements_open
items-module o ss = items-block o.attributes (module-stmt o.name) (flat_map lines_of o.body) (flat_map items_of o.body) refl (items-entries o.body) ss

items-modules : (os : List (Object (List Entry))) → items [] (flat_map lines_of_module os) ≡ flat_map module_items os
unfolding flat_map items
items-modules [] = refl
items-modules (o ∷ os) = items-module o (flat_map lines_of_module os) ∙ ap (λ (l : List Item). module_items o ++ l) (items-modules os)

-- BLOCKS
module _ (opens : Statement → Bool) where
  abbrev closed : Item → Bool
  closed i = not (opens i.statement)

  blocks-none : (is' js : List Item) → all closed is' ≡ true → blocks opens (is' ++ js) ≡ blocks opens js
  unfolding blocks all
  blocks-none [] js e = refl
  blocks-none (i ∷ is') js e =
      rw (not-true (opens i.statement) (and-true-left _ _ e)) (blocks-none is' js (and-true-right (closed i) _ e))

-- no entry opens a module
entry-in-module : (e : Entry) → all (closed (is a_module)) (items_of e) ≡ true
unfolding all items_of statements_open
entry-in-module (param-entry n c) = refl
entry-in-module (wire-entry o) = refl
entry-in-module (memory-entry o) = refl
entry-in-module (cell-entry at t n es) = cell-pass plain (closed (is a_module)) (λ o m c. refl) (λ m x. refl) refl es
entry-in-module (process-entry o) = line-pass (closed (is a_module)) (λ at p xs. refl) refl o.body
entry-in-module (connection-entry x y) = refl

all-in-module : (es : List Entry) → all (closed (is a_module)) (in_module es) ≡ true
unfolding all in_module statements_open
all-in-module es = all_append _ (flat_map items_of es) _ (all-flat_map _ items_of entry-in-module es) refl

until-modules : (os : List (Object (List Entry))) → until (λ j. is a_module j.statement) (flat_map module_items os) ≡ []
unfolding until flat_map module_items statements_open
until-modules [] = refl
until-modules (o ∷ os) = refl

abbrev block_of : Object (List Entry) → Item × List Item
block_of o = (with-settings o.attributes (module-stmt o.name), in_module o.body)

blocks-modules : (os : List (Object (List Entry))) → blocks (is a_module) (flat_map module_items os) ≡ map block_of os
unfolding blocks flat_map module_items statements_open
blocks-modules [] = refl
blocks-modules (o ∷ os) =
    let h = all-in-module o.body in
    let u = until_none (λ j. is a_module j.statement) (in_module o.body) (flat_map module_items os) h in
    let b = blocks-none (is a_module) (in_module o.body) (flat_map module_items os) h in
    rw (u, until-modules os, append-nil, b) (ap (λ (l : List (Item × List Item)). block_of o ∷ l) (blocks-modules os))

-- EACH KIND
module _ {A : Type 0} (f : Item → List A) (g : Entry → List A) where
  -- by what each form of entry has, and that a cell's lines and ends have none
  in-module :
      ((n : Name) (c : Option Constant) → f (plain (param-stmt n c)) ≡ g (param-entry n c)) →
      ((o : Object Wire) → f (with-settings o.attributes (wire-stmt o.body o.name)) ≡ g (wire-entry o)) →
      ((o : Object Memory) → f (with-settings o.attributes (memory-stmt o.body o.name)) ≡ g (memory-entry o)) →
      ((at : List Setting) (t n : Name) (es : List CellEntry) → f (with-settings at (cell-stmt t n)) ≡ g (cell-entry at t n es)) →
      ((o : Object (List Line)) → f (with-settings o.attributes (proc-stmt o.name)) ≡ g (process-entry o)) →
      ((x y : Signal) → f (plain (conn-stmt x y)) ≡ g (connection-entry x y)) →
      ((o : Sort) (n : Name) (c : Constant) → f (plain (cell-param-stmt o n c)) ≡ []) →
      ((n : Name) (x : Signal) → f (plain (cell-conn-stmt n x)) ≡ []) →
      ((at : List Setting) (q : Step) (xs : List Signal) → f (with-settings at (step-stmt q xs)) ≡ []) →
      f (plain end-stmt) ≡ [] → (es : List Entry) →
      flat_map f (in_module es) ≡ flat_map g es
  unfolding in_module items_of flat_map
  in-module p w m c r k cp ck st e es =
      let h : (e : Entry) → flat_map f (items_of e) ≡ g e =
      elim [
        | param-entry n v ↦ append-nil _ ∙ p n v
        | wire-entry o ↦ append-nil _ ∙ w o
        | memory-entry o ↦ append-nil _ ∙ m o
        | cell-entry at t n cs ↦ rw (cell-none plain f cp ck e cs) (append-nil _ ∙ c at t n cs)
        | process-entry o ↦ rw (line-none f st e o.body) (append-nil _ ∙ r o)
        | connection-entry x y ↦ append-nil _ ∙ k x y
      ] in
      flat_map-append f (flat_map items_of es) (plain end-stmt ∷ [])
      ∙ rw (e, append-nil) (flat_map-flat_map f items_of es ∙ flat_map-same (λ x. flat_map f (items_of x)) g h es)

parameters-in : (es : List Entry) → flat_map (λ i. parameter_in i.statement) (in_module es) ≡ flat_map parameters_of es
unfolding nesting_open design_open statements_open
parameters-in = in-module (λ i. parameter_in i.statement) parameters_of (λ n. elim [ none ↦ refl | some c ↦ refl ]) (λ o. refl) (λ o. refl) (λ at t n es. refl) (λ o. refl) (λ x y. refl) (λ o n c. refl) (λ n x. refl) (λ at p xs. refl) refl

wires-in : (es : List Entry) → flat_map (objects_in (λ c. c.wires)) (in_module es) ≡ flat_map wires_of es
unfolding nesting_open design_open statements_open
wires-in = in-module (objects_in (λ c. c.wires)) wires_of (λ n c. refl) (λ o. refl) (λ o. refl) (λ at t n es. refl) (λ o. refl) (λ x y. refl) (λ o n c. refl) (λ n x. refl) (λ at p xs. refl) refl

memories-in : (es : List Entry) → flat_map (objects_in (λ c. c.memories)) (in_module es) ≡ flat_map memories_of es
unfolding nesting_open design_open statements_open
memories-in = in-module (objects_in (λ c. c.memories)) memories_of (λ n c. refl) (λ o. refl) (λ o. refl) (λ at t n es. refl) (λ o. refl) (λ x y. refl) (λ o n c. refl) (λ n x. refl) (λ at p xs. refl) refl

connections-in : (es : List Entry) → flat_map (λ i. connection_in i.statement) (in_module es) ≡ flat_map connections_of es
unfolding nesting_open design_open statements_open
connections-in = in-module (λ i. connection_in i.statement) connections_of (λ n c. refl) (λ o. refl) (λ o. refl) (λ at t n es. refl) (λ o. refl) (λ x y. refl) (λ o n c. refl) (λ n x. refl) (λ at p xs. refl) refl

-- CELLS: behind a cell's end, up to the next cell, nothing is a cell's
unfoldable outside : {A : Type 0} → (Statement → List A) → Entry → Type 0
outside f (param-entry n c) = f (param-stmt n c) ≡ []
outside f (wire-entry o) = f (wire-stmt o.body o.name) ≡ []
outside f (memory-entry o) = f (memory-stmt o.body o.name) ≡ []
outside f (cell-entry at t n es) = Unit {0}
outside f (process-entry o) = (f (proc-stmt o.name) ≡ []) × ((p : Step) (xs : List Signal) → f (step-stmt p xs) ≡ [])
outside f (connection-entry x y) = f (conn-stmt x y) ≡ []

module _ {A : Type 0} (f : Statement → List A) (out : (e : Entry) → outside f e) (ends : f end-stmt ≡ []) where
  lines-outside : (ls : List Line) (js : List Item) → ((p : Step) (xs : List Signal) → f (step-stmt p xs) ≡ []) → each f (until (λ j. is a_cell j.statement) (in_process ls ++ js)) ≡ each f (until (λ j. is a_cell j.statement) js)
  unfolding each line_item until flat_map statements_open
  lines-outside [] js h = rw ends
  lines-outside (step_line at p xs ∷ ls) js h = rw (h p xs) (lines-outside ls js h)
  lines-outside (end_line ∷ ls) js h = rw ends (lines-outside ls js h)

  none-outside : (es : List Entry) → each f (until (λ j. is a_cell j.statement) (in_module es)) ≡ []
  unfolding outside each in_module items_of until flat_map statements_open
  none-outside [] = rw ends
  none-outside (param-entry n c ∷ es) = rw (out (param-entry n c)) (none-outside es)
  none-outside (wire-entry o ∷ es) = rw (out (wire-entry o)) (none-outside es)
  none-outside (memory-entry o ∷ es) = rw (out (memory-entry o)) (none-outside es)
  none-outside (cell-entry at t n cs ∷ es) = refl
  none-outside (process-entry o ∷ es) =
      let h = out (process-entry o) in
      let a = append_assoc (in_process o.body) (flat_map items_of es) (plain end-stmt ∷ []) in
      rw (h.0, a) (lines-outside o.body (flat_map items_of es ++ plain end-stmt ∷ []) h.1 ∙ none-outside es)
  none-outside (connection-entry x y ∷ es) = rw (out (connection-entry x y)) (none-outside es)

outside-parameter : (e : Entry) → outside cell_parameter_in e
unfolding outside design_open statements_open
outside-parameter = elim [ param-entry n c ↦ refl | wire-entry o ↦ refl | memory-entry o ↦ refl | cell-entry at t n es ↦ tt | process-entry o ↦ (refl, λ p xs. refl) | connection-entry x y ↦ refl ]

outside-port : (e : Entry) → outside port_in e
unfolding outside design_open statements_open
outside-port = elim [ param-entry n c ↦ refl | wire-entry o ↦ refl | memory-entry o ↦ refl | cell-entry at t n es ↦ tt | process-entry o ↦ (refl, λ p xs. refl) | connection-entry x y ↦ refl ]

cell-in-cell : (es : List CellEntry) → all (closed (is a_cell)) (in_cell plain es) ≡ true
unfolding statements_open
cell-in-cell es = cell-pass plain (closed (is a_cell)) (λ o n c. refl) (λ n x. refl) refl es

abbrev cell_at : List Setting → Name → Name → List CellEntry → Object Cell
cell_at at t n cs = object at n (cell_body t cs)

-- what a cell's block has of a kind
block-has :
    {A : Type 0} (f : Statement → List A) (g : CellEntry → List A) → ((e : CellEntry) → f (line_in e) ≡ g e) → f end-stmt ≡ [] → ((e : Entry) → outside f e) →
    (cs : List CellEntry) (es : List Entry) →
    each f (in_cell plain cs ++ until (λ j. is a_cell j.statement) (in_module es)) ≡ flat_map g cs
unfolding each
block-has f g h e out cs es =
    flat_map-append (λ i. f i.statement) (in_cell plain cs) (until (λ j. is a_cell j.statement) (in_module es))
    ∙ rw (none-outside f out e es, append-nil) (cell-each plain (λ i. f i.statement) g h e cs)

cell-block :
    (at : List Setting) (t n : Name) (cs : List CellEntry) (es : List Entry) →
    cell_of (with-settings at (cell-stmt t n), in_cell plain cs ++ until (λ j. is a_cell j.statement) (in_module es)) ≡ cell_at at t n cs ∷ []
unfolding line_in parameter_of port_of cell_parameter_in setting_in port_in cell_of pair zip zip_with statements_open
cell-block at t n cs es =
    rw (
      block-has cell_parameter_in parameter_of (elim [ parameter-entry o a ↦ refl | port-entry m x ↦ refl ]) refl outside-parameter cs es,
      block-has port_in port_of (elim [ parameter-entry o a ↦ refl | port-entry m x ↦ refl ]) refl outside-port cs es,
    )

cells_in : (es : List Entry) → flat_map cell_of (blocks (is a_cell) (in_module es)) ≡ flat_map cells_of es
unfolding in_module items_of blocks flat_map cells_of statements_open
cells_in [] = refl
cells_in (param-entry n c ∷ es) = cells_in es
cells_in (wire-entry o ∷ es) = cells_in es
cells_in (memory-entry o ∷ es) = cells_in es
cells_in (cell-entry at t n cs ∷ es) =
    let inside : List Item = in_cell plain cs in
    let h = cell-in-cell cs in
    let a = append_assoc inside (flat_map items_of es) (plain end-stmt ∷ []) in
    let u = until_none (λ j. is a_cell j.statement) inside (flat_map items_of es ++ plain end-stmt ∷ []) h in
    let b = blocks-none (is a_cell) inside (flat_map items_of es ++ plain end-stmt ∷ []) h in
    rw (a, u, b, cell-block at t n cs es) (ap (λ (l : List (Object Cell)). cell_at at t n cs ∷ l) (cells_in es))
cells_in (process-entry o ∷ es) =
    let a = append_assoc (in_process o.body) (flat_map items_of es) (plain end-stmt ∷ []) in
    let b = blocks-none (is a_cell) (in_process o.body) (flat_map items_of es ++ plain end-stmt ∷ []) (line-pass (closed (is a_cell)) (λ at p xs. refl) refl o.body) in
    rw (a, b) (cells_in es)
cells_in (connection-entry x y ∷ es) = cells_in es

-- PROCESSES: the lines of one come back, if its switches are closed
lines-back : (k : ℕ) (ls : List Line) (js : List Item) → balanced_to 0 k ls ≡ true → lines_in k (in_process ls ++ js) ≡ ls
unfolding balanced_to is_switch lines_in shut step_in line_item steps any statements_open
lines-back zero [] js e = refl
lines-back (suc k) [] js e = let z = eqb-true (suc k) 0 e in absurd (omega arith)
lines-back k (step_line at p xs ∷ ls) js e = ap (λ (l : List Line). step_line at p xs ∷ l) (lines-back (cond (is_switch p) (k + 1) k) ls js e)
lines-back zero (end_line ∷ ls) js e = absurd (false≢true e)
lines-back (suc k) (end_line ∷ ls) js e = ap (λ (l : List Line). end_line ∷ l) (lines-back k ls js e)

processes-in : (es : List Entry) → Balanced (flat_map processes_of es) → map process_of (blocks (is a_process) (in_module es)) ≡ flat_map processes_of es
unfolding in_module items_of blocks flat_map processes_of process_of statements_open
processes-in [] b = refl
processes-in (param-entry n c ∷ es) b = processes-in es b
processes-in (wire-entry o ∷ es) b = processes-in es b
processes-in (memory-entry o ∷ es) b = processes-in es b
processes-in (cell-entry at t n cs ∷ es) b =
    let a = append_assoc (in_cell plain cs) (flat_map items_of es) (plain end-stmt ∷ []) in
    let k = blocks-none (is a_process) (in_cell plain cs) (flat_map items_of es ++ plain end-stmt ∷ []) (cell-pass plain (closed (is a_process)) (λ o m c. refl) (λ m x. refl) refl cs) in
    rw (a, k) (processes-in es b)
processes-in (process-entry o ∷ es) b =
    let inside : List Item = in_process o.body in
    let h = line-pass (closed (is a_process)) (λ at p xs. refl) refl o.body in
    let a = append_assoc inside (flat_map items_of es) (plain end-stmt ∷ []) in
    let u = until_none (λ j. is a_process j.statement) inside (flat_map items_of es ++ plain end-stmt ∷ []) h in
    let k = blocks-none (is a_process) inside (flat_map items_of es ++ plain end-stmt ∷ []) h in
    rw (a, u, k, lines-back 0 o.body (until (λ j. is a_process j.statement) (flat_map items_of es ++ plain end-stmt ∷ [])) b.0) (ap (λ (l : List (Object (List Line))). o ∷ l) (processes-in es b.1))
processes-in (connection-entry x y ∷ es) b = processes-in es b

-- A MODULE, A FILE
abbrev BalancedIn : Object (List Entry) → Type 0
BalancedIn o = Balanced (body_of o.body).processes

module-block : (o : Object (List Entry)) → BalancedIn o → module_of (block_of o) ≡ module_in o
unfolding module_of each module_in body_of statements_open
module-block o b =
    let es = o.body in
    rw (
      parameters-in es,
      wires-in es,
      memories-in es,
      cells_in es,
      processes-in es b,
      connections-in es,
    )

module-blocks : (os : List (Object (List Entry))) → Each BalancedIn os → map module_of (map block_of os) ≡ map module_in os
module-blocks [] b = refl
module-blocks (o ∷ os) b = ap₂ (λ (m : Object Module) (ms : List (Object Module)). m ∷ ms) (module-block o b.0) (module-blocks os b.1)

-- no module has an `autoidx` line
abbrev integers_in : List Statement → List ℤ
integers_in ss = flat_map (λ s. (contents s).integers) ss

settings-integers : (at : List Setting) → integers_in (settings at) ≡ []
unfolding statements_open
settings-integers at = flat_map-map (λ s. (contents s).integers) _ at ∙ flat_map-none _ (λ a. refl) at

after-settings : (at : List Setting) (ss : List Statement) → integers_in (settings at ++ ss) ≡ integers_in ss
after-settings at ss = flat_map-append (λ s. (contents s).integers) (settings at) ss ∙ rw (settings-integers at)

lines-integers : (ls : List Line) → integers_in (flat_map line_statements ls ++ end-stmt ∷ []) ≡ []
unfolding flat_map line_statements statements_open
lines-integers [] = refl
lines-integers (step_line at p xs ∷ ls) =
    ap integers_in (append_assoc (settings at ++ step-stmt p xs ∷ []) (flat_map line_statements ls) (end-stmt ∷ []) ∙ append_assoc (settings at) (step-stmt p xs ∷ []) _)
    ∙ after-settings at _
    ∙ lines-integers ls
lines-integers (end_line ∷ ls) = lines-integers ls

entry-integers : (e : Entry) → integers_in (lines_of e) ≡ []
unfolding flat_map lines_of process_lines statements_open
entry-integers (param-entry n c) = refl
entry-integers (wire-entry o) = after-settings o.attributes _
entry-integers (memory-entry o) = after-settings o.attributes _
entry-integers (cell-entry at t n es) = after-settings at _ ∙ cell-none (λ s. s) (λ s. (contents s).integers) (λ o m c. refl) (λ m x. refl) refl es
entry-integers (process-entry o) = after-settings o.attributes _ ∙ lines-integers o.body
entry-integers (connection-entry x y) = refl

module-integers : (o : Object (List Entry)) → integers_in (lines_of_module o) ≡ []
unfolding flat_map lines_of_module statements_open
module-integers o =
    after-settings o.attributes _
    ∙ flat_map-append (λ s. (contents s).integers) (flat_map lines_of o.body) (end-stmt ∷ [])
    ∙ rw (flat_map-flat_map (λ s. (contents s).integers) lines_of o.body, flat_map-none (λ e. integers_in (lines_of e)) entry-integers o.body)

file-integers : (os : List (Object (List Entry))) → integers_in (flat_map lines_of_module os) ≡ []
file-integers os = flat_map-flat_map (λ s. (contents s).integers) lines_of_module os ∙ flat_map-none (λ o. integers_in (lines_of_module o)) module-integers os

modules-lines : (os : List (Object (List Entry))) → Each BalancedIn os → map module_of (blocks (is a_module) (items [] (flat_map lines_of_module os))) ≡ map module_in os
modules-lines os b = ap (map module_of) (ap (blocks (is a_module)) (items-modules os) ∙ blocks-modules os) ∙ module-blocks os b

abbrev design_by : Option ℤ → List (Object Module) → Design
design_by a os = record { autoidx = a; modules = os }

lines-by :
    (a : Option ℤ) (os : List (Object (List Entry))) → Each BalancedIn os →
    design (lines_of_file (record { autoidx = a; modules = os })) ≡ design_of (record { autoidx = a; modules = os })
unfolding design lines_of_file design_of flat_map items blocks Option-to_list statements_open
lines-by none os b = ap₂ design_by (ap head? (file-integers os)) (modules-lines os b)
lines-by (some i) os b = ap (design_by (some i)) (modules-lines os b)

pub design-lines : (f : File) → BalancedFile f → design (lines_of_file f) ≡ design_of f
design-lines f b = lines-by f.autoidx f.modules b

-- THE CANONICAL ORDER
alone : {A : Type 0} (xs : List A) → flat_map (λ x. x ∷ []) xs ≡ xs
alone xs = flat_map-self (λ x. x ∷ []) (λ x. refl) xs

abbrev pub cell_entry : Object Cell → Entry
cell_entry c = cell-entry c.attributes c.body.type c.name (cell_entries c.body)

module _ {A : Type 0} (f : Entry → List A) (m : Module) where
  kinds-apart :
      flat_map f (entries m)
      ≡ flat_map (λ p. f (param-entry p.0 p.1)) m.parameters
      ++ flat_map (λ w. f (wire-entry w)) m.wires
      ++ flat_map (λ y. f (memory-entry y)) m.memories
      ++ flat_map (λ c. f (cell_entry c)) m.cells
      ++ flat_map (λ o. f (process-entry o)) m.processes
      ++ flat_map (λ k. f (connection-entry k.0 k.1)) m.connections
  unfolding entries
  kinds-apart = simp (flat_map-append, flat_map-map)

parameters-apart : (m : Module) → flat_map parameters_of (entries m) ≡ m.parameters
unfolding parameters_of
parameters-apart m = kinds-apart parameters_of m ∙ simp (none_of, append-nil, alone m.parameters)

wires-apart : (m : Module) → flat_map wires_of (entries m) ≡ m.wires
unfolding wires_of
wires-apart m = kinds-apart wires_of m ∙ simp (none_of, append-nil, alone m.wires)

memories-apart : (m : Module) → flat_map memories_of (entries m) ≡ m.memories
unfolding memories_of
memories-apart m = kinds-apart memories_of m ∙ simp (none_of, append-nil, alone m.memories)

connections-apart : (m : Module) → flat_map connections_of (entries m) ≡ m.connections
unfolding connections_of
connections-apart m = kinds-apart connections_of m ∙ simp (none_of, alone m.connections)

cell_apart : (c : Object Cell) → cells_of (cell_entry c) ≡ c ∷ []
unfolding cells_of cell_entries parameter_of port_of
cell_apart c = simp (flat_map-append, flat_map-map, none_of, append-nil, alone c.body.parameters, alone c.body.connections)

cells-apart : (m : Module) → flat_map cells_of (entries m) ≡ m.cells
unfolding cells_of
cells-apart m = kinds-apart cells_of m ∙ simp (none_of, append-nil) (flat_map-self (λ c. cells_of (cell_entry c)) cell_apart m.cells)

processes-apart : (m : Module) → flat_map processes_of (entries m) ≡ m.processes
unfolding processes_of
processes-apart m = kinds-apart processes_of m ∙ simp (none_of, append-nil, alone m.processes)

pub body-entries : (m : Module) → body_of (entries m) ≡ m
unfolding body_of
body-entries m = rw (parameters-apart m, wires-apart m, memories-apart m, cells-apart m, processes-apart m, connections-apart m)

pub design-file : (d : Design) → design_of (file_of d) ≡ d
unfolding design_of file_of module_in
design-file d =
    ap (design_by d.autoidx) (map_back as_file module_in d.modules (each_all _ (λ o. ap (object o.attributes o.name) (body-entries o.body)) d.modules))

-- and its lines are those of the canonical order
cell-lines : (c : Cell) (n : Name) → cell_lines c n ≡ cell-stmt c.type n ∷ map line_in (cell_entries c) ++ end-stmt ∷ []
unfolding cell_lines cell_entries line_in
cell-lines c n = simp (map-append, map-map)

pub module-lines : (m : Module) (n : Name) → module_lines m n ≡ module-stmt n ∷ flat_map lines_of (entries m) ++ end-stmt ∷ []
unfolding module_lines objects lines_of
module-lines m n =
    let p = flat_map-one {B = Statement} (λ (p : Name × Option Constant). param-stmt p.0 p.1 ∷ []) (λ p. param-stmt p.0 p.1) (λ p. refl) m.parameters in
    let k = flat_map-one {B = Statement} (λ (k : Signal × Signal). conn-stmt k.0 k.1 ∷ []) (λ k. conn-stmt k.0 k.1) (λ k. refl) m.connections in
    let c =
    flat_map-same (λ (o : Object Cell). lines_of (cell_entry o)) (λ o. settings o.attributes ++ cell_lines o.body o.name)
    (λ o. ap (λ (l : List Statement). settings o.attributes ++ l) (sym (cell-lines o.body o.name))) m.cells in
    rw (kinds-apart lines_of m, p, k, c)

pub flatten-file : (d : Design) → flatten d ≡ lines_of_file (file_of d)
unfolding flatten objects lines_of_file file_of lines_of_module
flatten-file d =
    let m =
    flat_map-same (λ (o : Object Module). settings o.attributes ++ module_lines o.body o.name) (λ o. lines_of_module (as_file o))
    (λ o. ap (λ (l : List Statement). settings o.attributes ++ l) (module-lines o.body o.name)) d.modules in
    rw (flat_map-map lines_of_module as_file) (ap (λ (l : List Statement). map autoidx-stmt (Option-to_list d.autoidx) ++ l) m)

file-balanced : (d : Design) → BalancedDesign d → BalancedFile (file_of d)
unfolding file_of
file-balanced d b = each-through (λ (m : Object Module). Balanced m.body.processes) as_file BalancedIn (λ m h. rw (body-entries m.body) h) d.modules b

pub design-flatten : (d : Design) → BalancedDesign d → design (flatten d) ≡ d
design-flatten d b = ap design (flatten-file d) ∙ design-lines (file_of d) (file-balanced d b) ∙ design-file d

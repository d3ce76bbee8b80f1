-- A module of a design, by the statements behind its line: its wires, the names of its memories, cells and processes, and which names are taken.
-- Assumes nothing.
use Rattle.std.specs.Prelude.{ℕ, ◌≡◌, Bool, true, false, cond, ◌&&◌, ◌||◌}
use Rattle.std.proofs.Math.Path.{refl, sym, ap}
use Rattle.std.proofs.Common.{ap₂, ◌∙◌}
use mathlib.Core.List.{List, [], ◌∷◌, ◌++◌, map, map-map, map-id, map_congr_left, flat_map, zip, zip_with}
use Rattle.std.proofs.Math.Option.{Option, none, some, Option-elim}
use Rattle.std.proofs.Math.Bool.{or-false, or_assoc, and-or_distrib_right}
use Rattle.std.proofs.Math.ListN.{get_or, get_elem?, get_or-map}
use Rattle.rules.specs.Bytes.{same, any}
use Rattle.rules.specs.Tokens.{Name}
use Rattle.rules.specs.Statements.{Statement, Wire, Kind, an_attribute, a_module, a_memory, a_cell, a_process, contents, is, own_name, statements_open}
use Rattle.rules.specs.Judgement.{until, only, among}
use Rattle.rules.specs.Design.{Setting, Object, object, Line, Module, Item, Inside, setting_in, items, blocks, objects_in, pair, each, cell_of, process_of, module_of, Design, design}
use Rattle.rules.specs.Session.{wires_at, names, taken}
use Rattle.context.specs.Forms.{by_form, by-attribute}
use Rattle.lists.specs.Tests.{by-test}
use Rattle.lists.specs.Lists.{zip-none, flat_map-same, elim-at, elim-map, flat_map-only, flat_map-one, map-flat_map}
use Rattle.lists.specs.Elements.{each_all, any_append, any_same, any-only, any-map, any-or}
use Rattle.netlist.specs.NameLaws.{own_names}
use Rattle.modules.specs.Modules.{modules_in, statements_of, wires_of, memories_at, cells_at, processes_at}

-- an attribute is of no other kind
pub record OnlyAttribute (s : Statement) : Type 0 where
  pub no-module : is a_module s ≡ false
  pub no_cell : is a_cell s ≡ false
  pub no-process : is a_process s ≡ false
  pub no-wires : (contents s).wires ≡ []
  pub no-memories : (contents s).memories ≡ []

pub only-attribute : (s : Statement) → is an_attribute s ≡ true → OnlyAttribute s
unfolding statements_open
only-attribute = by-attribute OnlyAttribute (λ n c. record { no-module = refl; no_cell = refl; no-process = refl; no-wires = refl; no-memories = refl })

-- THE ITEMS OF A BLOCK are those of the statements behind the line that opens it
pub items-until : (f : Statement → Bool) → ((s : Statement) → is an_attribute s ≡ true → f s ≡ false) → (at : List Setting) (ss : List Statement) → until (λ j. f j.statement) (items at ss) ≡ items at (until f ss)
unfolding items until
items-until f h at [] = refl
items-until f h at (s ∷ ss) =
    by-test (is an_attribute s)
    (λ e. rw (h s e, e) (items-until f h (at ++ setting_in s) ss))
    (λ e. by-test (f s) (λ q. rw (e, q)) (λ q. rw (q, e, q) (ap (λ (l : List Item). record { attributes = at; statement = s } ∷ l) (items-until f h [] ss))))

blocks-items : (at : List Setting) (ss : List Statement) → map (λ b. b.1) (blocks (is a_module) (items at ss)) ≡ map (items []) (modules_in ss)
unfolding items blocks modules_in
blocks-items at [] = refl
blocks-items at (s ∷ ss) =
    by-test (is an_attribute s)
    (λ e. rw ((only-attribute s e).no-module, e) (blocks-items (at ++ setting_in s) ss))
    (λ e. by-test (is a_module s) (λ m. rw (e, m, items-until (is a_module) (λ q h. (only-attribute q h).no-module) [] ss, blocks-items [] ss)) (λ m. rw (e, m) (blocks-items [] ss)))

-- what is taken from a module's items, of the module of that number; none if there is no such module
module _ {A : Type 0} (g : Module → List A) (h : List Item → List A) (none : h [] ≡ []) (from : (b : Item × List Item) → g (module_of b).body ≡ h b.1) where
  pub module-at : (ss : List Statement) (m : ℕ) → Option-elim (get_elem? (design ss).modules m) [] (λ o. g o.body) ≡ h (items [] (statements_of m ss))
  unfolding design statements_of items
  module-at ss m =
      let bs = blocks (is a_module) (items [] ss) in
      sym (elim-map [] (λ o. g o.body) module_of bs m)
      ∙ elim-at (λ b. g (module_of b).body) [] bs m
      ∙ ap (λ (l : List (List A)). get_or l m []) (map_congr_left {f = λ b. g (module_of b).body} {g = λ b. h b.1} {l = bs} (λ b i. from b) ∙ sym (map-map h (λ b. b.1) bs) ∙ ap (map h) (blocks-items [] ss) ∙ map-map h (items []) (modules_in ss))
      ∙ ap (λ (z : List A). get_or (map (λ qs. h (items [] qs)) (modules_in ss)) m z) (sym none)
      ∙ get_or-map (λ qs. h (items [] qs)) (modules_in ss) m []

-- WHAT STATEMENTS GIVE TO ITEMS. What an attribute has no part in is taken from the statements themselves
pub each-items : {A : Type 0} (f : Statement → List A) → ((s : Statement) → is an_attribute s ≡ true → f s ≡ []) → (at : List Setting) (ss : List Statement) → each f (items at ss) ≡ flat_map f ss
unfolding each items flat_map
each-items f h at [] = refl
each-items f h at (s ∷ ss) =
    by-test (is an_attribute s) (λ e. rw (e, h s e) (each-items f h (at ++ setting_in s) ss)) (λ e. rw e (ap (λ (l : List _). f s ++ l) (each-items f h [] ss)))

-- objects with their names
pairs-in : {A : Type 0} (f : Inside → List A) (i : Item) → map (λ o. (o.name, o.body)) (objects_in f i) ≡ zip (contents i.statement).names (f (contents i.statement))
unfolding objects_in
pairs-in f i = let l : List (Name × _) = zip (contents i.statement).names (f (contents i.statement)) in map-map (λ o. (o.name, o.body)) (λ x. object i.attributes x.0 x.1) l ∙ map-id l

pub wires-pairs : (at : List Setting) (qs : List Statement) → map (λ o. (o.name, o.body)) (flat_map (objects_in (λ c. c.wires)) (items at qs)) ≡ wires_of qs
unfolding each
wires-pairs at qs =
    map-flat_map (λ o. (o.name, o.body)) (objects_in (λ c. c.wires)) (items at qs)
    ∙ flat_map-same _ _ (pairs-in (λ c. c.wires)) (items at qs)
    ∙ each-items (λ s. zip (contents s).names (contents s).wires) (λ s e. rw (only-attribute s e).no-wires (zip-none (contents s).names)) at qs

-- the own names of memories
memory-name : (s : Statement) → map (λ x. x.0) (zip (contents s).names (contents s).memories) ≡ cond (among (a_memory ∷ []) s) (own_name (contents s).names ∷ []) []
unfolding zip zip_with among any statements_open
memory-name = by_form _ (λ i. refl) (λ n c. refl) (λ n. refl) (λ n c. refl) (λ w n. refl) (λ m n. refl) (λ t n. refl) (λ o n c. refl) (λ n x. refl) (λ x y. refl) (λ n. refl) (λ p xs. refl) refl

pub memory-names : (at : List Setting) (qs : List Statement) → map (λ o. o.name) (flat_map (objects_in (λ c. c.memories)) (items at qs)) ≡ own_names (a_memory ∷ []) qs
unfolding each
memory-names at qs =
    map-flat_map (λ o. o.name) (objects_in (λ c. c.memories)) (items at qs)
    ∙ flat_map-same _ (λ i. map (λ x. x.0) (zip (contents i.statement).names (contents i.statement).memories))
    (λ i. sym (map-map (λ x. x.0) (λ o. (o.name, o.body)) (objects_in (λ c. c.memories) i)) ∙ ap (map (λ x. x.0)) (pairs-in (λ c. c.memories) i))
    (items at qs)
    ∙ each-items (λ s. map (λ x. x.0) (zip (contents s).names (contents s).memories))
    (λ s e. rw (only-attribute s e).no-memories (ap (map (λ x. x.0)) (zip-none (contents s).names)))
    at
    qs
    ∙ flat_map-same _ _ memory-name qs
    ∙ flat_map-only (among (a_memory ∷ [])) (λ s. own_name (contents s).names) qs

-- a cell's type and its own name
unfoldable pub cell_names : Statement → List (Name × Name)
cell_names s = cond (is a_cell s) (pair (contents s).names) []

opened : {A : Type 0} (opens : Statement → Bool) (f : Statement → List A) (is' : List Item) → flat_map (λ b. f b.0.statement) (blocks opens is') ≡ each (λ s. cond (opens s) (f s) []) is'
unfolding each blocks flat_map
opened opens f [] = refl
opened opens f (i ∷ is') =
    by-test (opens i.statement) (λ e. rw e (ap (λ (l : List _). f i.statement ++ l) (opened opens f is'))) (λ e. rw e (opened opens f is'))

pub cell-pairs : (at : List Setting) (qs : List Statement) → map (λ o. (o.body.type, o.name)) (flat_map cell_of (blocks (is a_cell) (items at qs))) ≡ flat_map cell_names qs
unfolding cell_of cell_names
cell-pairs at qs =
    map-flat_map (λ o. (o.body.type, o.name)) cell_of (blocks (is a_cell) (items at qs))
    ∙ flat_map-same _ (λ b. pair (contents b.0.statement).names)
    (λ b. let l = pair (contents b.0.statement).names in map-map (λ o. (o.body.type, o.name)) (λ n. object b.0.attributes n.1 _) l ∙ map-id l)
    (blocks (is a_cell) (items at qs))
    ∙ opened (is a_cell) (λ s. pair (contents s).names) (items at qs)
    ∙ each-items cell_names (λ s e. rw (only-attribute s e).no_cell) at qs

cell-name : (s : Statement) → map (λ x. x.1) (cell_names s) ≡ cond (among (a_cell ∷ []) s) (own_name (contents s).names ∷ []) []
unfolding cell_names pair among any statements_open
cell-name = by_form _ (λ i. refl) (λ n c. refl) (λ n. refl) (λ n c. refl) (λ w n. refl) (λ m n. refl) (λ t n. refl) (λ o n c. refl) (λ n x. refl) (λ x y. refl) (λ n. refl) (λ p xs. refl) refl

pub cell-names : (at : List Setting) (qs : List Statement) → map (λ o. o.name) (flat_map cell_of (blocks (is a_cell) (items at qs))) ≡ own_names (a_cell ∷ []) qs
cell-names at qs =
    sym (map-map (λ x. x.1) (λ o. (o.body.type, o.name)) (flat_map cell_of (blocks (is a_cell) (items at qs))))
    ∙ ap (map (λ x. x.1)) (cell-pairs at qs)
    ∙ map-flat_map (λ x. x.1) cell_names qs
    ∙ flat_map-same _ _ cell-name qs
    ∙ flat_map-only (among (a_cell ∷ [])) (λ s. own_name (contents s).names) qs

-- a process's own name
process-name : (s : Statement) → cond (is a_process s) (own_name (contents s).names ∷ []) [] ≡ cond (among (a_process ∷ []) s) (own_name (contents s).names ∷ []) []
unfolding among any
process-name s = rw (or-false (is a_process s))

pub process-names : (at : List Setting) (qs : List Statement) → map (λ o. o.name) (map process_of (blocks (is a_process) (items at qs))) ≡ own_names (a_process ∷ []) qs
unfolding process_of
process-names at qs =
    let bs = blocks (is a_process) (items at qs) in
    let own : Item × List Item → Name = λ b. own_name (contents b.0.statement).names in
    map-map (λ o. o.name) process_of bs
    ∙ sym (flat_map-one (λ b. own b ∷ []) own (λ b. refl) bs)
    ∙ opened (is a_process) (λ s. own_name (contents s).names ∷ []) (items at qs)
    ∙ each-items (λ s. cond (is a_process s) (own_name (contents s).names ∷ []) []) (λ s e. rw (only-attribute s e).no-process) at qs
    ∙ flat_map-same _ _ process-name qs
    ∙ flat_map-only (among (a_process ∷ [])) (λ s. own_name (contents s).names) qs

-- whether some name of some kinds passes a test; names of one kind more
pub any-own : (f : Name → Bool) (ks : List Kind) (qs : List Statement) → any f (own_names ks qs) ≡ any (λ s. among ks s && f (own_name (contents s).names)) qs
any-own f ks qs = any-map f _ (only (among ks) qs) ∙ sym (any-only (among ks) _ qs)

pub any-kinds : (f : Name → Bool) (k : Kind) (ks : List Kind) (qs : List Statement) → any f (own_names (k ∷ ks) qs) ≡ any f (own_names (k ∷ []) qs) || any f (own_names ks qs)
unfolding among any
any-kinds f k ks qs =
    any-own f (k ∷ ks) qs
    ∙ any_same _ _ qs
    (each_all _
    (λ s. ap (λ (b : Bool). (b || among ks s) && f (own_name (contents s).names)) (sym (or-false (is k s))) ∙ and-or_distrib_right (is k s || false) (among ks s) (f (own_name (contents s).names))) qs)
    ∙ any-or _ _ qs
    ∙ ap₂ ◌||◌ (sym (any-own f (k ∷ []) qs)) (sym (any-own f ks qs))

-- THE MODULE OF A NUMBER
module _ (ss : List Statement) (m : ℕ) where
  -- its wires, with the attributes right before each
  pub wires-at : wires_at (design ss) m ≡ flat_map (objects_in (λ c. c.wires)) (items [] (statements_of m ss))
  unfolding wires_at flat_map module_of
  wires-at = module-at (λ o. o.wires) (flat_map (objects_in (λ c. c.wires))) refl (λ b. refl) ss m

  pub pairs-at : map (λ o. (o.name, o.body)) (wires_at (design ss) m) ≡ wires_of (statements_of m ss)
  pairs-at = ap (map (λ o. (o.name, o.body))) wires-at ∙ wires-pairs [] (statements_of m ss)

  pub wire-names-at : map (λ o. o.name) (wires_at (design ss) m) ≡ map (λ x. x.0) (wires_of (statements_of m ss))
  wire-names-at = sym (map-map {B = Name × Wire} (λ x. x.0) (λ o. (o.name, o.body)) (wires_at (design ss) m)) ∙ ap (map (λ x. x.0)) pairs-at

  pub memories-at : map (λ o. o.name) (memories_at (design ss) m) ≡ own_names (a_memory ∷ []) (statements_of m ss)
  unfolding memories_at flat_map module_of
  memories-at =
      ap (map (λ o. o.name)) (module-at (λ o. o.memories) (flat_map (objects_in (λ c. c.memories))) refl (λ b. refl) ss m) ∙ memory-names [] (statements_of m ss)

  cells_are : cells_at (design ss) m ≡ flat_map cell_of (blocks (is a_cell) (items [] (statements_of m ss)))
  unfolding cells_at flat_map module_of blocks
  cells_are = module-at (λ o. o.cells) (λ l. flat_map cell_of (blocks (is a_cell) l)) refl (λ b. refl) ss m

  pub cell-names-at : map (λ o. o.name) (cells_at (design ss) m) ≡ own_names (a_cell ∷ []) (statements_of m ss)
  cell-names-at = ap (map (λ o. o.name)) cells_are ∙ cell-names [] (statements_of m ss)

  processes-are : processes_at (design ss) m ≡ map process_of (blocks (is a_process) (items [] (statements_of m ss)))
  unfolding processes_at module_of blocks
  processes-are = module-at (λ o. o.processes) (λ l. map process_of (blocks (is a_process) l)) refl (λ b. refl) ss m

  pub process-names-at : map (λ o. o.name) (processes_at (design ss) m) ≡ own_names (a_process ∷ []) (statements_of m ss)
  process-names-at = ap (map (λ o. o.name)) processes-are ∙ process-names [] (statements_of m ss)

-- WHICH NAMES ARE TAKEN in any design
abbrev named : {A : Type 0} → Name → List (Object A) → Bool
named n os = any (same n) (map (λ o. o.name) os)

any-four : (f : Name → Bool) (ws ms cs ps : List Name) → any f (ws ++ ms ++ cs ++ ps) ≡ any f ws || (any f ms || (any f cs || any f ps))
any-four f ws ms cs ps =
    rw (any_append, any_append, any_append) (or_assoc (any f ws || any f ms) (any f cs) (any f ps) ∙ or_assoc (any f ws) (any f ms) (any f cs || any f ps))

parts-by :
    (n : Name) (o : Option (Object Module)) →
    any (same n) (Option-elim o [] (λ o. names o.body))
    ≡ named n (Option-elim o [] (λ o. o.body.wires))
    || (named n (Option-elim o [] (λ o. o.body.memories)) || (named n (Option-elim o [] (λ o. o.body.cells)) || named n (Option-elim o [] (λ o. o.body.processes))))
unfolding Option-elim names any
parts-by n none = refl
parts-by n (some o) =
    any-four (same n) (map (λ o. o.name) o.body.wires) (map (λ o. o.name) o.body.memories) (map (λ o. o.name) o.body.cells) (map (λ o. o.name) o.body.processes)

pub taken-parts :
    (d : Design) (m : ℕ) (n : Name) →
    taken d m n ≡ named n (wires_at d m) || (named n (memories_at d m) || (named n (cells_at d m) || named n (processes_at d m)))
unfolding taken wires_at memories_at cells_at processes_at
taken-parts d m n = parts-by n (get_elem? d.modules m)

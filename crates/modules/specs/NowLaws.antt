-- The rules' renames, one after the other, are those of each wire by its number.
-- Assumes nothing.
use Prim.Native.Nat.{ℕ, zero, suc}
use Rattle.std.specs.Prelude.{◌≡◌, true, false, cond, ◌||◌, eqb}
use Rattle.std.proofs.Math.Path.{refl, ap, ap₂}
use Rattle.std.proofs.Common.{sym, ◌∙◌}
use mathlib.Core.List.{List, [], ◌∷◌, ◌++◌, map}
use Rattle.std.proofs.Math.Option
use Rattle.std.proofs.Math.Option.{Option, none, some, Option-elim}
use Rattle.std.proofs.Math.Dec.{eqb-zero-suc, eqb-suc-zero, eqb-suc-suc}
use Rattle.std.proofs.Math.ListN.{get_elem?}
use Rattle.rules.specs.Bytes.{same, any}
use Rattle.rules.specs.Tokens.{Name}
use Rattle.rules.specs.Statements.{Statement, Wire, a_memory, a_cell, a_process}
use Rattle.rules.specs.Design.{Object, object, Module, Design, design}
use Rattle.rules.specs.Session.{Rename, wires_at, wire_at, change, rename_wire, renamed, now, taken}
use Rattle.lists.specs.Tests.{by-test}
use Rattle.netlist.specs.NameLaws.{own_names}
use Rattle.modules.specs.Modules.{statements_of, wires_of, memories_at, cells_at, processes_at}
use Rattle.modules.specs.Now.{numbered, renames, name_now, wire_now, module_now, design_now}
use Rattle.modules.specs.DesignLaws.{wire-names-at, memories-at, cell-names-at, process-names-at, any-kinds, taken-parts}

-- ELEMENTS CHANGED BY THEIR NUMBER
module _ {A : Type 0} where
  pub numbered-same : (f g : ℕ → A → A) → ((i : ℕ) (x : A) → f i x ≡ g i x) → (xs : List A) → numbered f xs ≡ numbered g xs
  unfolding numbered
  numbered-same f g h [] = refl
  numbered-same f g h (x ∷ xs) = ap₂ ◌∷◌ (h 0 x) (numbered-same (λ i. f (suc i)) (λ i. g (suc i)) (λ i. h (suc i)) xs)

  numbered-id : (xs : List A) → numbered (λ i x. x) xs ≡ xs
  unfolding numbered
  numbered-id [] = refl
  numbered-id (x ∷ xs) = ap (λ (l : List A). x ∷ l) (numbered-id xs)

  numbered-twice : (f g : ℕ → A → A) (xs : List A) → numbered f (numbered g xs) ≡ numbered (λ i x. f i (g i x)) xs
  unfolding numbered
  numbered-twice f g [] = refl
  numbered-twice f g (x ∷ xs) = ap (λ (l : List A). f 0 (g 0 x) ∷ l) (numbered-twice (λ i. f (suc i)) (λ i. g (suc i)) xs)

  pub numbered-at : (f : ℕ → A → A) (xs : List A) (i : ℕ) → get_elem? (numbered f xs) i ≡ Option.map (f i) (get_elem? xs i)
  unfolding numbered
  numbered-at f [] i = refl
  numbered-at f (x ∷ xs) zero = refl
  numbered-at f (x ∷ xs) (suc i) = numbered-at (λ i. f (suc i)) xs i

  pub map-numbered : {B : Type 0} (g : A → B) (f : ℕ → A → A) (h : ℕ → B → B) → ((i : ℕ) (x : A) → g (f i x) ≡ h i (g x)) → (xs : List A) → map g (numbered f xs) ≡ numbered h (map g xs)
  unfolding numbered
  map-numbered g f h e [] = refl
  map-numbered g f h e (x ∷ xs) = ap₂ ◌∷◌ (e 0 x) (map-numbered g (λ i. f (suc i)) (λ i. h (suc i)) (λ i. e (suc i)) xs)

  change-numbered : (g : A → A) (j : ℕ) (xs : List A) → change g j xs ≡ numbered (λ i x. cond (eqb j i) (g x) x) xs
  unfolding change numbered
  change-numbered g j [] = refl
  change-numbered g zero (x ∷ xs) =
      ap (λ (l : List A). g x ∷ l) (sym (numbered-same _ (λ i x. x) (λ i x. rw eqb-zero-suc) xs ∙ numbered-id xs))
  change-numbered g (suc j) (x ∷ xs) =
      ap₂ ◌∷◌ (rw eqb-suc-zero) (change-numbered g j xs ∙ numbered-same _ _ (λ i x. rw eqb-suc-suc) xs)

-- NO RENAME AND ONE MORE, for a wire, a module's wires and a module
wires-none : (m : ℕ) (ws : List (Object Wire)) → numbered (wire_now [] m) ws ≡ ws
unfolding wire_now name_now
wires-none m ws = numbered-same (wire_now [] m) (λ i x. x) (λ i x. refl) ws ∙ numbered-id ws

module-none : (m : ℕ) (o : Object Module) → module_now [] m o ≡ o
unfolding module_now
module-none m o = rw (wires-none m o.body.wires)

-- a wire with the name that a rename gives
abbrev pub given : Rename → Object Wire → Object Wire
given r w = object w.attributes r.new_name w.body

module _ (r : Rename) (rs : List Rename) (m : ℕ) where
  wires-changed :
      eqb r.module_number m ≡ true → (ws : List (Object Wire)) →
      numbered (wire_now rs m) (change (given r) r.wire_number ws) ≡ numbered (wire_now (r ∷ rs) m) ws
  unfolding wire_now name_now renames
  wires-changed e ws =
      ap (numbered (wire_now rs m)) (change-numbered (given r) r.wire_number ws)
      ∙ numbered-twice (wire_now rs m) _ ws
      ∙ numbered-same _ (wire_now (r ∷ rs) m) (λ i x. by-test (eqb r.wire_number i) (λ h. rw (e, h)) (λ h. rw (e, h))) ws

  wires-left : eqb r.module_number m ≡ false → (ws : List (Object Wire)) → numbered (wire_now rs m) ws ≡ numbered (wire_now (r ∷ rs) m) ws
  unfolding wire_now name_now renames
  wires-left e ws = numbered-same (wire_now rs m) (wire_now (r ∷ rs) m) (λ i x. rw e) ws

  module-more :
      (o : Object Module) →
      module_now rs m (cond (eqb r.module_number m) (object o.attributes o.name (rename_wire r o.body)) o) ≡ module_now (r ∷ rs) m o
  unfolding module_now rename_wire
  module-more o =
      by-test (eqb r.module_number m) (λ e. rw (e, wires-changed e o.body.wires)) (λ e. rw (e, wires-left e o.body.wires))

-- THE DESIGN NOW
pub now-is : (d : Design) (rs : List Rename) → now d rs ≡ design_now rs d
unfolding now renamed design_now
now-is d [] =
    ap (λ (l : List (Object Module)). record { autoidx = d.autoidx; modules = l }) (sym (numbered-same (module_now []) (λ i x. x) module-none d.modules ∙ numbered-id d.modules))
now-is d (r ∷ rs) =
    now-is (renamed r d) rs
    ∙ ap (λ (l : List (Object Module)). record { autoidx = d.autoidx; modules = l })
    (ap (numbered (module_now rs)) (change-numbered _ r.module_number d.modules)
    ∙ numbered-twice (module_now rs) _ d.modules
    ∙ numbered-same _ (module_now (r ∷ rs)) (module-more r rs) d.modules)

-- the newest rename of a wire gives its name
pub name-last : (rs : List Rename) (r : Rename) (m w : ℕ) (n : Name) → name_now (rs ++ r ∷ []) m w n ≡ cond (renames r m w) r.new_name (name_now rs m w n)
unfolding name_now
name-last [] r m w n = refl
name-last (q ∷ rs) r m w n = name-last rs r m w (cond (renames q m w) q.new_name n)

now-wires : (o : Option (Object Module)) (rs : List Rename) (m : ℕ) → Option-elim (Option.map (module_now rs m) o) [] (λ o. o.body.wires) ≡ numbered (wire_now rs m) (Option-elim o [] (λ o. o.body.wires))
unfolding Option-elim module_now numbered
now-wires none rs m = refl
now-wires (some o) rs m = refl

now-kept : {A : Type 0} (f : Module → List A) (rs : List Rename) (m : ℕ) → ((o : Object Module) → f (module_now rs m o).body ≡ f o.body) → (o : Option (Object Module)) → Option-elim (Option.map (module_now rs m) o) [] (λ o. f o.body) ≡ Option-elim o [] (λ o. f o.body)
unfolding Option-elim
now-kept f rs m h none = refl
now-kept f rs m h (some o) = h o

-- of each module only its wires' names change
module _ (d : Design) (rs : List Rename) where
  module _ (m : ℕ) where
    pub module-now : get_elem? (now d rs).modules m ≡ Option.map (module_now rs m) (get_elem? d.modules m)
    unfolding design_now
    module-now = ap (λ (e : Design). get_elem? e.modules m) (now-is d rs) ∙ numbered-at (module_now rs) d.modules m

    pub wires-now : wires_at (now d rs) m ≡ numbered (wire_now rs m) (wires_at d m)
    unfolding wires_at
    wires-now = rw module-now (now-wires (get_elem? d.modules m) rs m)

    pub wire-now : (w : ℕ) → wire_at (now d rs) m w ≡ Option.map (wire_now rs m w) (wire_at d m w)
    unfolding wire_at
    wire-now w = ap (λ (l : List (Object Wire)). get_elem? l w) wires-now ∙ numbered-at (wire_now rs m) (wires_at d m) w

    pub names-now : map (λ o. o.name) (wires_at (now d rs) m) ≡ numbered (name_now rs m) (map (λ o. o.name) (wires_at d m))
    unfolding wire_now
    names-now = ap (map (λ o. o.name)) wires-now ∙ map-numbered (λ o. o.name) (wire_now rs m) (name_now rs m) (λ i x. refl) (wires_at d m)

    pub memories-now : memories_at (now d rs) m ≡ memories_at d m
    unfolding memories_at module_now
    memories-now = rw module-now (now-kept (λ b. b.memories) rs m (λ o. refl) (get_elem? d.modules m))

    pub cells-now : cells_at (now d rs) m ≡ cells_at d m
    unfolding cells_at module_now
    cells-now = rw module-now (now-kept (λ b. b.cells) rs m (λ o. refl) (get_elem? d.modules m))

    pub processes-now : processes_at (now d rs) m ≡ processes_at d m
    unfolding processes_at module_now
    processes-now = rw module-now (now-kept (λ b. b.processes) rs m (λ o. refl) (get_elem? d.modules m))

    pub taken-now :
        (n : Name) →
        taken (now d rs) m n
        ≡ any (same n) (numbered (name_now rs m) (map (λ o. o.name) (wires_at d m)))
        || (any (same n) (map (λ o. o.name) (memories_at d m)) || (any (same n) (map (λ o. o.name) (cells_at d m)) || any (same n) (map (λ o. o.name) (processes_at d m))))
    taken-now n = taken-parts (now d rs) m n ∙ rw (names-now, memories-now, cells-now, processes-now)

-- the same by the statements behind the module's line
module _ (ss : List Statement) (rs : List Rename) (m : ℕ) where
  pub taken-read-now :
      (n : Name) →
      taken (now (design ss) rs) m n
      ≡ any (same n) (numbered (name_now rs m) (map (λ x. x.0) (wires_of (statements_of m ss)))) || any (same n) (own_names (a_memory ∷ a_cell ∷ a_process ∷ []) (statements_of m ss))
  taken-read-now n =
      taken-now (design ss) rs m n
      ∙ rw (wire-names-at ss m, memories-at ss m, cell-names-at ss m, process-names-at ss m, any-kinds (same n) a_memory (a_cell ∷ a_process ∷ []) (statements_of m ss), any-kinds (same n) a_cell (a_process ∷ []) (statements_of m ss))

-- the newest rename gives its wire its name, and every other wire stays as it was
module _ (d : Design) (rs : List Rename) (r : Rename) (m w : ℕ) where
  last-given :
      (o : Option (Object Wire)) →
      Option.map (wire_now (rs ++ r ∷ []) m w) o ≡ cond (renames r m w) (Option.map (given r) (Option.map (wire_now rs m w) o)) (Option.map (wire_now rs m w) o)
  unfolding wire_now
  last-given none = by-test (renames r m w) (λ e. rw e) (λ e. rw e)
  last-given (some o) = by-test (renames r m w) (λ e. rw (name-last rs r m w o.name, e)) (λ e. rw (name-last rs r m w o.name, e))

  pub wire-last : wire_at (now d (rs ++ r ∷ [])) m w ≡ cond (renames r m w) (Option.map (given r) (wire_at (now d rs) m w)) (wire_at (now d rs) m w)
  wire-last = wire-now d (rs ++ r ∷ []) m w ∙ last-given (wire_at d m w) ∙ rw (wire-now d rs m w)

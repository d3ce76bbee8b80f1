-- A wire's attributes are those right before its statement.
-- Assumes nothing.
use Rattle.std.specs.Prelude.{ℕ, suc, ◌≡◌, refl, not, cond, length}
use Rattle.std.proofs.Common.{sym, ◌∙◌}
use Rattle.std.proofs.Math.Path.{ap}
use mathlib.Core.List.{List, [], ◌∷◌, ◌++◌, flat_map, zip, zip_with, reverse, reverse-cons, reverse_aux-eq}
use Rattle.std.proofs.Math.Option.{some}
use Rattle.std.proofs.Math.ListN.{get_elem?}
use Rattle.std.proofs.lemmas.List.{length-map}
use Rattle.rules.specs.Tokens.{Name}
use Rattle.rules.specs.Statements.{Statement, Wire, wire-stmt, an_attribute, a_module, is, statements_open}
use Rattle.rules.specs.Judgement.{Past, until, wires, of_module, of_object}
use Rattle.rules.specs.Design.{Setting, Object, object, Item, setting_in, items, objects_in, design}
use Rattle.rules.specs.Session.{wire_at}
use Rattle.lists.specs.Tests.{by-test}
use Rattle.lists.specs.Lists.{element-at, flat_map-append, flat_map-back}
use Rattle.modules.specs.Modules.{statements_of, wires_of, module_count}
use Rattle.modules.specs.DesignLaws.{only-attribute, wires-pairs, wires-at}
use Rattle.modules.specs.PastLaws.{module-open}
use Rattle.modules.specs.WireLaws.{length-wires-back}

-- the attributes that wait behind statements for the next object
unfoldable waiting : List Setting → List Statement → List Setting
waiting at [] = at
waiting at (s ∷ ss) = let more = waiting (at ++ setting_in s) ss in let none = waiting [] ss in cond (is an_attribute s) more none

items-append : (at : List Setting) (qs rs : List Statement) → items at (qs ++ rs) ≡ items at qs ++ items (waiting at qs) rs
unfolding items waiting
items-append at [] rs = refl
items-append at (s ∷ qs) rs =
    by-test (is an_attribute s)
    (λ e. rw e (items-append (at ++ setting_in s) qs rs))
    (λ e. rw e (ap (λ (l : List Item). record { attributes = at; statement = s } ∷ l) (items-append [] qs rs)))

waiting-last : (at : List Setting) (qs : List Statement) (s : Statement) → waiting at (qs ++ s ∷ []) ≡ cond (is an_attribute s) (waiting at qs ++ setting_in s) []
unfolding waiting
waiting-last at [] s = refl
waiting-last at (q ∷ qs) s = by-test (is an_attribute q) (λ e. rw e (waiting-last (at ++ setting_in q) qs s)) (λ e. rw e (waiting-last [] qs s))

-- the attributes right before the next statement
unfoldable pub settings_before : Past → List Setting
settings_before ss = flat_map setting_in (reverse (of_object ss))

waiting-past : (ps : Past) → waiting [] (reverse ps) ≡ settings_before ps
unfolding waiting settings_before of_object until flat_map
waiting-past [] = refl
waiting-past (s ∷ ps) =
    ap (waiting []) (reverse-cons s ps)
    ∙ waiting-last [] (reverse ps) s
    ∙ by-test (is an_attribute s)
    (λ e. rw e (ap (λ (l : List Setting). l ++ setting_in s) (waiting-past ps) ∙ sym (flat_map-back setting_in s (until (λ q. not (is an_attribute q)) ps))))
    (λ e. rw e)

-- a wire's statement among those of its module
module _ (w : Wire) (n : Name) (ps : Past) (rs : List Statement) where
  wire-items : flat_map (objects_in (λ c. c.wires)) (items [] (reverse ps ++ wire-stmt w n ∷ rs)) ≡ flat_map (objects_in (λ c. c.wires)) (items [] (reverse ps)) ++ object (settings_before ps) n w ∷ flat_map (objects_in (λ c. c.wires)) (items [] rs)
  unfolding items flat_map objects_in zip zip_with statements_open
  wire-items = rw (items-append, flat_map-append, waiting-past)

  wires-before : length (flat_map (objects_in (λ c. c.wires)) (items [] (reverse ps))) ≡ length (wires_of ps)
  wires-before =
      sym (length-map (flat_map (objects_in (λ c. c.wires)) (items [] (reverse ps))) (λ o. (o.name, o.body)))
      ∙ ap length (wires-pairs [] (reverse ps))
      ∙ length-wires-back ps

  pub wire-in-module : (ss : List Statement) (m : ℕ) → statements_of m ss ≡ reverse ps ++ wire-stmt w n ∷ rs → wire_at (design ss) m (length (wires_of ps)) ≡ some (object (settings_before ps) n w)
  unfolding wire_at
  wire-in-module ss m e =
      ap (λ (l : List (Object Wire)). get_elem? l (length (wires_of ps))) (wires-at ss m ∙ ap (λ (l : List Statement). flat_map (objects_in (λ c. c.wires)) (items [] l)) e ∙ wire-items)
      ∙ element-at (flat_map (objects_in (λ c. c.wires)) (items [] (reverse ps))) (object (settings_before ps) n w) (flat_map (objects_in (λ c. c.wires)) (items [] rs)) (length (wires_of ps)) (sym wires-before)

-- the attributes before a statement stand in its module
object-in-module : (ps : Past) → of_object (of_module ps) ≡ of_object ps
unfolding of_object of_module until
object-in-module [] = refl
object-in-module (s ∷ ps) =
    by-test (is an_attribute s)
    (λ e. rw ((only-attribute s e).no-module, e) (ap (λ (l : Past). s ∷ l) (object-in-module ps)))
    (λ e. by-test (is a_module s) (λ h. rw (h, e)) (λ h. rw (h, e)))

-- A WIRE'S STATEMENT IN THE FILE: its module, its number, its attributes, its name and its body
module _ (w : Wire) (n : Name) (ps : Past) (rs : List Statement) (m : ℕ) (h : module_count ps ≡ suc m) where
  open-part : statements_of m (reverse ps ++ wire-stmt w n ∷ rs) ≡ reverse (of_module ps) ++ wire-stmt w n ∷ until (is a_module) rs
  unfolding until statements_open
  open-part =
      ap (statements_of m) (sym (reverse_aux-eq ps (wire-stmt w n ∷ rs)))
      ∙ module-open ps (wire-stmt w n ∷ rs) m h
      ∙ reverse_aux-eq (of_module ps) (wire-stmt w n ∷ until (is a_module) rs)

  pub wire-in-file : wire_at (design (reverse ps ++ wire-stmt w n ∷ rs)) m (length (wires ps)) ≡ some (object (settings_before ps) n w)
  unfolding wires settings_before
  wire-in-file =
      wire-in-module w n (of_module ps) (until (is a_module) rs) (reverse ps ++ wire-stmt w n ∷ rs) m open-part
      ∙ ap (λ (l : Past). some (object (flat_map setting_in (reverse l)) n w)) (object-in-module ps)

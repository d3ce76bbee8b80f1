-- The sorted indexes of statements and renames that lie in the tables are those that the tables give, one entry for each wire; a module's
-- part of them is its index, and its wires' names differ.
-- Assumes nothing.
use Rattle.std.specs.Prelude.{ℕ, zero, suc, ◌+◌, ◌≤◌, ◌<◌, ◌≡◌, refl, List, [], ◌∷◌, ◌++◌, map, reverse, length, drop}
use Rattle.std.proofs.Common.{sym, ◌∙◌, arith}
use Rattle.std.proofs.Math.Path.{ap}
use Rattle.std.proofs.Math.Option.{Option-elim}
use Rattle.std.proofs.lemmas.List.{length-map}
use Rattle.std.proofs.Math.ListN.{get_elem?, take}
use Rattle.rules.specs.Bytes.{same}
use Rattle.rules.specs.Tokens.{Name}
use Rattle.rules.specs.Statements.{Statement, a_module, a_wire, an_attribute, is}
use Rattle.rules.specs.Judgement.{Past, sum, count}
use Rattle.rules.specs.Design.{Setting, setting_in, Object, Module, Design, items, blocks, module_of, design}
use Rattle.rules.specs.Session.{Rename, wires_at, names, now, look_up}
use Rattle.rules.specs.Sorted.{orders}
use Rattle.lists.specs.Tests.{by-test, by_order}
use Rattle.lists.specs.Lists.{up}
use Rattle.lists.specs.Elements.{Each}
use Rattle.lists.specs.Sums.{sum-reverse}
use Rattle.context.specs.Place.{wires_in, place_of}
use Rattle.context.specs.declared.place.Place.{Place}
use Rattle.admitted.specs.Holds.{Allowed}
use Rattle.canonical.specs.Fine.{times, FineModule}
use Rattle.canonical.specs.Sums.{times-append}
use Rattle.canonical.specs.Canonical.{now-fine}
use Rattle.netlist.specs.Laid.{rooms_of, Wired}
use Rattle.modules.specs.Modules.{module_count, Headed, one-headed, none-headed}
use Rattle.modules.specs.DesignLaws.{only-attribute}
use Rattle.modules.specs.PastLaws.{module-counts, other-counts, count-step, up-to-all}
use Rattle.modules.specs.WireLaws.{wire-range-there, wire-range-none, none-wires, wires-more}
use Rattle.modules.specs.RangeLaws.{where_next}
use Rattle.modules.specs.Ranges.{wire_range}
use Rattle.modules.specs.Now.{numbered, design_now}
use Rattle.modules.specs.NowLaws.{now-is}
use Rattle.rename_rules.specs.Judged.{Lies, module_by}
use Rattle.rename_rules.specs.LiesLaws.{headed, wired, all-wires, names-are}
use Rattle.byte_order.specs.Order.{Apart, order_up, index_up, indexes_up, scan_up}
use Rattle.byte_order.specs.OrderLaws.{orders-up, index-part}
use Rattle.byte_order.specs.ScanLaws.{once-apart, search-up}
use Rattle.name_order.specs.Named.{name_in}
use Rattle.design_order.specs.Indexes.{indexes_in, NamesApart}
use Rattle.design_order.specs.IndexesLaws.{first-row}

-- HOW MANY MODULES
blocks-count : (at : List Setting) (ss : List Statement) → length (blocks (is a_module) (items at ss)) ≡ module_count ss
unfolding items blocks sum
blocks-count at [] = refl
blocks-count at (s ∷ ss) =
    by-test (is an_attribute s)
    (λ e. rw e (blocks-count (at ++ setting_in s) ss ∙ sym (other-counts s ss (only-attribute s e).no-module)))
    (λ e. by-test (is a_module s)
    (λ q. rw (e, q) (ap suc (blocks-count [] ss) ∙ sym (module-counts s ss q)))
    (λ q. rw (e, q) (blocks-count [] ss ∙ sym (other-counts s ss q))))

modules-count : (ss : List Statement) → length (design ss).modules ≡ module_count (reverse ss)
unfolding design
modules-count ss = length-map (blocks (is a_module) (items [] ss)) module_of ∙ blocks-count [] ss ∙ sym (sum-reverse (count (a_module ∷ [])) ss)

length-numbered : {A : Type 0} (f : ℕ → A → A) (xs : List A) → length (numbered f xs) ≡ length xs
unfolding numbered
length-numbered f [] = refl
length-numbered f (x ∷ xs) = ap suc (length-numbered (λ i. f (suc i)) xs)

now-count : (d : Design) (rs : List Rename) → length (now d rs).modules ≡ length d.modules
unfolding design_now
now-count d rs = ap (λ (e : Design). length e.modules) (now-is d rs) ∙ length-numbered _ d.modules

-- NO WIRE before the first module
no-wires : (ss : Past) → Headed ss → module_count ss ≡ 0 → wires_in ss ≡ 0
no-wires [] none-headed e = none-wires
no-wires (s ∷ ss) (one-headed p h) e =
    let z : module_count ss ≡ 0 = omega (arith, e, count-step s ss) in
    wires-more s ss ∙ by-test (is a_wire s) (λ w. absurd (omega (arith, z, p w))) (λ w. rw w (omega (arith, no-wires ss h z)))

-- so all rows of wires are of the modules
below_all : (names t : List ℕ) (ss : Past) → Headed ss → Wired (rooms_of ss) names t → (k : ℕ) → module_count ss ≡ k → (wire_range t (wires_in ss) k).first ≡ wires_in ss
unfolding wire_range indexes_up
below_all names t ss h l zero e = first-row t (wires_in ss) (λ m j. []) 0 ∙ sym (no-wires ss h e)
below_all names t ss h l (suc k) e =
    where_next t k (wires_in ss)
    ∙ (wire-range-there k ss h l (omega (arith, e))).0
    ∙ ap wires_in (up-to-all k ss (omega (arith, e)))

-- NAMES THAT DIFFER
fine-apart : (o : Object Module) → FineModule o → Apart (map (λ w. w.name) o.body.wires)
unfolding names times
fine-apart o f =
    let ws : List Name = map (λ w. w.name) o.body.wires in
    let ms : List Name = map (λ w. w.name) o.body.memories in
    let cs : List Name = map (λ w. w.name) o.body.cells in
    let ps : List Name = map (λ w. w.name) o.body.processes in
    once-apart ws
    (λ n.
    omega (
      arith,
      f.names n,
      times-append (same n) (ws ++ ms ++ cs) ps,
      times-append (same n) (ws ++ ms) cs,
      times-append (same n) ws ms,
    ))

module-apart : (os : List (Object Module)) (m : ℕ) → Each FineModule os → Apart (map (λ w. w.name) (Option-elim (get_elem? os m) [] (λ o. o.body.wires)))
unfolding Option-elim
module-apart [] m f = tt
module-apart (o ∷ os) zero f = fine-apart o f.0
module-apart (o ∷ os) (suc m) f = module-apart os m f.1

-- STATEMENTS AND RENAMES THAT LIE IN THE TABLES
module _ {names wires t : List ℕ} {p : Place} {standing room : ℕ} {ss : List Statement} {rs : List Rename} (l : Lies names wires t p standing room ss rs) where
  abbrev many : ℕ → ℕ
  many m = (wire_range wires p.wires m).count

  abbrev name_of : ℕ → ℕ → Name
  name_of m = name_in names wires t (module_by wires p standing m)

  pub modules-are : length (now (design ss) rs).modules ≡ p.modules
  unfolding place_of
  modules-are = now-count (design ss) rs ∙ modules-count ss ∙ ap (λ (x : Place). x.modules) l.place

  past-modules : module_count (reverse ss) ≡ p.modules
  unfolding place_of
  past-modules = ap (λ (x : Place). x.modules) l.place

  -- THE INDEXES
  pub orders-are : orders (now (design ss) rs) ≡ indexes_in names wires t p standing p.modules
  orders-are = orders-up name_of many (now (design ss) rs) (names-are l) ∙ ap (indexes_up name_of many) modules-are

  all-rows : (wire_range wires p.wires p.modules).first ≡ p.wires
  all-rows = rw (all-wires l) at (below_all names wires (reverse ss) (headed l) (wired l) p.modules past-modules)

  indexes-long : length (indexes_in names wires t p standing p.modules) ≡ p.wires
  indexes-long = sym (first-row wires p.wires name_of p.modules) ∙ all-rows

  pub orders-long : length (orders (now (design ss) rs)) ≡ p.wires
  orders-long = ap length orders-are ∙ indexes-long

  -- OF A MODULE
  module _ (m : ℕ) where
    none-there : p.modules ≤ m → many m ≡ 0
    none-there h = rw (all-wires l) at (wire-range-none m (reverse ss) (headed l) (wired l) (omega (arith, h, past-modules)))

    -- its part of a table that begins with the indexes
    pub part-is : (xs : List ℕ) → take p.wires xs ≡ orders (now (design ss) rs) → take (many m) (drop (wire_range wires p.wires m).first xs) ≡ index_up (name_of m) (many m) 0
    unfolding index_up order_up
    part-is xs e =
        by_order p.modules m
        (λ h. rw (none-there h))
        (λ h.
        ap (λ (n : ℕ). take (many m) (drop n xs)) (first-row wires p.wires name_of m)
        ∙ index-part name_of many p.modules m h xs (ap (λ (n : ℕ). take n xs) indexes-long ∙ e ∙ orders-are))

    pub names_apart : Allowed (design ss) rs → Apart (up (name_of m) (many m) 0)
    unfolding wires_at
    names_apart a =
        rw (← names-are l m) (module-apart (now (design ss) rs).modules m (now-fine ss rs (record { admitted = l.admitted; closes = l.closes }) a).modules)

    -- look-up is the scan of its names
    pub look-up-is : (n : Name) → look_up (now (design ss) rs) m n ≡ scan_up (name_of m) n (many m) 0
    unfolding look_up
    look-up-is n = search-up (name_of m) n (wires_at (now (design ss) rs) m) (many m) 0 (names-are l m)

  pub all_apart : Allowed (design ss) rs → NamesApart names wires t p standing
  all_apart a m h = names_apart m a

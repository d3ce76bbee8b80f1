-- The turns of building and telling the indexes of all modules: each stands from its module's first row on.
-- Assumes nothing.
use Prim.Native.Nat.{ℕ, zero, suc, ◌+◌, ◌-◌, ◌≤◌, ◌<◌}
use Rattle.std.specs.Prelude.{◌≡◌, refl, Bool, true, false, drop}
use Rattle.std.proofs.Common.{sym, ◌∙◌, arith, le-ltb}
use Rattle.std.proofs.Math.Path.{ap}
use mathlib.Core.List.{List, ◌++◌}
use Rattle.std.proofs.Math.Numerals.{add-one}
use Rattle.std.proofs.Math.Dec.{ltb}
use Rattle.std.proofs.Math.ListN.{length, take, length-append}
use Rattle.std.proofs.Math.Seq.{take-add}
use Rattle.rules.specs.Bytes.{same}
use Rattle.rules.specs.Tokens.{Name}
use Rattle.lists.specs.Tests.{by-test, never}
use Rattle.lists.specs.Bytes.{same_refl, same-eq}
use Rattle.lists.specs.Lists.{up}
use Rattle.lists.specs.Parts.{length_part}
use Rattle.tables.specs.Store.{store, store_then}
use Rattle.wires.specs.Rows.{column}
use Rattle.modules.specs.Ranges.{rows_where, wire_range}
use Rattle.modules.specs.RangeLaws.{where-le, where_next}
use Rattle.context.specs.declared.place.Place.{Place}
use Rattle.wire_names.specs.declared.Module.{Module}
use Rattle.byte_order.specs.Order.{Apart, index_up, indexes_up}
use Rattle.byte_order.specs.OrderLaws.{length-index, index-part}
use Rattle.name_order.specs.Named.{name_in}
use Rattle.design_order.specs.Indexes.{module_at, indexes_in, NamesApart}

where-none : (t : List ℕ) (k : ℕ) → rows_where (λ c. ltb c 0) t k ≡ 0
unfolding rows_where
where-none t zero = refl
where-none t (suc k) = rw (where-none t k, le-ltb (column t k 0) 0 (omega arith))

module _ (t : List ℕ) (total : ℕ) (f : ℕ → ℕ → Name) where
  abbrev many : ℕ → ℕ
  many m = (wire_range t total m).count

  -- a module's first row is behind the indexes of the modules before it
  pub first-row : (m : ℕ) → (wire_range t total m).first ≡ length (indexes_up f many m)
  unfolding wire_range indexes_up
  first-row zero = where-none t total
  first-row (suc m) =
      where_next t m total
      ∙ omega (arith, first-row m, length-append (indexes_up f many m) (index_up (f m) (many m) 0), length-index (f m) (many m) 0)

  pub rows_inside : (m : ℕ) → (wire_range t total m).first + (wire_range t total m).count ≤ total
  unfolding wire_range
  rows_inside m = omega (arith, where_next t m total, where-le (λ c. ltb c (suc m)) t total)

  -- BUILDING
  pub indexes-more :
      (d l l' : List ℕ) (m : ℕ) → l ≡ store d 0 (indexes_up f many m) → l' ≡ store l (wire_range t total m).first (index_up (f m) (many m) 0) →
      l' ≡ store d 0 (indexes_up f many (m + 1))
  unfolding indexes_up
  indexes-more d l l' m e e' = rw add-one (store_then d l l' 0 (wire_range t total m).first (indexes_up f many m) (index_up (f m) (many m) 0) e (omega (arith, first-row m)) e')

  -- TELLING: b tells whether a module's part is its index
  pub told-all : (l : List ℕ) (m modules : ℕ) → m ≤ modules → modules ≤ m → take (length (indexes_up f many m)) l ≡ indexes_up f many m → true ≡ same (take (length (indexes_up f many modules)) l) (indexes_up f many modules)
  told-all l m modules h k e =
      let z : m ≡ modules = omega (arith, h, k) in
      sym (ap (λ (x : List ℕ). same x (indexes_up f many modules)) (rw z at e) ∙ same_refl (indexes_up f many modules))

  module _ (l : List ℕ) (m : ℕ) (b : Bool) (eb : b ≡ same (take ((wire_range t total m).first + (wire_range t total m).count - (wire_range t total m).first) (drop (wire_range t total m).first l)) (index_up (f m) (many m) 0)) where
    part-told : b ≡ same (take (many m) (drop (length (indexes_up f many m)) l)) (index_up (f m) (many m) 0)
    part-told =
        let z : (wire_range t total m).first + (wire_range t total m).count - (wire_range t total m).first ≡ many m = omega arith in
        eb ∙ rw (z, first-row m)

    pub told_more : b ≡ true → take (length (indexes_up f many m)) l ≡ indexes_up f many m → take (length (indexes_up f many (m + 1))) l ≡ indexes_up f many (m + 1)
    unfolding indexes_up
    told_more e h =
        let xs : List ℕ = index_up (f m) (many m) 0 in
        let q : take (many m) (drop (length (indexes_up f many m)) l) ≡ xs = same-eq _ xs (sym part-told ∙ e) in
        let z : length (indexes_up f many m ++ xs) ≡ length (indexes_up f many m) + many m = length-append (indexes_up f many m) xs ∙ ap (λ (k : ℕ). length (indexes_up f many m) + k) (length-index (f m) (many m) 0) in
        rw add-one (ap (λ (k : ℕ). take k l) z ∙ take-add (length (indexes_up f many m)) (many m) l ∙ rw (h, q))

    pub told-not : (modules : ℕ) → m < modules → b ≡ false → false ≡ same (take (length (indexes_up f many modules)) l) (indexes_up f many modules)
    told-not modules h e =
        by-test (same (take (length (indexes_up f many modules)) l) (indexes_up f many modules))
        (λ q.
        let p : take (many m) (drop (length (indexes_up f many m)) l) ≡ index_up (f m) (many m) 0 = index-part f many modules m h l (same-eq _ _ q) in
        never b (part-told ∙ ap (λ (x : List ℕ). same x (index_up (f m) (many m) 0)) p ∙ same_refl (index_up (f m) (many m) 0)) e)
        (λ q. sym q)

-- THE SAME BY THE TABLES: x is module m as code holds it
module _ (names wires rows : List ℕ) (p : Place) (standing m : ℕ) (x : Module) (ex : x ≡ module_at wires p standing m) where
  abbrev name_of : ℕ → ℕ → Name
  name_of m = name_in names wires rows (module_at wires p standing m)

  pub module-apart : NamesApart names wires rows p standing → m < p.modules → Apart (up (name_in names wires rows x) x.wires 0)
  module-apart a h = rw ex (a m h)

  module _ (l : List ℕ) (room : p.wires ≤ length l) where
    pub module-fits : x.first + x.wires ≤ length l
    module-fits = rw ex (omega (arith, room, rows_inside wires p.wires name_of m))

    pub part-long : length (take (x.first + x.wires - x.first) (drop x.first l)) ≡ x.wires
    part-long =
        let z : x.first + x.wires - x.first ≡ x.wires = omega arith in
        ap (λ (n : ℕ). length (take n (drop x.first l))) z ∙ length_part l x.first x.wires module-fits

  pub module-built :
      (d l l' : List ℕ) → l ≡ store d 0 (indexes_in names wires rows p standing m) → l' ≡ store l x.first (index_up (name_in names wires rows x) x.wires 0) →
      l' ≡ store d 0 (indexes_in names wires rows p standing (m + 1))
  module-built d l l' e e' = indexes-more wires p.wires name_of d l l' m e (rw ex at e')

  module _ (l : List ℕ) (b : Bool) (eb : b ≡ same (take (x.first + x.wires - x.first) (drop x.first l)) (index_up (name_in names wires rows x) x.wires 0)) where
    pub module-told : b ≡ true → take (length (indexes_in names wires rows p standing m)) l ≡ indexes_in names wires rows p standing m → take (length (indexes_in names wires rows p standing (m + 1))) l ≡ indexes_in names wires rows p standing (m + 1)
    module-told = told_more wires p.wires name_of l m b (rw ex at eb)

    pub module-not : m < p.modules → b ≡ false → false ≡ same (take (length (indexes_in names wires rows p standing p.modules)) l) (indexes_in names wires rows p standing p.modules)
    module-not = told-not wires p.wires name_of l m b (rw ex at eb) p.modules

pub built-all :
    (names wires rows : List ℕ) (p : Place) (standing : ℕ) (d l : List ℕ) (m : ℕ) → m ≤ p.modules → p.modules ≤ m → l ≡ store d 0 (indexes_in names wires rows p standing m) →
    l ≡ store d 0 (indexes_in names wires rows p standing p.modules)
built-all names wires rows p standing d l m h k e = let z : m ≡ p.modules = omega (arith, h, k) in rw z at e

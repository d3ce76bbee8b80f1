-- The search for a name now along the chain of its hash, and that a rename's number is the one by the tables whichever search told whether it is taken.
-- Assumes nothing.
use Prim.Native.Nat.{ℕ, zero, suc, ◌+◌, ◌-◌, ◌<◌, ◌≤◌}
use mathlib.Core.Path.{◌≡◌, refl, sym, ap, ◌∙◌}
use mathlib.Core.List.{List}
use mathlib.Core.Bool.{Bool, true, false, ◌&&◌, ◌||◌, or-true, and-false}
use native.Mathlib.Omega.{arith}
use lib.Dec.{eqb, leb, ltb}
use lib.ListN.{get_or}
use borrow.Author.Tests.{leb-true, leb-false, eqb-true, eqb-false}
use Rattle.rules.specs.Bytes.{same, any}
use Rattle.rules.specs.Tokens.{Name}
use Rattle.rules.specs.Statements.{code}
use Rattle.lists.specs.Tests.{by-test, by_order, never}
use Rattle.lists.specs.Bytes.{same-eq}
use Rattle.lists.specs.Elements.{any-chosen}
use Rattle.wires.specs.Rows.{name_of, span_at}
use Rattle.context.specs.declared.place.Place.{Place}
use Rattle.netlist.specs.Rows.{kind_at, name_at, names_between}
use Rattle.netlist.specs.Kinds.{is_kind, of_kinds, has_name}
use Rattle.name_index.specs.Index.{hash_of, wire_key, Named, Indexed}
use Rattle.name_index.specs.IndexLaws.{Walk, walk_first, walk-falls, walk-on}
use Rattle.name_index.specs.HashLaws.{hash-less}
use Rattle.modules.specs.Ranges.{wire_range, row_range, line_of}
use Rattle.modules.specs.RangeLaws.{where-le, where_next, line-le}
use Rattle.wire_names.specs.Now.{wires_in, wires_now}
use Rattle.wire_names.specs.declared.Module.{Module}
use Rattle.rename_rules.specs.Search.{Renamed, is_found, keeps_name, row_keeps}
use Rattle.rename_rules.specs.Judged.{object_taken, name_taken, module_by, ModuleIndexed, number_by, judged}
use Rattle.rename_rules.proofs.SearchLaws.{taken, taken_more, found-on}
use Rattle.rename_rules.proofs.RenamedLaws.{now-same, search-renamed}

-- MEMORIES AND CELLS: a name that no row has, no part of the rows has
module _ (names rows : List ℕ) (test : ℕ → Bool) (n : Name) where
  abbrev Taken : (from count : ℕ) → Bool
  Taken from count = any (same n) (names_between names rows test from count)

  abbrev has : ℕ → Bool
  has k = test (kind_at rows k) && same n (name_at names rows k)

  turn : (from k : ℕ) → Taken from (suc k) ≡ has (from + k) || Taken from k
  unfolding names_between
  turn from k = any-chosen (same n) (test (kind_at rows (from + k))) (name_at names rows (from + k)) (names_between names rows test from k)

  row-taken : (j total : ℕ) → j < total → has j ≡ true → Taken 0 total ≡ true
  row-taken j zero q e = absurd (omega arith)
  row-taken j (suc k) q e =
      by_order k j
      (λ w. let z : 0 + k ≡ j = omega arith in turn 0 k ∙ rw (z, e))
      (λ w. turn 0 k ∙ rw (row-taken j k w e) (or-true (has (0 + k))))

  part_free : (from count total : ℕ) → from + count ≤ total → Taken 0 total ≡ false → Taken from count ≡ false
  unfolding names_between any
  part_free from zero total q e = refl
  part_free from (suc k) total q e =
      by-test (has (from + k))
      (λ h. never (Taken 0 total) (row-taken (from + k) total (omega arith) h) e)
      (λ h. turn from k ∙ rw (h, part_free from k total (omega arith) e))

range_inside : (rows : List ℕ) (total m : ℕ) → (row_range rows total m).first + (row_range rows total m).count ≤ total
unfolding row_range
range_inside rows total m =
    by-test (eqb (line_of rows total m) total)
    (λ e. rw e (omega (arith, line-le rows total (suc m))))
    (λ e. rw e (omega (arith, line-le rows total (suc m), line-le rows total m, eqb-false (line_of rows total m) total e)))

pub object-free :
    (names rows : List ℕ) (total m : ℕ) (n : Name) (b : Bool) →
    b ≡ any (same n) (names_between names rows (is_kind (record { a = 6; b = 7; c = 11; d = 11 })) 0 total) → b ≡ false → object_taken names rows total m n ≡ false
unfolding object_taken code
object-free names rows total m n b eb e =
    part_free names rows (is_kind (record { a = 6; b = 7; c = 11; d = 11 })) n _ _ total (range_inside rows total m) (sym eb ∙ e)

pub objects-named : (rows : List ℕ) (from count : ℕ) → Named rows (is_kind (record { a = 6; b = 7; c = 11; d = 11 })) from count
unfolding is_kind has_name of_kinds any code
objects-named rows from count k q r e =
    by-test (eqb 6 (kind_at rows k)) (λ t. rw (← eqb-true 6 (kind_at rows k) t))
    (λ t. by-test (eqb 7 (kind_at rows k)) (λ u. rw (← eqb-true 7 (kind_at rows k) u))
    (λ u. by-test (eqb 11 (kind_at rows k)) (λ v. rw (← eqb-true 11 (kind_at rows k) v)) (λ v. never false (rw (t, u, v) at e) refl)))

-- WIRES
pub inside-by : (wires : List ℕ) (p : Place) (standing m : ℕ) → (module_by wires p standing m).first + (module_by wires p standing m).wires ≤ p.wires
unfolding wire_range
inside-by wires p standing m = omega (arith, where_next wires m p.wires, where-le (λ c. ltb c (suc m)) wires p.wires)

module _ (names wires rows : List ℕ) (m : Module) (n : Name) where
  pub renamed-taken : (r : ℕ) → Renamed names rows m n m.renames r → r < m.wires → any (λ x. same n x.0) (wires_in names wires rows m) ≡ true
  unfolding wires_in is_found
  renamed-taken r x q =
      let e : r + (m.wires - r) ≡ m.wires = omega arith in
      ap (taken names wires rows m n) (sym e)
      ∙ found-on names wires rows m n (m.wires - r) r
      ∙ rw (search-renamed names wires rows m n r q r refl x) (or-true (taken names wires rows m n r))

  -- the wires of the module below a row
  abbrev reach : ℕ → Bool
  reach j = taken names wires rows m n (j - m.first - (j - (m.first + m.wires)))

  abbrev pub KeptWalk : (total at : ℕ) → Type 0
  KeptWalk total at = Walk (wire_key names wires) (hash_of n) reach total at

  module _ (x : Renamed names rows m n m.renames m.wires) where
    reach-turn : (k : ℕ) → m.first ≤ k → reach (suc k) ≡ row_keeps names wires rows m n k || reach k
    unfolding row_keeps
    reach-turn k w =
        let j : ℕ = k - m.first in
        by-test (leb m.wires (k - m.first))
        (λ e.
        let b : m.wires ≤ k - m.first = leb-true _ _ e in
        let z : suc k - m.first - (suc k - (m.first + m.wires)) ≡ k - m.first - (k - (m.first + m.wires)) = omega arith in
        rw (e, z))
        (λ e.
        let b : k - m.first < m.wires = leb-false _ _ e in
        let z : suc k - m.first - (suc k - (m.first + m.wires)) ≡ k - m.first + 1 = omega arith in
        let y : k - m.first - (k - (m.first + m.wires)) ≡ k - m.first = omega arith in
        rw (e, z, y) (taken_more names wires rows m n (k - m.first) ∙ ap (λ (c : Bool). c || taken names wires rows m n (k - m.first)) (now-same names wires rows m n (k - m.first) x b)))

    unkept : (k : ℕ) → (wire_key names wires k ≡ hash_of n → ⊥) → m.first ≤ k → row_keeps names wires rows m n k ≡ false
    unfolding row_keeps keeps_name wire_key name_of
    unkept k e w =
        let z : m.first + (k - m.first) ≡ k = omega arith in
        by-test (same (span_at names wires k 1) n)
        (λ u. absurd (e (ap hash_of (same-eq (span_at names wires k 1) n u))))
        (λ u. rw (z, u, and-false))

    reach-other : (k : ℕ) → (wire_key names wires k ≡ hash_of n → ⊥) → reach (suc k) ≡ reach k
    reach-other k e =
        by_order m.first k
        (λ w. reach-turn k w ∙ rw (unkept k e w))
        (λ w. let z : suc k - m.first - (suc k - (m.first + m.wires)) ≡ k - m.first - (k - (m.first + m.wires)) = omega arith in rw z)

    module _ (heads chain : List ℕ) (q : ModuleIndexed heads chain names wires m) where
      abbrev Any : Bool
      Any = any (λ x. same n x.0) (wires_in names wires rows m)

      all-wires : reach q.total ≡ Any
      unfolding wires_in
      all-wires = let z : q.total - m.first - (q.total - (m.first + m.wires)) ≡ m.wires = omega (arith, q.inside) in rw z

      pub kept-first : (h : ℕ) → h ≡ hash_of n → KeptWalk q.total (get_or heads h 0)
      kept-first h e = rw e (walk_first _ _ _ _ (λ k p. reach-other k) heads chain q.indexed (omega (arith, hash-less n)))

      module _ (at : ℕ) (w : KeptWalk q.total at) where
        pub kept-end : at ≤ m.first → Any ≡ false
        unfolding any wires_now
        kept-end p = let z : at - m.first - (at - (m.first + m.wires)) ≡ 0 = omega arith in sym all-wires ∙ w.rest ∙ rw z

        module _ (p : m.first < at) where
          pub kept_less : get_or chain (at - 1) 0 < at
          kept_less = walk-falls _ _ _ _ (λ k p. reach-other k) heads chain q.indexed at w (omega arith)

          -- b: whether the row's wire has the name
          module _ (b : Bool) (eb : b ≡ row_keeps names wires rows m n (at - 1)) where
            here : reach at ≡ b || reach (at - 1)
            here = let e : at ≡ suc (at - 1) = omega arith in ap reach e ∙ reach-turn (at - 1) (omega arith) ∙ rw eb

            pub kept-found : b ≡ true → Any ≡ true
            kept-found e = sym all-wires ∙ w.rest ∙ here ∙ rw e

            pub kept_next : b ≡ false → KeptWalk q.total (get_or chain (at - 1) 0)
            kept_next e = walk-on _ _ _ _ (λ k p. reach-other k) heads chain q.indexed at w (omega arith) (here ∙ rw e)

-- THE NUMBER
module _ (names wires rows : List ℕ) (p : Place) (standing m : ℕ) (own : Module) (eo : own ≡ module_by wires p standing m) where
  pub module-indexed : {heads chain : List ℕ} → Indexed heads chain (wire_key names wires) p.wires → ModuleIndexed heads chain names wires own
  module-indexed x = rw eo (record { total = p.wires; indexed = x; inside = inside-by wires p standing m })

  pub number-judged :
      (room w : ℕ) (n : Name) (t : Bool) → t ≡ name_taken names wires rows own n →
      number_by wires own room w n t ≡ judged names wires rows p standing room m w n
  unfolding number_by judged
  number-judged room w n t e =
      ap (number_by wires own room w n) e ∙ ap (λ (x : Module). number_by wires x room w n (name_taken names wires rows x n)) eo

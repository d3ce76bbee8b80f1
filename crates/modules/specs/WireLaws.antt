-- A module's range in the table of wires holds its wires.
-- Assumes nothing.
use Prim.Native.Nat.{ℕ, suc, ◌+◌, ◌-◌, ◌≤◌, ◌<◌}
use Rattle.std.specs.Prelude.{◌≡◌, Bool, true, false, cond, ◌&&◌, length}
use Rattle.std.proofs.Math.Path.{refl, ap, ap₂}
use Rattle.std.proofs.Common.{sym, ◌∙◌, true≢false, eq-eqb, ne_eqb, lt-ltb, le-ltb}
use mathlib.Core.List.{List, [], ◌∷◌, ◌++◌, map, flat_map, zip, zip_with, reverse, reverse-append, reverse-reverse}
use native.Mathlib.Omega.{arith}
use Rattle.std.proofs.Math.Dec.{eqb, ltb}
use Rattle.std.proofs.lemmas.List.{length-reverse}
use Rattle.rules.specs.Bytes.{any}
use Rattle.rules.specs.Tokens.{Name}
use Rattle.rules.specs.Statements.{Statement, Wire, wire-stmt, a_module, a_wire, code, contents, is, statements_open}
use Rattle.rules.specs.Signals.{Wires}
use Rattle.rules.specs.Judgement.{Past, sum, among, count, of_module, wires}
use Rattle.rules.specs.Design.{design}
use Rattle.rules.specs.Session.{wires_at}
use Rattle.rules.specs.Layout.{used, padded, row, wire_row}
use Rattle.context.specs.Forms.{by_form, by-wire, is-other}
use Rattle.wires.specs.Rows.{column, wires_from}
use Rattle.lists.specs.Tests.{by-test, by_order}
use Rattle.lists.specs.Lists.{flat_map-back, keeps-behind}
use Rattle.lists.specs.Sums.{sum-append}
use Rattle.context.specs.Place.{wires_in, place_of}
use Rattle.context.specs.Offsets.{Offsets, more-offsets}
use Rattle.netlist.specs.Laid.{rooms_of, Wired}
use Rattle.netlist.specs.WireLaws.{eights-wires, wired-put, wired-row, wires-laid}
use Rattle.netlist.specs.UsedLaws.{used-wires, used-modules}
use Rattle.modules.specs.Modules.{statements_of, wires_of, module_count, up_to, Headed, none-headed, one-headed}
use Rattle.modules.specs.DesignLaws.{pairs-at}
use Rattle.modules.specs.PastLaws.{module-counts, other-counts, count-step, module-first, module-more, none_below, module-past, no-module, up-to-by, up-to-all, up-to-holds}
use Rattle.modules.specs.Ranges.{rows_where, wire_range}
use Rattle.modules.specs.RangeLaws.{where_next}

-- A WIRE'S ROW HOLDS ITS MODULE
module _ {names t : List ℕ} where
  pub wired-before : (s : Statement) (ss : Past) → Wired (rooms_of (s ∷ ss)) names t → Wired (rooms_of ss) names t
  unfolding rooms_of
  wired-before s ss l = wired-put (rooms_of ss) s l

  last-module : (w : Wire) (n : Name) (ss : Past) → Wired (rooms_of (wire-stmt w n ∷ ss)) names t → column t (wires_in ss) 0 ≡ module_count ss - 1
  unfolding rooms_of wire_row row padded used
  last-module w n ss l =
      ap (λ (k : ℕ). column t k 0) (sym (used-wires ss))
      ∙ wired-row (rooms_of ss) w n l (eights-wires ss) 0 (omega arith)
      ∙ ap (λ (k : ℕ). k - 1) (used-modules ss)

-- WHAT A STATEMENT ADDS to the wires
pub data Adds : Statement → Type 0 where
  a-wire : (w : Wire) (n : Name) → Adds (wire-stmt w n)
  no-wire : {s : Statement} → is a_wire s ≡ false → (contents s).wires ≡ [] → Adds s

pub adds : (s : Statement) → Adds s
adds = by-wire Adds a-wire (λ s. no-wire)

pub wires-more : (s : Statement) (ss : Past) → wires_in (s ∷ ss) ≡ wires_in ss + cond (is a_wire s) 1 0
unfolding wires_in sum count among any
wires-more s ss = by-test (is a_wire s) (λ e. rw e (omega arith)) (λ e. rw e (omega arith))

module _ {names t : List ℕ} (f : ℕ → Bool) where
  where-step :
      (s : Statement) (ss : Past) → Adds s → Wired (rooms_of (s ∷ ss)) names t →
      rows_where f t (wires_in (s ∷ ss)) ≡ rows_where f t (wires_in ss) + cond (is a_wire s && f (module_count ss - 1)) 1 0
  unfolding rows_where statements_open
  where-step s ss (a-wire w n) l =
      let e : wires_in (wire-stmt w n ∷ ss) ≡ suc (wires_in ss) = omega (arith, wires-more (wire-stmt w n) ss) in
      rw (e, last-module w n ss l)
  where-step s ss (no-wire h z) l =
      let e : wires_in (s ∷ ss) ≡ wires_in ss = omega (arith, rw h at (wires-more s ss)) in
      rw (e, h) (omega arith)

  -- a wire that doesn't pass the test, or a statement that is no wire, adds no row
  where-same :
      (s : Statement) (ss : Past) → Wired (rooms_of (s ∷ ss)) names t → (is a_wire s ≡ true → is a_module s ≡ false → f (module_count ss - 1) ≡ false) →
      rows_where f t (wires_in (s ∷ ss)) ≡ rows_where f t (wires_in ss)
  unfolding code
  where-same s ss l h =
      by-test (is a_wire s)
      (λ e. where-step s ss (adds s) l ∙ rw (e, h e (is-other a_wire a_module s refl e)) (omega arith))
      (λ e. where-step s ss (adds s) l ∙ rw e (omega arith))

  -- a wire that passes it adds one, as it adds a wire
  where-one :
      (s : Statement) (ss : Past) → Wired (rooms_of (s ∷ ss)) names t → f (module_count ss - 1) ≡ true →
      rows_where f t (wires_in (s ∷ ss)) ≡ rows_where f t (wires_in ss) + cond (is a_wire s) 1 0
  where-one s ss l h = where-step s ss (adds s) l ∙ by-test (is a_wire s) (λ e. rw (e, h)) (λ e. rw e)

where-none : (f : ℕ → Bool) (t : List ℕ) → rows_where f t (wires_in []) ≡ 0
unfolding rows_where wires_in sum
where-none f t = refl

pub none-wires : wires_in [] ≡ 0
unfolding wires_in sum
none-wires = refl

none-up-to : (m : ℕ) → up_to m [] ≡ []
unfolding up_to
none-up-to m = refl

module _ {names t : List ℕ} (m : ℕ) where
  -- the wires up to a module's end
  below-laid : (ss : Past) → Wired (rooms_of ss) names t → rows_where (λ c. ltb c (suc m)) t (wires_in ss) ≡ wires_in (up_to m ss)
  below-laid [] l = rw (none-up-to m) (where-none (λ c. ltb c (suc m)) t ∙ sym none-wires)
  below-laid (s ∷ ss) l =
      let i : rows_where (λ c. ltb c (suc m)) t (wires_in ss) ≡ wires_in (up_to m ss) = below-laid ss (wired-before s ss l) in
      up-to-by (λ qs. rows_where (λ c. ltb c (suc m)) t (wires_in (s ∷ ss)) ≡ wires_in qs) m s ss
      (λ b.
      let j : rows_where (λ c. ltb c (suc m)) t (wires_in ss) ≡ wires_in ss = rw (up-to-all m ss (omega (arith, count-step s ss))) at i in
      where-one (λ c. ltb c (suc m)) s ss l (lt-ltb (module_count ss - 1) (suc m) (omega (arith, count-step s ss))) ∙ (omega (arith, wires-more s ss)))
      (λ b. where-same (λ c. ltb c (suc m)) s ss l (λ w q. le-ltb (module_count ss - 1) (suc m) (omega (arith, other-counts s ss q))) ∙ i)

  -- the wires of a module that there isn't yet, and of one that there is
  none-laid : (ss : Past) → Headed ss → Wired (rooms_of ss) names t → module_count ss ≤ m → rows_where (λ c. eqb c m) t (wires_in ss) ≡ 0
  none-laid [] none-headed l h = where-none (λ c. eqb c m) t
  none-laid (s ∷ ss) (one-headed p q) l h =
      where-same (λ c. eqb c m) s ss l
      (λ w n. ne_eqb (module_count ss - 1) m (λ e. omega (arith, other-counts s ss n, p w)))
      ∙ none-laid ss q (wired-before s ss l) (omega (arith, count-step s ss))

  own-laid : (ss : Past) → Headed ss → Wired (rooms_of ss) names t → m < module_count ss → rows_where (λ c. eqb c m) t (wires_in ss) ≡ wires_in (of_module (up_to m ss))
  own-laid [] none-headed l h = none_below h
  own-laid (s ∷ ss) (one-headed p q) l h =
      let l' = wired-before s ss l in
      up-to-by (λ qs. rows_where (λ c. eqb c m) t (wires_in (s ∷ ss)) ≡ wires_in (of_module qs)) m s ss
      (λ b. by-test (is a_module s)
      (λ f.
      let c : module_count (s ∷ ss) ≡ suc (module_count ss) = module-counts s ss f in
      rw (module-first s ss f)
      (where-same (λ c. eqb c m) s ss l (λ w n. absurd (true≢false (sym f ∙ n))) ∙ none-laid ss q l' (omega arith) ∙ sym none-wires))
      (λ f.
      let c : module_count (s ∷ ss) ≡ module_count ss = other-counts s ss f in
      let i : rows_where (λ c. eqb c m) t (wires_in ss) ≡ wires_in (of_module (up_to m ss)) = own-laid ss q l' (omega arith) in
      let j : rows_where (λ c. eqb c m) t (wires_in ss) ≡ wires_in (of_module ss) = rw (up-to-all m ss (omega arith)) at i in
      rw (module-more s ss f)
      (where-one (λ c. eqb c m) s ss l (eq-eqb (module_count ss - 1) m (omega arith)) ∙ (omega (arith, wires-more s (of_module ss))))))
      (λ b.
      where-same (λ c. eqb c m) s ss l (λ w n. ne_eqb (module_count ss - 1) m (λ d. omega (arith, other-counts s ss n)))
      ∙ own-laid ss q l' (omega (arith, count-step s ss)))

offsets-before : (s : Statement) (ss : Past) → Offsets (s ∷ ss) → Offsets ss
offsets-before s ss (more-offsets h o) = o

-- wires from the end
zip-back : (s : Statement) → reverse (zip (contents s).names (contents s).wires) ≡ zip (contents s).names (contents s).wires
unfolding zip zip_with statements_open
zip-back = by_form _ (λ i. refl) (λ n c. refl) (λ n. refl) (λ n c. refl) (λ w n. refl) (λ m n. refl) (λ t n. refl) (λ o n c. refl) (λ n x. refl) (λ x y. refl) (λ n. refl) (λ p xs. refl) refl

pub wires-back : (qs : List Statement) → reverse (wires_of qs) ≡ wires_of (reverse qs)
unfolding flat_map
wires-back [] = refl
wires-back (s ∷ qs) =
    let f : Statement → Wires = λ s. zip (contents s).names (contents s).wires in
    reverse-append (f s) (flat_map f qs) ∙ ap₂ ◌++◌ (wires-back qs) (zip-back s) ∙ sym (flat_map-back f s qs)

pub length-wires-back : (qs : List Statement) → length (wires_of (reverse qs)) ≡ length (wires_of qs)
length-wires-back qs = ap length (sym (wires-back qs)) ∙ length-reverse (wires_of qs)

-- THE RANGE OF A MODULE'S WIRES
module _ {names t : List ℕ} (m : ℕ) (ss : Past) (headed : Headed ss) (l : Wired (rooms_of ss) names t) where
  pub wire-range-there : m < module_count ss → let r = wire_range t (wires_in ss) m in (r.first + r.count ≡ wires_in (up_to m ss)) × (r.count ≡ wires_in (of_module (up_to m ss)))
  unfolding wire_range
  wire-range-there h = (sym (where_next t m (wires_in ss)) ∙ below-laid m ss l, own-laid m ss headed l h)

  pub wire-range-none : module_count ss ≤ m → (wire_range t (wires_in ss) m).count ≡ 0
  unfolding wire_range
  wire-range-none h = none-laid m ss headed l h

  pub wires-range : Offsets ss → let r = wire_range t (wires_in ss) m in wires_from names t r.first r.count ≡ wires_of (reverse (statements_of m (reverse ss)))
  unfolding place_of wires wires_from flat_map
  wires-range o =
      let r = wire_range t (wires_in ss) m in
      by_order (module_count ss) m
      (λ b. ap (wires_from names t r.first) (wire-range-none b) ∙ ap (λ (qs : List Statement). wires_of (reverse qs)) (sym (no-module ss m b)))
      (λ b.
      let q : Past = up_to m ss in
      let p = wire-range-there b in
      let first : r.first ≡ wires_in q - wires_in (of_module q) = omega arith in
      let count : r.count ≡ wires_in q - (wires_in q - wires_in (of_module q)) = omega arith in
      ap₂ (wires_from names t) first count
      ∙ wires-laid names t q (up-to-holds Offsets offsets-before m ss o) (up-to-holds (λ qs. Wired (rooms_of qs) names t) wired-before m ss l)
      ∙ ap wires_of (sym (reverse-reverse (of_module q)) ∙ ap reverse (sym (module-past ss m b))))

  -- in the order of the file they are the module's of the design
  pub pairs-range : Offsets ss → let r = wire_range t (wires_in ss) m in reverse (wires_from names t r.first r.count) ≡ wires_of (statements_of m (reverse ss))
  pairs-range o =
      ap reverse (wires-range o) ∙ wires-back (reverse (statements_of m (reverse ss))) ∙ ap wires_of (reverse-reverse (statements_of m (reverse ss)))

  pub design-range : Offsets ss → let r = wire_range t (wires_in ss) m in reverse (wires_from names t r.first r.count) ≡ map (λ o. (o.name, o.body)) (wires_at (design (reverse ss)) m)
  design-range o = pairs-range o ∙ sym (pairs-at (reverse ss) m)

headed-before : (s : Statement) (ss : Past) → Headed (s ∷ ss) → Headed ss
headed-before s ss (one-headed p q) = q

-- the wires before a module's own, as they stood in it and as they stand at the end
module _ {names t : List ℕ} (m : ℕ) (before : Past) (h : m < module_count before) where
  first-behind : (xs : Past) → Wired (rooms_of (xs ++ before)) names t → rows_where (λ c. ltb c m) t (wires_in (xs ++ before)) ≡ rows_where (λ c. ltb c m) t (wires_in before)
  first-behind [] l = refl
  first-behind (x ∷ xs) l =
      where-same (λ c. ltb c m) x (xs ++ before) l (λ w q. le-ltb (module_count (xs ++ before) - 1) m (omega (arith, sum-append (count (a_module ∷ [])) xs before)))
      ∙ first-behind xs (wired-before x (xs ++ before) l)

  -- so the next wire's row is its number in the module behind the first of the range
  pub range-number :
      module_count before ≡ suc m → (xs : Past) → Headed (xs ++ before) → Wired (rooms_of (xs ++ before)) names t →
      wires_in before ≡ (wire_range t (wires_in (xs ++ before)) m).first + wires_in (of_module before)
  unfolding wire_range
  range-number e xs q l =
      let b = keeps-behind (λ qs. Wired (rooms_of qs) names t) wired-before xs before l in
      let a : up_to m before ≡ before = up-to-all m before (omega arith) in
      let whole : rows_where (λ c. ltb c (suc m)) t (wires_in before) ≡ wires_in before = rw a at (below-laid m before b) in
      let own : rows_where (λ c. eqb c m) t (wires_in before) ≡ wires_in (of_module before) = rw a at (own-laid m before (keeps-behind Headed headed-before xs before q) b h) in
      omega (arith, where_next t m (wires_in before), first-behind xs l)

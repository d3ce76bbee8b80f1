-- The place of a name among names in order is one, and put there it keeps the order.
-- Assumes nothing.
use Prim.Native.Nat.{ℕ, zero, suc, ◌+◌, ◌-◌, ◌≤◌, ◌<◌}
use Rattle.std.specs.Prelude.{◌≡◌, true, false, eqb}
use Rattle.std.proofs.Math.Path.{refl, sym, ap, ap₂}
use Rattle.std.proofs.Common.{◌∙◌, take-append-drop, eqb-true}
use mathlib.Core.List.{List, [], ◌∷◌, ◌++◌, map, flat_map, append-nil, append_assoc}
use Rattle.std.proofs.Math.Option.{Option-elim}
use native.Mathlib.Omega.{arith}
use Rattle.std.proofs.Math.ListN.{length, get_or, get_elem?, take, drop}
use Rattle.std.proofs.Math.Seq.{take_at, drop-append_seam}
use Rattle.std.proofs.lemmas.Bool.{eqb-false}
use Rattle.rules.specs.Tokens.{Name}
use Rattle.rules.specs.Statements.{Wire}
use Rattle.rules.specs.Design.{Object, Module, Design}
use Rattle.rules.specs.Session.{wires_at}
use Rattle.rules.specs.Sorted.{before, placed, in_order, order_of, orders}
use Rattle.lists.specs.Tests.{by-test, never}
use Rattle.lists.specs.Lists.{up}
use Rattle.lists.specs.Elements.{Each}
use Rattle.byte_order.specs.Order.{Ordered, Halved, place, order_up, index_up, indexes_up}
use Rattle.byte_order.specs.BeforeLaws.{before-not-back, not-before}

module _ (n : Name) where
  pub place-le : (ms : List Name) → place n ms ≤ length ms
  unfolding place
  place-le [] = omega arith
  place-le (m ∷ ms) = by-test (before m n) (λ e. rw e (omega (arith, place-le ms))) (λ e. rw e (omega arith))

  -- THE PLACE IS ONE: names before it come before n, names from it on do not
  pub place-one :
      (ms : List Name) (k : ℕ) → k ≤ length ms → ((j : ℕ) → j < k → before (get_or ms j []) n ≡ true) → ((j : ℕ) → k ≤ j → j < length ms → before (get_or ms j []) n ≡ false) →
      k ≡ place n ms
  unfolding place
  place-one [] zero h low high = refl
  place-one [] (suc k) h low high = absurd (omega (arith, h))
  place-one (m ∷ ms) zero h low high = rw (high 0 (omega arith) (omega arith))
  place-one (m ∷ ms) (suc k) h low high =
      rw (low 0 (omega arith)) (ap suc (place-one ms k (omega (arith, h)) (λ j q. low (suc j) (omega (arith, q))) (λ j q r. high (suc j) (omega (arith, q)) (omega (arith, r)))))

-- the halves of a list in order: what comes before n does so with all in front of it; what doesn't, with all behind it
each-get_or : (P : Name → Type 0) (ms : List Name) (j : ℕ) → Each P ms → j < length ms → P (get_or ms j [])
each-get_or P [] j e h = absurd (omega (arith, h))
each-get_or P (m ∷ ms) zero e h = e.0
each-get_or P (m ∷ ms) (suc j) e h = each-get_or P ms j e.1 (omega (arith, h))

ordered_at : (ms : List Name) (i j : ℕ) → Ordered ms → i < j → j < length ms → before (get_or ms j []) (get_or ms i []) ≡ false
ordered_at [] i j o h k = absurd (omega (arith, k))
ordered_at (m ∷ ms) zero zero o h k = absurd (omega (arith, h))
ordered_at (m ∷ ms) zero (suc j) o h k = each-get_or (λ x. before x m ≡ false) ms j o.0 (omega (arith, k))
ordered_at (m ∷ ms) (suc i) zero o h k = absurd (omega (arith, h))
ordered_at (m ∷ ms) (suc i) (suc j) o h k = ordered_at ms i j o.1 (omega (arith, h)) (omega (arith, k))

module _ (n : Name) (ms : List Name) (o : Ordered ms) where
  pub back-not : (i j : ℕ) → i ≤ j → j < length ms → before (get_or ms i []) n ≡ false → before (get_or ms j []) n ≡ false
  back-not i j h k e =
      by-test (eqb i j) (λ q. rw (← eqb-true i j q) e)
      (λ q. not-before n (get_or ms i []) (get_or ms j []) e (ordered_at ms i j o (omega (arith, h, eqb-false i j q)) k))

  pub front-before : (i j : ℕ) → i ≤ j → j < length ms → before (get_or ms j []) n ≡ true → before (get_or ms i []) n ≡ true
  front-before i j h k e = by-test (before (get_or ms i []) n) (λ q. q) (λ q. never (before (get_or ms j []) n) e (back-not i j h k q))

-- HALVING
module _ (n : Name) (ms : List Name) where
  pub halved-start : Halved n ms 0 (length ms)
  halved-start = record { lower = omega arith; within = omega arith; front = λ j h. absurd (omega (arith, h)); back = λ j h k. absurd (omega (arith, h, k)) }

  module _ (low high : ℕ) (h : Halved n ms low high) where
    pub halved-end : high ≤ low → low ≡ place n ms
    halved-end e =
        place-one n ms low (omega (arith, h.lower, h.within)) h.front (λ j a b. h.back j (omega (arith, h.lower, a, e)) b)

    module _ (o : Ordered ms) (mid : ℕ) (b : mid < high) where
      pub halved-up : low ≤ mid → before (get_or ms mid []) n ≡ true → Halved n ms (mid + 1) high
      halved-up a e =
          record {
            lower = omega arith;
            within = h.within;
            front = λ j q. front-before n ms o j mid (omega (arith, q)) (omega (arith, b, h.within)) e;
            back = h.back;
          }

      pub halved-down : low ≤ mid → before (get_or ms mid []) n ≡ false → Halved n ms low mid
      halved-down a e =
          record {
            lower = a;
            within = omega (arith, b, h.within);
            front = h.front;
            back = λ j q k. back-not n ms o mid j q k e;
          }

-- PUT AT ITS PLACE it keeps the order
placed-each : (P : Name → Type 0) (i : ℕ) (n : Name) (ys : List (ℕ × Name)) → P n → Each P (map (λ y. y.1) ys) → Each P (map (λ y. y.1) (placed (i, n) ys))
unfolding placed
placed-each P i n [] h k = (h, tt)
placed-each P i n (y ∷ ys) h k = by-test (before y.1 n) (λ e. rw e (k.0, placed-each P i n ys h k.1)) (λ e. rw e (h, k))

each-not : (n m : Name) (ms : List Name) → before m n ≡ false → Each (λ x. before x m ≡ false) ms → Each (λ x. before x n ≡ false) ms
each-not n m [] h k = tt
each-not n m (x ∷ xs) h k = (not-before n m x h k.0, each-not n m xs h k.1)

pub placed-ordered : (i : ℕ) (n : Name) (ys : List (ℕ × Name)) → Ordered (map (λ y. y.1) ys) → Ordered (map (λ y. y.1) (placed (i, n) ys))
unfolding placed
placed-ordered i n [] o = (tt, tt)
placed-ordered i n (y ∷ ys) o =
    by-test (before y.1 n)
    (λ e. rw e (placed-each (λ x. before x y.1 ≡ false) i n ys (before-not-back y.1 n e) o.0, placed-ordered i n ys o.1))
    (λ e. rw e ((e, each-not n y.1 (map (λ y. y.1) ys) e o.0), o))

-- THE SORTED INDEX: its names are in order, each entry's name is its wire's, and it grows by a number put at its name's place
module _ (f : ℕ → Name) where
  pub order-ordered : (many k : ℕ) → Ordered (map (λ y. y.1) (order_up f many k))
  unfolding order_up
  order-ordered zero k = tt
  order-ordered (suc l) k = placed-ordered k (f k) (order_up f l (k + 1)) (order-ordered l (k + 1))

  placed-names : (k : ℕ) (ys : List (ℕ × Name)) → map (λ y. y.1) ys ≡ map f (map (λ y. y.0) ys) → map (λ y. y.1) (placed (k, f k) ys) ≡ map f (map (λ y. y.0) (placed (k, f k) ys))
  unfolding placed
  placed-names k [] e = refl
  placed-names k (y ∷ ys) e =
      by-test (before y.1 (f k))
      (λ q. rw q (ap₂ ◌∷◌ (ap (λ (l : List Name). get_or l 0 []) e) (placed-names k ys (ap (drop 1) e))))
      (λ q. rw q (ap (λ (l : List Name). f k ∷ l) e))

  pub index-names : (many k : ℕ) → map (λ y. y.1) (order_up f many k) ≡ map f (index_up f many k)
  unfolding order_up index_up
  index-names zero k = refl
  index-names (suc l) k = placed-names k (order_up f l (k + 1)) (index-names l (k + 1))

  pub index-ordered : (many k : ℕ) → Ordered (map f (index_up f many k))
  index-ordered many k = rw (← index-names many k) (order-ordered many k)

placed-numbers : (k : ℕ) (n : Name) (ys : List (ℕ × Name)) → map (λ y. y.0) (placed (k, n) ys) ≡ take (place n (map (λ y. y.1) ys)) (map (λ y. y.0) ys) ++ k ∷ drop (place n (map (λ y. y.1) ys)) (map (λ y. y.0) ys)
unfolding placed place
placed-numbers k n [] = refl
placed-numbers k n (y ∷ ys) =
    by-test (before y.1 n) (λ e. rw e (ap (λ (l : List ℕ). y.0 ∷ l) (placed-numbers k n ys))) (λ e. rw e)

module _ (f : ℕ → Name) where
  pub index-more :
      (l k p : ℕ) → p ≡ place (f k) (map f (index_up f l (k + 1))) → index_up f (suc l) k ≡ take p (index_up f l (k + 1)) ++ k ∷ drop p (index_up f l (k + 1))
  unfolding index_up order_up
  index-more l k p e = rw (e, ← index-names f l (k + 1)) (placed-numbers k (f k) (order_up f l (k + 1)))

  pub length-index : (many k : ℕ) → length (index_up f many k) ≡ many
  unfolding index_up order_up placed
  length-index zero k = refl
  length-index (suc l) k = length-placed (k, f k) (order_up f l (k + 1)) ∙ ap suc (length-index l (k + 1))
    where
      length-placed : (x : ℕ × Name) (ys : List (ℕ × Name)) → length (map (λ y. y.0) (placed x ys)) ≡ suc (length (map (λ y. y.0) ys))
      length-placed x [] = refl
      length-placed x (y ∷ ys) = by-test (before y.1 x.1) (λ e. rw e (ap suc (length-placed x ys))) (λ e. rw e)

  -- of wires that have these names it is the rules' index
  pub in-order-up : (ws : List (Object Wire)) (many k : ℕ) → map (λ o. o.name) ws ≡ up f many k → in_order k ws ≡ order_up f many k
  unfolding in_order order_up
  in-order-up [] zero k e = refl
  in-order-up [] (suc l) k e = absurd (omega (arith, ap length e))
  in-order-up (w ∷ ws) zero k e = absurd (omega (arith, ap length e))
  in-order-up (w ∷ ws) (suc l) k e =
      ap₂ placed (ap (λ (l : List Name). (k, get_or l 0 [])) e) (in-order-up ws l (k + 1) (ap (drop 1) e))

  index-by : (m : Module) (many : ℕ) → in_order 0 m.wires ≡ order_up f many 0 → order_of m ≡ index_up f many 0
  unfolding order_of index_up
  index-by m many e = ap (map (λ x. x.0)) e

-- THE INDEXES of a design's modules, by the names of each module's wires
first-index : (f : ℕ → ℕ → Name) (w : ℕ → ℕ) (m : ℕ) → indexes_up f w (suc m) ≡ index_up (f 0) (w 0) 0 ++ indexes_up (λ i. f (suc i)) (λ i. w (suc i)) m
unfolding indexes_up
first-index f w zero = sym (append-nil (index_up (f 0) (w 0) 0))
first-index f w (suc m) =
    ap (λ (l : List ℕ). l ++ index_up (f (suc m)) (w (suc m)) 0) (first-index f w m)
    ∙ append_assoc (index_up (f 0) (w 0) 0) (indexes_up (λ i. f (suc i)) (λ i. w (suc i)) m) (index_up (f (suc m)) (w (suc m)) 0)

modules-up :
    (f : ℕ → ℕ → Name) (w : ℕ → ℕ) (os : List (Object Module)) → ((m : ℕ) → map (λ o. o.name) (Option-elim (get_elem? os m) [] (λ o. o.body.wires)) ≡ up (f m) (w m) 0) →
    flat_map (λ o. order_of o.body) os ≡ indexes_up f w (length os)
unfolding flat_map indexes_up order_of Option-elim
modules-up f w [] h = refl
modules-up f w (o ∷ os) h =
    ap₂ ◌++◌ (own (in-order-up (f 0) o.body.wires (w 0) 0 (h 0))) (modules-up (λ i. f (suc i)) (λ i. w (suc i)) os (λ m. h (suc m)))
    ∙ sym (first-index f w (length os))
  where
    own : in_order 0 o.body.wires ≡ order_up (f 0) (w 0) 0 → order_of o.body ≡ index_up (f 0) (w 0) 0
    own e = index-by (f 0) o.body (w 0) e

pub orders-up : (f : ℕ → ℕ → Name) (w : ℕ → ℕ) (d : Design) → ((m : ℕ) → map (λ o. o.name) (wires_at d m) ≡ up (f m) (w m) 0) → orders d ≡ indexes_up f w (length d.modules)
unfolding orders wires_at
orders-up f w d h = modules-up f w d.modules h

-- a module's part of the indexes of all
module _ (f : ℕ → ℕ → Name) (w : ℕ → ℕ) where
  indexes-begin : (m k : ℕ) → (ys : List ℕ) × (indexes_up f w (k + m) ≡ indexes_up f w m ++ ys)
  unfolding indexes_up
  indexes-begin m zero = let z : 0 + m ≡ m = omega arith in ([], rw z (sym (append-nil (indexes_up f w m))))
  indexes-begin m (suc k) =
      let z : suc k + m ≡ suc (k + m) = omega arith in
      let b = indexes-begin m k in (
        b.0 ++ index_up (f (k + m)) (w (k + m)) 0,
        rw z
            (ap (λ (l : List ℕ). l ++ index_up (f (k + m)) (w (k + m)) 0) b.1
            ∙ append_assoc (indexes_up f w m) b.0 (index_up (f (k + m)) (w (k + m)) 0)),
      )

  pub index-part :
      (modules m : ℕ) → m < modules → (t : List ℕ) → take (length (indexes_up f w modules)) t ≡ indexes_up f w modules →
      take (w m) (drop (length (indexes_up f w m)) t) ≡ index_up (f m) (w m) 0
  unfolding indexes_up
  index-part modules m h t e =
      let xs : List ℕ = index_up (f m) (w m) 0 in
      let b = indexes-begin (suc m) (modules - suc m) in
      let z : modules - suc m + suc m ≡ modules = omega (arith, h) in
      let all : indexes_up f w modules ≡ indexes_up f w m ++ xs ++ b.0 = rw z at b.1 in
      let rest : List ℕ = b.0 ++ drop (length (indexes_up f w modules)) t in
      let whole : t ≡ indexes_up f w m ++ (xs ++ rest) =
      sym (take-append-drop (length (indexes_up f w modules)) t)
      ∙ ap (λ (l : List ℕ). l ++ drop (length (indexes_up f w modules)) t) (e ∙ all)
      ∙ append_assoc (indexes_up f w m ++ xs) b.0 (drop (length (indexes_up f w modules)) t)
      ∙ append_assoc (indexes_up f w m) xs rest in
      ap (λ (l : List ℕ). take (w m) (drop (length (indexes_up f w m)) l)) whole
      ∙ ap (take (w m)) (drop-append_seam (indexes_up f w m) (xs ++ rest))
      ∙ take_at xs rest (w m) (length-index (f m) (w m) 0)

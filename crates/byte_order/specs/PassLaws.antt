-- One pass tells the sorted index: as many numbers as there are wires, each of a wire, whose names stand one before the next.
-- Assumes nothing.
use Prim.Native.Nat.{ℕ, zero, suc, ◌+◌, ◌-◌, ◌≤◌, ◌<◌}
use Rattle.std.specs.Prelude.{◌≡◌, refl, Bool, ◌||◌, eqb, ltb, length}
use Rattle.std.proofs.Common.{sym, ap, ◌∙◌}
use Rattle.std.proofs.Math.Path.{ap₂}
use mathlib.Core.List.{List, [], ◌∷◌, map}
use Rattle.std.proofs.Math.Bool.{true, false}
use native.Mathlib.Omega.{arith}
use Rattle.std.proofs.Math.ListN.{get_or}
use borrow.Author.Tests.{eqb-true, eqb-false, ne_eqb, lt-ltb, ltb-true}
use Rattle.rules.specs.Bytes.{same, any}
use Rattle.rules.specs.Tokens.{Name}
use Rattle.rules.specs.Sorted.{before, placed}
use Rattle.lists.specs.Tests.{by-test, and-true-left, and-true-right, or-false-left, or-false-right, or-true-left, or_true_right, never}
use Rattle.lists.specs.Lists.{up}
use Rattle.lists.specs.Elements.{Each, each_map}
use Rattle.lists.specs.Bytes.{same_refl, same-eq, same-sym}
use Rattle.byte_order.specs.Order.{Ordered, Rising, Apart, order_up, index_up, stands_next}
use Rattle.byte_order.specs.BeforeLaws.{before-trans, before_self, before-other}
use Rattle.byte_order.specs.OrderLaws.{order-ordered, index-names, length-index}
use Rattle.byte_order.specs.ScanLaws.{order-apart}

-- names in order that are apart rise
pub apart-rising : (ns : List Name) → Ordered ns → Apart ns → Rising ns
unfolding any
apart-rising [] o a = tt
apart-rising (n ∷ ns) o a = (each ns o.0 a.0, apart-rising ns o.1 a.1)
  where
    each : (ms : List Name) → Each (λ m. before m n ≡ false) ms → any (same n) ms ≡ false → Each (λ m. before n m ≡ true) ms
    each [] h k = tt
    each (m ∷ ms) h k = (before-other m n h.0 (same-sym m n ∙ or-false-left (same n m) _ k), each ms h.1 (or-false-right (same n m) _ k))

-- WHAT THE INDEX HAS: every number of the wires, and no other
placed-any : (g : ℕ → Bool) (x : ℕ × Name) (ys : List (ℕ × Name)) → any g (map (λ y. y.0) (placed x ys)) ≡ g x.0 || any g (map (λ y. y.0) ys)
unfolding placed any
placed-any g x [] = refl
placed-any g x (y ∷ ys) = by-test (before y.1 x.1) (λ e. rw (e, placed-any g x ys) (turn (g y.0) (g x.0) (any g (map (λ y. y.0) ys)))) (λ e. rw e)
  where
    turn : (a b c : Bool) → (a || (b || c)) ≡ (b || (a || c))
    turn true true c = refl
    turn true false c = refl
    turn false b c = refl

placed-each : (P : ℕ → Type 0) (x : ℕ × Name) (ys : List (ℕ × Name)) → P x.0 → Each P (map (λ y. y.0) ys) → Each P (map (λ y. y.0) (placed x ys))
unfolding placed
placed-each P x [] h k = (h, tt)
placed-each P x (y ∷ ys) h k = by-test (before y.1 x.1) (λ e. rw e (k.0, placed-each P x ys h k.1)) (λ e. rw e (h, k))

-- what a name comes before, one in front of it comes before too
pub all-before : (n m : Name) (ms : List Name) → before n m ≡ true → Each (λ x. before m x ≡ true) ms → Each (λ x. before n x ≡ true) ms
all-before n m [] h k = tt
all-before n m (x ∷ xs) h k = (before-trans n m x h k.0, all-before n m xs h k.1)

module _ (f : ℕ → Name) where
  pub index-has : (many k x : ℕ) → k ≤ x → x < k + many → any (eqb x) (index_up f many k) ≡ true
  unfolding index_up order_up
  index-has zero k x h l = absurd (omega (arith, h, l))
  index-has (suc j) k x h l =
      placed-any (eqb x) (k, f k) (order_up f j (k + 1))
      ∙ by-test (eqb x k)
      (λ e. or-true-left (eqb x k) _ e)
      (λ e. or_true_right (eqb x k) _ (index-has j (k + 1) x (omega (arith, h, eqb-false x k e)) (omega (arith, l))))

  pub index-inside : (many k : ℕ) → Each (λ x. x < k + many) (index_up f many k)
  unfolding index_up order_up
  index-inside zero k = tt
  index-inside (suc j) k =
      placed-each (λ x. x < k + suc j) (k, f k) (order_up f j (k + 1)) (omega arith)
      (each_map (λ x. x < k + 1 + j) (λ x. x < k + suc j) (λ x h. omega (arith, h)) (map (λ y. y.0) (order_up f j (k + 1))) (index-inside j (k + 1)))

  pub index-rising : (many k : ℕ) → Apart (up f many k) → Rising (map f (index_up f many k))
  index-rising many k a = rw (← index-names f many k) (apart-rising (map (λ y. y.1) (order_up f many k)) (order-ordered f many k) (order-apart f many k a))

  -- numbers whose names rise, and which are among others whose names rise, are not more; and where they are as many, they are the others
  abbrev Among : List ℕ → List ℕ → Type 0
  Among xs ys = Each (λ x. any (eqb x) ys ≡ true) xs

  behind : (y : ℕ) (ys xs : List ℕ) → Each (λ n. before (f y) n ≡ true) (map f xs) → Among xs (y ∷ ys) → Among xs ys
  unfolding any
  behind y ys [] h k = tt
  behind y ys (x ∷ xs) h k = (by-test (eqb x y) (λ e. never (before (f y) (f x)) h.0 (rw (eqb-true x y e) (before_self (f y)))) (λ e. rw e at k.0), behind y ys xs h.1 k.1)

  one_of : (P : Name → Type 0) (x : ℕ) (ys : List ℕ) → any (eqb x) ys ≡ true → Each P (map f ys) → P (f x)
  unfolding any
  one_of P x [] e h = absurd (never false e refl)
  one_of P x (y ∷ ys) e h = by-test (eqb x y) (λ t. rw (eqb-true x y t) h.0) (λ t. one_of P x ys (rw t at e) h.1)

  among : (ys xs : List ℕ) → Rising (map f ys) → Rising (map f xs) → Among xs ys → (length xs ≤ length ys) × (length xs ≡ length ys → xs ≡ ys)
  unfolding any
  among [] [] o r k = (omega arith, λ e. refl)
  among [] (x ∷ xs) o r k = absurd (never false k.0 refl)
  among (y ∷ ys) [] o r k = (omega arith, λ e. absurd (omega (arith, e)))
  among (y ∷ ys) (x ∷ xs) o r k =
      by-test (eqb x y)
      (λ t.
      let d : x ≡ y = eqb-true x y t in
      let i = among ys xs o.1 r.1 (behind y ys xs (rw (← d) r.0) k.1) in
      (omega (arith, i.0), λ e. ap₂ ◌∷◌ d (i.1 (omega (arith, e)))))
      (λ t.
      let q : any (eqb x) ys ≡ true = rw t at k.0 in
      let h : before (f y) (f x) ≡ true = one_of (λ n. before (f y) n ≡ true) x ys q o.0 in
      let i = among ys (x ∷ xs) o.1 r (q, behind y ys xs (all-before (f y) (f x) (map f xs) h r.0) k.1) in
      (omega (arith, i.0), λ e. absurd (omega (arith, e, i.0))))

  -- THE ONE PASS
  pub rising-index : (many : ℕ) → Apart (up f many 0) → (xs : List ℕ) → length xs ≡ many → Each (λ x. x < many) xs → Rising (map f xs) → xs ≡ index_up f many 0
  rising-index many a xs e h r =
      (among (index_up f many 0) xs (index-rising many 0 a) r
      (each_map (λ x. x < many) (λ x. any (eqb x) (index_up f many 0) ≡ true) (λ x q. index-has many 0 x (omega arith) (omega (arith, q))) xs h)).1
      (e ∙ sym (length-index f many 0))

  -- the pass entry by entry
  steps-rising : (xs : List ℕ) → ((j : ℕ) → suc j < length xs → before (f (get_or xs j 0)) (f (get_or xs (suc j) 0)) ≡ true) → Rising (map f xs)
  steps-rising [] h = tt
  steps-rising (x ∷ []) h = (tt, tt)
  steps-rising (x ∷ y ∷ ys) h =
      let r = steps-rising (y ∷ ys) (λ j q. h (suc j) (omega (arith, q))) in
      let e : before (f x) (f y) ≡ true = h 0 (omega arith) in
      ((e, all-before (f x) (f y) (map f ys) e r.0), r)

  rising_step : (xs : List ℕ) (j : ℕ) → Rising (map f xs) → suc j < length xs → before (f (get_or xs j 0)) (f (get_or xs (suc j) 0)) ≡ true
  rising_step [] j r h = absurd (omega (arith, h))
  rising_step (x ∷ []) j r h = absurd (omega (arith, h))
  rising_step (x ∷ y ∷ ys) zero r h = r.0.0
  rising_step (x ∷ y ∷ ys) (suc j) r h = rising_step (y ∷ ys) j r.1 (omega (arith, h))

  each_below : (many : ℕ) (xs : List ℕ) → ((j : ℕ) → j < length xs → get_or xs j 0 < many) → Each (λ x. x < many) xs
  each_below many [] h = tt
  each_below many (x ∷ xs) h = (h 0 (omega arith), each_below many xs (λ j q. h (suc j) (omega (arith, q))))

  below_at : (many : ℕ) (xs : List ℕ) (j : ℕ) → Each (λ x. x < many) xs → j < length xs → get_or xs j 0 < many
  below_at many [] j e h = absurd (omega (arith, h))
  below_at many (x ∷ xs) zero e h = e.0
  below_at many (x ∷ xs) (suc j) e h = below_at many xs j e.1 (omega (arith, h))

  module _ (many : ℕ) (a : Apart (up f many 0)) (xs : List ℕ) (l : length xs ≡ many) where
    next-inside : (j : ℕ) → stands_next f many xs j ≡ true → get_or xs j 0 < many
    unfolding stands_next
    next-inside j e = ltb-true (get_or xs j 0) many (and-true-left (ltb (get_or xs j 0) many) _ e)

    next-before : (j : ℕ) → stands_next f many xs (suc j) ≡ true → before (f (get_or xs j 0)) (f (get_or xs (suc j) 0)) ≡ true
    unfolding stands_next
    next-before j e =
        let s : suc j - 1 ≡ j = omega arith in
        rw (ne_eqb (suc j) 0 (λ q. omega (arith, q)), s) at (and-true-right (ltb (get_or xs (suc j) 0) many) _ e)

    pub passed : ((j : ℕ) → j < many → stands_next f many xs j ≡ true) → true ≡ same xs (index_up f many 0)
    passed h =
        let e : xs ≡ index_up f many 0 = rising-index many a xs l (each_below many xs (λ j q. next-inside j (h j (omega (arith, q, l))))) (steps-rising xs (λ j q. next-before j (h (suc j) (omega (arith, q, l))))) in
        sym (ap (λ (ys : List ℕ). same xs ys) (sym e) ∙ same_refl xs)

    holds-next : xs ≡ index_up f many 0 → (j : ℕ) → j < many → stands_next f many xs j ≡ true
    unfolding stands_next
    holds-next e j h =
        let z : 0 + many ≡ many = omega arith in
        let inside : Each (λ x. x < many) (index_up f many 0) = rw z at (index-inside many 0) in
        let r : Rising (map f xs) = rw e (index-rising many 0 a) in
        let i : get_or xs j 0 < many = below_at many xs j (rw e inside) (omega (arith, h, l)) in
        rw (lt-ltb (get_or xs j 0) many i)
        (by-test (eqb j 0) (λ z. rw z)
        (λ z.
        let s : suc (j - 1) ≡ j = omega (arith, eqb-false j 0 z) in
        rw z (rw s at (rising_step xs (j - 1) r (omega (arith, h, l, eqb-false j 0 z))))))

    pub not-passed : (j : ℕ) → j < many → stands_next f many xs j ≡ false → false ≡ same xs (index_up f many 0)
    not-passed j h e = by-test (same xs (index_up f many 0)) (λ q. never (stands_next f many xs j) (holds-next (same-eq xs (index_up f many 0) q) j h) e) (λ q. sym q)

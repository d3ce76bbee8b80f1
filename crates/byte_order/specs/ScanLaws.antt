-- The search at a name's place in the sorted index answers as the plain scan, where no two wires have one name.
-- Assumes nothing.
use Prim.Native.Nat.{ℕ, zero, suc, ◌+◌, ◌≤◌, ◌<◌}
use Rattle.std.specs.Prelude.{◌≡◌, Bool, true, false, cond, ltb, length, drop}
use Rattle.std.proofs.Math.Path.{refl, ap}
use Rattle.std.proofs.Common.{sym, ◌∙◌, arith}
use mathlib.Core.List.{List, [], ◌∷◌, map}
use Rattle.std.proofs.Math.ListN.{get_or}
use borrow.Author.Tests.{ltb-true, ltb-false, lt-ltb, le-ltb}
use Rattle.rules.specs.Bytes.{same, any}
use Rattle.rules.specs.Tokens.{Name}
use Rattle.rules.specs.Statements.{Wire}
use Rattle.rules.specs.Judgement.{Verdict, accepted, refused, sum}
use Rattle.rules.specs.Design.{Object}
use Rattle.rules.specs.Session.{search}
use Rattle.rules.specs.Sorted.{before, placed}
use Rattle.lists.specs.Tests.{by-test, or-false-left, or-false-right, never}
use Rattle.lists.specs.Lists.{up}
use Rattle.lists.specs.Sums.{sum-none}
use Rattle.lists.specs.Bytes.{same_refl, same-eq, same-sym}
use Rattle.byte_order.specs.Order.{Ordered, Apart, place, order_up, index_up, scan_up, found_in}
use Rattle.byte_order.specs.BeforeLaws.{before-trans, before_self, before-other, before-not-back, before-not-same}
use Rattle.byte_order.specs.OrderLaws.{index-names, index-ordered}

-- names that stand at most once each are apart
pub once-apart : (ns : List Name) → ((n : Name) → sum (λ x. cond (same n x) 1 0) ns ≤ 1) → Apart ns
unfolding sum
once-apart [] h = tt
once-apart (m ∷ ms) h =
    let q : 1 + sum (λ x. cond (same m x) 1 0) ms ≤ 1 = rw (same_refl m) at (h m) in
    (none m ms (omega (arith, q)), once-apart ms (λ n. omega (arith, h n)))
  where
    none : (n : Name) (xs : List Name) → sum (λ x. cond (same n x) 1 0) xs ≡ 0 → any (same n) xs ≡ false
    none n xs e = sum-none (same n) (λ x. cond (same n x) 1 0) (λ x z. by-test (same n x) (λ t. absurd (let y : 1 ≡ 0 = rw t at z in omega (arith, y))) (λ t. t)) xs e

-- a name put at its place is found there, and it alone
found-placed :
    (n : Name) (i : ℕ) (m : Name) (ys : List (ℕ × Name)) → any (same m) (map (λ y. y.1) ys) ≡ false →
    found_in n (placed (i, m) ys) ≡ cond (same m n) (accepted i) (found_in n ys)
unfolding placed found_in any
found-placed n i m [] t =
    by-test (same m n) (λ e. rw (e, ← same-eq m n e, before_self m)) (λ e. rw e (by-test (before m n) (λ q. rw q) (λ q. rw q)))
found-placed n i m (y ∷ ys) t =
    by-test (before y.1 m)
    (λ e.
    by-test (before y.1 n)
    (λ q. rw (e, q) (found-placed n i m ys (or-false-right (same m y.1) _ t)))
    (λ q.
    let z : same m n ≡ false = by-test (same m n) (λ s. never (before y.1 n) (rw (← same-eq m n s) e) q) (λ s. s) in
    rw (e, q, z)))
    (λ e.
    by-test (before m n)
    (λ q. rw (e, q, before-not-same m n q))
    (λ q.
    by-test (same m n)
    (λ s. rw (e, q, s))
    (λ s.
    let k : before m y.1 ≡ true = before-other y.1 m e (same-sym y.1 m ∙ or-false-left (same m y.1) _ t) in
    let l : before n y.1 ≡ true = before-trans n m y.1 (before-other m n q s) k in
    rw (e, q, s, before-not-back n y.1 l, same-sym y.1 n, before-not-same n y.1 l))))

any-placed : (g : Name → Bool) (i : ℕ) (n : Name) (ys : List (ℕ × Name)) → g n ≡ false → any g (map (λ y. y.1) ys) ≡ false → any g (map (λ y. y.1) (placed (i, n) ys)) ≡ false
unfolding placed any
any-placed g i n [] h k = rw h
any-placed g i n (y ∷ ys) h k =
    by-test (before y.1 n)
    (λ e. rw (e, or-false-left (g y.1) _ k) (any-placed g i n ys h (or-false-right (g y.1) _ k)))
    (λ e. rw (e, h, or-false-left (g y.1) _ k) (or-false-right (g y.1) _ k))

placed-apart : (i : ℕ) (n : Name) (ys : List (ℕ × Name)) → any (same n) (map (λ y. y.1) ys) ≡ false → Apart (map (λ y. y.1) ys) → Apart (map (λ y. y.1) (placed (i, n) ys))
unfolding placed any
placed-apart i n [] t a = (refl, tt)
placed-apart i n (y ∷ ys) t a =
    by-test (before y.1 n)
    (λ e. rw e (any-placed (same y.1) i n ys (same-sym y.1 n ∙ or-false-left (same n y.1) _ t) a.0, placed-apart i n ys (or-false-right (same n y.1) _ t) a.1))
    (λ e. rw e (t, a))

-- the place in the numbers of wires that have these names
ltb-suc : (a b : ℕ) → ltb (suc a) (suc b) ≡ ltb a b
ltb-suc a b =
    by-test (ltb a b)
    (λ e. lt-ltb (suc a) (suc b) (omega (arith, ltb-true a b e)) ∙ sym e)
    (λ e. le-ltb (suc a) (suc b) (omega (arith, ltb-false a b e)) ∙ sym e)

module _ (f : ℕ → Name) (n : Name) where
  at_place : List ℕ → ℕ → Verdict ℕ
  at_place xs p = cond (ltb p (length xs)) (cond (same (f (get_or xs p 0)) n) (accepted (get_or xs p 0)) (refused 8)) (refused 8)

  found_at : (ys : List (ℕ × Name)) → map (λ y. y.1) ys ≡ map f (map (λ y. y.0) ys) → found_in n ys ≡ at_place (map (λ y. y.0) ys) (place n (map f (map (λ y. y.0) ys)))
  unfolding found_in place at_place
  found_at [] e = refl
  found_at (y ∷ ys) e =
      let d : y.1 ≡ f y.0 = ap (λ (l : List Name). get_or l 0 []) e in
      by-test (before (f y.0) n)
      (λ q. rw (d, q, found_at ys (ap (drop 1) e), ltb-suc (place n (map f (map (λ y. y.0) ys))) (length (map (λ y. y.0) ys))))
      (λ q. rw (d, q, lt-ltb 0 (suc (length (map (λ y. y.0) ys))) (omega arith)))

module _ (f : ℕ → Name) where
  order-any : (g : Name → Bool) (many k : ℕ) → any g (up f many k) ≡ false → any g (map (λ y. y.1) (order_up f many k)) ≡ false
  unfolding order_up any
  order-any g zero k h = refl
  order-any g (suc l) k h = any-placed g k (f k) (order_up f l (k + 1)) (or-false-left (g (f k)) _ h) (order-any g l (k + 1) (or-false-right (g (f k)) _ h))

  pub order-apart : (many k : ℕ) → Apart (up f many k) → Apart (map (λ y. y.1) (order_up f many k))
  unfolding order_up
  order-apart zero k a = tt
  order-apart (suc l) k a = placed-apart k (f k) (order_up f l (k + 1)) (order-any (same (f k)) l (k + 1) a.0) (order-apart l (k + 1) a.1)

  scan-found : (n : Name) (many k : ℕ) → Apart (up f many k) → scan_up f n many k ≡ found_in n (order_up f many k)
  unfolding scan_up order_up found_in
  scan-found n zero k a = refl
  scan-found n (suc l) k a =
      rw (found-placed n k (f k) (order_up f l (k + 1)) (order-any (same (f k)) l (k + 1) a.0), ← scan-found n l (k + 1) a.1)

  pub sorted-ordered : (many : ℕ) (xs : List ℕ) → xs ≡ index_up f many 0 → Ordered (map f xs)
  sorted-ordered many xs e = rw e (index-ordered f many 0)

  -- HALVING ANSWERS AS THE SCAN: p is the place of a name in the sorted index xs, x the wire there
  module _ (n : Name) (many : ℕ) (a : Apart (up f many 0)) (xs : List ℕ) (e : xs ≡ index_up f many 0) (p : ℕ) (ep : p ≡ place n (map f xs)) where
    scan-at : scan_up f n many 0 ≡ at_place f n xs p
    unfolding index_up
    scan-at = scan-found n many 0 a ∙ found_at f n (order_up f many 0) (index-names f many 0) ∙ rw (ep, e)

    pub halving-past : length xs ≤ p → scan_up f n many 0 ≡ refused 8
    unfolding at_place
    halving-past h = scan-at ∙ rw (le-ltb p (length xs) h)

    module _ (h : p < length xs) (x : ℕ) (ex : x ≡ get_or xs p 0) (b : Bool) (eb : b ≡ same (f x) n) where
      here : scan_up f n many 0 ≡ cond b (accepted x) (refused 8)
      unfolding at_place
      here = scan-at ∙ rw (lt-ltb p (length xs) h, ← ex, ← eb)

      pub halving-found : b ≡ true → scan_up f n many 0 ≡ accepted x
      halving-found t = here ∙ rw t

      pub halving-other : b ≡ false → scan_up f n many 0 ≡ refused 8
      halving-other t = here ∙ rw t

-- of wires that have these names the scan is the rules' search
pub search-up : (f : ℕ → Name) (n : Name) (ws : List (Object Wire)) (many k : ℕ) → map (λ o. o.name) ws ≡ up f many k → search n k ws ≡ scan_up f n many k
unfolding search scan_up
search-up f n [] zero k e = refl
search-up f n [] (suc l) k e = absurd (omega (arith, ap length e))
search-up f n (w ∷ ws) zero k e = absurd (omega (arith, ap length e))
search-up f n (w ∷ ws) (suc l) k e =
    let d : w.name ≡ f k = ap (λ (l : List Name). get_or l 0 []) e in
    rw (d, search-up f n ws l (k + 1) (ap (drop 1) e))

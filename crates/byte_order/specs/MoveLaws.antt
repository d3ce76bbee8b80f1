-- One wire has another name: taken out of the sorted index and put at its new name's place it leaves the sorted index.
-- Assumes nothing.
use Prim.Native.Nat.{ℕ, zero, suc, ◌+◌, ◌≤◌, ◌<◌}
use Rattle.std.specs.Prelude.{◌≡◌, refl, false, eqb, length, get_or, take, drop}
use Rattle.std.proofs.Common.{sym, ap, ap₂, ◌∙◌, arith, length-append}
use mathlib.Core.List.{List, [], ◌∷◌, ◌++◌, map}
use Rattle.std.proofs.Math.Bool.{true}
use Rattle.std.proofs.Math.Seq.{split_at}
use borrow.Author.Tests.{eqb-true, eqb-false}
use Rattle.rules.specs.Bytes.{same, any}
use Rattle.rules.specs.Tokens.{Name}
use Rattle.rules.specs.Sorted.{before}
use Rattle.lists.specs.Tests.{by-test, or-false-left, or-false-right, never}
use Rattle.lists.specs.Lists.{up}
use Rattle.lists.specs.Elements.{Each, each-front, each_back, each_append}
use Rattle.lists.specs.Bytes.{same-sym}
use Rattle.byte_order.specs.Order.{Ordered, Rising, Apart, place, index_up, SortedBut}
use Rattle.byte_order.specs.BeforeLaws.{before_self, before-other, before-not-back}
use Rattle.byte_order.specs.OrderLaws.{length-index}
use Rattle.byte_order.specs.PassLaws.{all-before, index-has, index-inside, index-rising, rising-index}

-- a number put among others
module _ (w : ℕ) where
  each_in : (P : ℕ → Type 0) (p : ℕ) (xs : List ℕ) → P w → Each P xs → Each P (take p xs ++ w ∷ drop p xs)
  each_in P zero xs h k = (h, k)
  each_in P (suc p) [] h k = (h, tt)
  each_in P (suc p) (x ∷ xs) h k = (k.0, each_in P p xs h k.1)

  length-in : (p : ℕ) (xs : List ℕ) → length (take p xs ++ w ∷ drop p xs) ≡ suc (length xs)
  length-in zero xs = refl
  length-in (suc p) [] = refl
  length-in (suc p) (x ∷ xs) = ap suc (length-in p xs)

-- two wires have two names
module _ (g : ℕ → Name) where
  any-up : (n : Name) (many k j : ℕ) → any (same n) (up g many k) ≡ false → k ≤ j → j < k + many → same n (g j) ≡ false
  unfolding any
  any-up n zero k j e h l = absurd (omega (arith, h, l))
  any-up n (suc i) k j e h l =
      by-test (eqb j k)
      (λ t. rw (eqb-true j k t) (or-false-left (same n (g k)) _ e))
      (λ t. any-up n i (k + 1) j (or-false-right (same n (g k)) _ e) (omega (arith, h, eqb-false j k t)) (omega (arith, l)))

  apart-at : (many k i j : ℕ) → Apart (up g many k) → k ≤ i → i < k + many → k ≤ j → j < k + many → (i ≡ j → ⊥) → same (g i) (g j) ≡ false
  apart-at zero k i j a hi li hj lj d = absurd (omega (arith, hi, li))
  apart-at (suc l) k i j a hi li hj lj d =
      by-test (eqb i k)
      (λ t. let e : i ≡ k = eqb-true i k t in rw e (any-up (g k) l (k + 1) j a.0 (by_less e) (omega (arith, lj))))
      (λ t.
      by-test (eqb j k)
      (λ s. let e : j ≡ k = eqb-true j k s in rw e (same-sym (g i) (g k) ∙ any-up (g k) l (k + 1) i a.0 (omega (arith, hi, eqb-false i k t)) (omega (arith, li))))
      (λ s. apart-at l (k + 1) i j a.1 (omega (arith, hi, eqb-false i k t)) (omega (arith, li)) (omega (arith, hj, eqb-false j k s)) (omega (arith, lj)) d))
    where
      by_less : i ≡ k → k + 1 ≤ j
      by_less e = by-test (eqb j k) (λ s. absurd (d (e ∙ sym (eqb-true j k s)))) (λ s. omega (arith, hj, eqb-false j k s))

  -- PUT AT ITS PLACE among numbers whose names rise
  each-put : (P : Name → Type 0) (w p : ℕ) (xs : List ℕ) → P (g w) → Each P (map g xs) → Each P (map g (take p xs ++ w ∷ drop p xs))
  each-put P w zero xs h k = (h, k)
  each-put P w (suc p) [] h k = (h, tt)
  each-put P w (suc p) (x ∷ xs) h k = (k.0, each-put P w p xs h k.1)

  rising-put : (w : ℕ) (xs : List ℕ) → Rising (map g xs) → Each (λ x. same (g w) (g x) ≡ false) xs → Rising (map g (take (place (g w) (map g xs)) xs ++ w ∷ drop (place (g w) (map g xs)) xs))
  unfolding place
  rising-put w [] r d = (tt, tt)
  rising-put w (x ∷ xs) r d =
      by-test (before (g x) (g w))
      (λ e. rw e (each-put (λ n. before (g x) n ≡ true) w (place (g w) (map g xs)) xs e r.0, rising-put w xs r.1 d.1))
      (λ e.
      let b : before (g w) (g x) ≡ true = before-other (g x) (g w) e (same-sym (g x) (g w) ∙ d.0) in
      rw e ((b, all-before (g w) (g x) (map g xs) b r.0), r))

-- TAKEN OUT: the others rise us before
module _ (f : ℕ → Name) (w : ℕ) where
  each-out : (P : Name → Type 0) (us vs : List ℕ) → Each P (map f (us ++ w ∷ vs)) → Each P (map f (us ++ vs)) × P (f w)
  each-out P [] vs h = (h.1, h.0)
  each-out P (u ∷ us) vs h = let i = each-out P us vs h.1 in ((h.0, i.0), i.1)

  other : (x y : ℕ) → before (f x) (f y) ≡ true → x ≡ y → ⊥
  other x y h e = never (before (f x) (f y)) h (rw e (before_self (f y)))

  each-other : (vs : List ℕ) → Each (λ n. before (f w) n ≡ true) (map f vs) → Each (λ x. x ≡ w → ⊥) vs
  each-other [] h = tt
  each-other (v ∷ vs) h = (λ e. other w v h.0 (sym e), each-other vs h.1)

  rising-out : (us vs : List ℕ) → Rising (map f (us ++ w ∷ vs)) → Rising (map f (us ++ vs)) × Each (λ x. x ≡ w → ⊥) (us ++ vs)
  rising-out [] vs r = (r.1, each-other vs r.0)
  rising-out (u ∷ us) vs r =
      let i = rising-out us vs r.1 in
      let e = each-out (λ n. before (f u) n ≡ true) us vs r.0 in
      ((e.0, i.0), (other u w e.1, i.1))

map-others : (f g : ℕ → Name) (w : ℕ) → ((j : ℕ) → (j ≡ w → ⊥) → f j ≡ g j) → (xs : List ℕ) → Each (λ x. x ≡ w → ⊥) xs → map f xs ≡ map g xs
map-others f g w h [] d = refl
map-others f g w h (x ∷ xs) d = ap₂ ◌∷◌ (h x d.0) (map-others f g w h xs d.1)

-- names that rise are in order
rising-ordered : (ns : List Name) → Rising ns → Ordered ns
rising-ordered [] r = tt
rising-ordered (n ∷ ns) r = (not_back ns r.0, rising-ordered ns r.1)
  where
    not_back : (ms : List Name) → Each (λ m. before n m ≡ true) ms → Each (λ m. before m n ≡ false) ms
    not_back [] h = tt
    not_back (m ∷ ms) h = (before-not-back n m h.0, not_back ms h.1)

-- the wire stands in the index
pub has-wire : (g : ℕ → Name) (many w : ℕ) (xs : List ℕ) → SortedBut g many w xs → any (eqb w) xs ≡ true
has-wire g many w xs s = rw s.sorted (index-has s.was many 0 w (omega arith) (omega (arith, s.inside)))

-- MOVED
module _ (g : ℕ → Name) (many w : ℕ) (a : Apart (up g many 0)) (xs : List ℕ) (s : SortedBut g many w xs) (at : ℕ) (h : at < length xs) (e : get_or xs at 0 ≡ w) where
  abbrev pub left : List ℕ
  left = take at xs ++ drop (suc at) xs

  split : xs ≡ take at xs ++ w ∷ drop (suc at) xs
  split = split_at xs at 0 h ∙ ap (λ (x : ℕ). take at xs ++ x ∷ drop (suc at) xs) e

  out : Rising (map s.was left) × Each (λ x. x ≡ w → ⊥) left
  out =
      rising-out s.was w (take at xs) (drop (suc at) xs)
      (rw (← split, s.sorted) (index-rising s.was many 0 s.apart))

  left-rises : Rising (map g left)
  left-rises = rw (← map-others s.was g w s.others left out.1) out.0

  pub left-ordered : Ordered (map g left)
  left-ordered = rising-ordered (map g left) left-rises

  inside : Each (λ x. x < many) xs
  inside =
      let z : 0 + many ≡ many = omega arith in
      rw s.sorted (rw z at (index-inside s.was many 0))

  left-inside : Each (λ x. x < many) left × (w < many)
  left-inside =
      let i : Each (λ x. x < many) (take at xs ++ w ∷ drop (suc at) xs) = rw split at inside in
      let b = each_back (λ x. x < many) (take at xs) (w ∷ drop (suc at) xs) i in
      (each_append (λ x. x < many) (take at xs) (drop (suc at) xs) (each-front (λ x. x < many) (take at xs) (w ∷ drop (suc at) xs) i) b.1, b.0)

  differ : (ys : List ℕ) → Each (λ x. x < many) ys → Each (λ x. x ≡ w → ⊥) ys → Each (λ x. same (g w) (g x) ≡ false) ys
  differ [] i d = tt
  differ (y ∷ ys) i d = (apart-at g many 0 w y a (omega arith) (omega (arith, left-inside.1)) (omega arith) (omega (arith, i.0)) (λ q. d.0 (sym q)), differ ys i.1 d.1)

  pub moved : (zs : List ℕ) → zs ≡ left → (p : ℕ) → p ≡ place (g w) (map g zs) → take p zs ++ w ∷ drop p zs ≡ index_up g many 0
  moved zs ez p ep =
      let n : length xs ≡ many = ap length s.sorted ∙ length-index s.was many 0 in
      let ys : List ℕ = take p left ++ w ∷ drop p left in
      let q : p ≡ place (g w) (map g left) = ep ∙ ap (λ (l : List ℕ). place (g w) (map g l)) ez in
      let r : Rising (map g ys) = rw q (rising-put g w left left-rises (differ left left-inside.0 out.1)) in
      ap (λ (l : List ℕ). take p l ++ w ∷ drop p l) ez
      ∙ rising-index g many a ys
      (omega (arith, n, length-in w p left, ap length split, length-append (take at xs) (w ∷ drop (suc at) xs), length-append (take at xs) (drop (suc at) xs)))
      (each_in w (λ x. x < many) p left left-inside.1 left-inside.0)
      r

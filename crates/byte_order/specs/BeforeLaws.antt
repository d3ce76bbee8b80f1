-- Byte order is an order, and of two names that differ one comes before the other; the comparison byte by byte.
-- Assumes nothing.
use Rattle.std.specs.Prelude.{ℕ, ◌+◌, ◌≤◌, ◌<◌, ◌≡◌, refl, List, [], ◌∷◌, true, false, ◌&&◌, ◌⊎◌, ltb, eqb, length, get_or, drop}
use Rattle.std.proofs.Common.{sym, ◌∙◌, inl, inr, arith}
use Rattle.std.proofs.lemmas.Bool.{false≢true}
use Rattle.std.proofs.Math.Numerals.{add-one}
use Rattle.std.proofs.Math.ListN.{drop_of_length-le}
use Rattle.std.proofs.Math.Seq.{drop-cons}
use borrow.Author.Tests.{ltb-true, ltb-false, lt-ltb, le-ltb, eqb-true, eqb-false, eq-eqb, ne_eqb}
use Rattle.rules.specs.Bytes.{same}
use Rattle.rules.specs.Tokens.{Name}
use Rattle.rules.specs.Sorted.{before}
use Rattle.lists.specs.Tests.{by-test, and-true-left, and-true-right, or-false-left, never}
use Rattle.lists.specs.Bytes.{same_refl, same-eq, same-sym}

before-cons : (x y : ℕ) (xs ys : Name) → before (x ∷ xs) (y ∷ ys) ≡ true → (x < y) ⊎ ((x ≡ y) × (before xs ys ≡ true))
unfolding before
before-cons x y xs ys e =
    by-test (ltb x y) (λ h. inl (ltb-true x y h))
    (λ h. let k : (eqb x y && before xs ys) ≡ true = rw h at e in inr (eqb-true x y (and-true-left (eqb x y) _ k), and-true-right (eqb x y) _ k))

lower-before : (x y : ℕ) (xs ys : Name) → x < y → before (x ∷ xs) (y ∷ ys) ≡ true
unfolding before
lower-before x y xs ys h = rw (lt-ltb x y h)

next-before : (x : ℕ) (xs ys : Name) → before xs ys ≡ true → before (x ∷ xs) (x ∷ ys) ≡ true
unfolding before
next-before x xs ys h = rw (le-ltb x x (omega arith), eq-eqb x x refl, h)

pub before-trans : (a b c : Name) → before a b ≡ true → before b c ≡ true → before a c ≡ true
unfolding before
before-trans [] [] c h k = absurd (false≢true h)
before-trans [] (y ∷ ys) [] h k = absurd (false≢true k)
before-trans [] (y ∷ ys) (z ∷ zs) h k = refl
before-trans (x ∷ xs) [] c h k = absurd (false≢true h)
before-trans (x ∷ xs) (y ∷ ys) [] h k = absurd (false≢true k)
before-trans (x ∷ xs) (y ∷ ys) (z ∷ zs) h k = by (before-trans xs ys zs) (before-cons x y xs ys h) (before-cons y z ys zs k)
  where
    by : (before xs ys ≡ true → before ys zs ≡ true → before xs zs ≡ true) → (x < y) ⊎ ((x ≡ y) × (before xs ys ≡ true)) → (y < z) ⊎ ((y ≡ z) × (before ys zs ≡ true)) → before (x ∷ xs) (z ∷ zs) ≡ true
    by t (inl p) (inl q) = lower-before x z xs zs (omega (arith, p, q))
    by t (inl p) (inr q) = lower-before x z xs zs (omega (arith, p, q.0))
    by t (inr p) (inl q) = lower-before x z xs zs (omega (arith, p.0, q))
    by t (inr p) (inr q) = let e : x ≡ z = p.0 ∙ q.0 in rw e (next-before z xs zs (t p.1 q.1))

pub before_self : (a : Name) → before a a ≡ false
unfolding before
before_self [] = refl
before_self (x ∷ xs) = rw (le-ltb x x (omega arith), eq-eqb x x refl, before_self xs)

pub before-other : (a b : Name) → before a b ≡ false → same a b ≡ false → before b a ≡ true
unfolding before same
before-other [] [] h k = absurd (false≢true (sym k))
before-other [] (y ∷ ys) h k = absurd (false≢true (sym h))
before-other (x ∷ xs) [] h k = refl
before-other (x ∷ xs) (y ∷ ys) h k =
    let p : ltb x y ≡ false = or-false-left (ltb x y) _ h in
    by-test (eqb x y)
    (λ e. rw (← eqb-true x y e) (next-before x ys xs (before-other xs ys (rw (p, e) at h) (rw e at k))))
    (λ e. lower-before y x ys xs (omega (arith, ltb-false x y p, eqb-false x y e)))

module _ (a b : Name) where
  pub before-not-back : before a b ≡ true → before b a ≡ false
  before-not-back e = by-test (before b a) (λ q. never (before a a) (before-trans a b a e q) (before_self a)) (λ q. q)

  pub before-not-same : before a b ≡ true → same a b ≡ false
  before-not-same e = by-test (same a b) (λ q. never (before a b) e (rw (same-eq a b q) (before_self b))) (λ q. q)

  -- where neither comes before the other they are the same
  pub not-before : (c : Name) → before b a ≡ false → before c b ≡ false → before c a ≡ false
  not-before c h k =
      by-test (before c a)
      (λ q.
      by-test (same c b)
      (λ s. never (before b a) (rw (← same-eq c b s) q) h)
      (λ s. never (before b a) (before-trans b c a (before-other c b k s) q) h))
      (λ q. q)

-- THE COMPARISON, byte by byte
module _ (a b : Name) (i : ℕ) where
  pub first-differs : i < length a → i < length b → (get_or a i 0 ≡ get_or b i 0 → ⊥) → before (drop i a) (drop i b) ≡ ltb (get_or a i 0) (get_or b i 0)
  unfolding before
  first-differs h k l =
      by-test (ltb (get_or a i 0) (get_or b i 0))
      (λ e. rw (drop-cons a i 0 h, drop-cons b i 0 k, e))
      (λ e. rw (drop-cons a i 0 h, drop-cons b i 0 k, e, ne_eqb (get_or a i 0) (get_or b i 0) l))

  pub first-same : i < length a → i < length b → get_or a i 0 ≡ get_or b i 0 → before (drop i a) (drop i b) ≡ before (drop (i + 1) a) (drop (i + 1) b)
  unfolding before
  first-same h k e = rw (drop-cons a i 0 h, drop-cons b i 0 k, add-one, e, le-ltb (get_or b i 0) (get_or b i 0) (omega arith), eq-eqb (get_or b i 0) (get_or b i 0) refl)

  pub second-ends : i < length a → length b ≤ i → before (drop i a) (drop i b) ≡ false
  unfolding before
  second-ends h k = rw (drop-cons a i 0 h, drop_of_length-le b {i = i} k)

  pub first_ends : length a ≤ i → before (drop i a) (drop i b) ≡ ltb i (length b)
  unfolding before
  first_ends h =
      by-test (ltb i (length b))
      (λ e. rw (e, drop_of_length-le a {i = i} h, drop-cons b i 0 (ltb-true i (length b) e)))
      (λ e. rw (e, drop_of_length-le a {i = i} h, drop_of_length-le b {i = i} (ltb-false i (length b) e)))

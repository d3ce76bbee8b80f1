-- Laws of the rows that pass a test and of module lines, for any table.
-- Assumes nothing.
use Prim.Native.Nat.{ℕ, zero, suc, ◌+◌, ◌-◌, ◌≤◌, ◌<◌}
use Rattle.std.specs.Prelude.{◌≡◌, List, Bool, true, false, cond, eqb, ltb}
use Rattle.std.specs.Int.{from_bool}
use Rattle.std.proofs.Math.Path.{refl}
use Rattle.std.proofs.Common.{sym, ap, ◌∙◌}
use Rattle.std.proofs.Math.Numerals.{lt_of_le_of_ne}
use native.Mathlib.Omega.{arith}
use borrow.Author.Tests.{eq-eqb, ne_eqb, eqb-true, eqb-false, ltb-true, ltb-false}
use Rattle.wires.specs.Rows.{column}
use Rattle.lists.specs.Tests.{by-test, by_le, by_order, cond-le}
use Rattle.modules.specs.Ranges.{rows_where, lines_in, line_of, row_range}

bool-one : (b : Bool) → from_bool b ≡ cond b 1 0
bool-one true = refl
bool-one false = refl

-- one row more, and all of them
pub where-more : (f : ℕ → Bool) (t : List ℕ) (k : ℕ) → rows_where f t (k + 1) ≡ rows_where f t k + cond (f (column t k 0)) 1 0
unfolding rows_where
where-more f t k = let e : k + 1 ≡ suc k = omega arith in rw e

pub where-le : (f : ℕ → Bool) (t : List ℕ) (k : ℕ) → rows_where f t k ≤ k
unfolding rows_where
where-le f t zero = omega arith
where-le f t (suc k) = omega (arith, where-le f t k, cond-le (f (column t k 0)) 1)

-- the same of numbers that count them
module _ (f : ℕ → Bool) (t : List ℕ) (k n : ℕ) (e : n ≡ rows_where f t k) where
  pub where-turn : (x r : ℕ) → x ≡ column t k 0 → r ≡ cond (f x) 1 0 → n + r ≡ rows_where f t (k + 1)
  where-turn x r ex er = rw (er, ex, e) (sym (where-more f t k))

  pub where-sum : (x r : ℕ) → x ≡ column t k 0 → r ≡ cond (f x) 1 0 → n + r ≤ k + 1
  where-sum x r ex er = omega (arith, where-turn x r ex er, where-le f t (k + 1))

  pub turn-from : (x r : ℕ) → x ≡ column t k 0 → r ≡ from_bool (f x) → n + r ≡ rows_where f t (k + 1)
  turn-from x r ex er = rw (er, ex, e, bool-one) (sym (where-more f t k))

  pub sum-from : (x r : ℕ) → x ≡ column t k 0 → r ≡ from_bool (f x) → n + r ≤ k + 1
  sum-from x r ex er = omega (arith, turn-from x r ex er, where-le f t (k + 1))

-- rows of a number or below it are below the next
below_next : (c m : ℕ) → cond (ltb c (suc m)) 1 0 ≡ cond (ltb c m) 1 0 + cond (eqb c m) 1 0
below_next c m =
    by-test (ltb c m)
    (λ h. by-test (eqb c m)
    (λ e. absurd (omega (arith, ltb-true c m h, eqb-true c m e)))
    (λ e. by-test (ltb c (suc m)) (λ q. rw (h, e, q)) (λ q. absurd (omega (arith, ltb-true c m h, ltb-false c (suc m) q)))))
    (λ h. by-test (eqb c m)
    (λ e. by-test (ltb c (suc m)) (λ q. rw (h, e, q)) (λ q. absurd (omega (arith, eqb-true c m e, ltb-false c (suc m) q))))
    (λ e. by-test (ltb c (suc m)) (λ q. absurd (eqb-false c m e (omega (arith, ltb-false c m h, ltb-true c (suc m) q)))) (λ q. rw (h, e, q))))

pub where_next : (t : List ℕ) (m k : ℕ) → rows_where (λ c. ltb c (suc m)) t k ≡ rows_where (λ c. ltb c m) t k + rows_where (λ c. eqb c m) t k
unfolding rows_where
where_next t m zero = refl
where_next t m (suc k) = omega (arith, where_next t m k, below_next (column t k 0) m)

-- MODULE LINES
module _ (rows : List ℕ) where
  pub lines_more : (k : ℕ) → (lines_in rows k ≤ lines_in rows (suc k)) × (lines_in rows (suc k) ≤ lines_in rows k + 1)
  unfolding rows_where
  lines_more k = (omega arith, omega (arith, cond-le (eqb (column rows k 0) 3) 1))

  pub line-le : (k m : ℕ) → line_of rows k m ≤ k
  unfolding line_of
  line-le zero m = omega arith
  line-le (suc k) m = by_le (λ (n : ℕ). n ≤ suc k) (lines_in rows (suc k)) m (λ e. omega arith) (λ e. omega (arith, line-le k m))

  pub line-all : (k m : ℕ) → lines_in rows k ≤ m → line_of rows k m ≡ k
  unfolding line_of
  line-all zero m h = refl
  line-all (suc k) m h = by_le (λ (n : ℕ). n ≡ suc k) (lines_in rows (suc k)) m (λ e. refl) (λ e. absurd (omega arith))

  pub line-back : (k m : ℕ) → m < lines_in rows (suc k) → line_of rows (suc k) m ≡ line_of rows k m
  unfolding line_of
  line-back k m h = by_le (λ (n : ℕ). n ≡ line_of rows k m) (lines_in rows (suc k)) m (λ e. absurd (omega arith)) (λ e. refl)

  lines-grow : (k j : ℕ) → lines_in rows k ≤ lines_in rows (j + k)
  lines-grow k zero = let e : 0 + k ≡ k = omega arith in rw e (omega arith)
  lines-grow k (suc j) = let e : suc j + k ≡ suc (j + k) = omega arith in rw e (omega (arith, lines-grow k j, (lines_more (j + k)).0))

  -- a row that is the module line of that number
  found_from : (k m j : ℕ) → lines_in rows k ≤ m → m < lines_in rows (suc k) → line_of rows (j + suc k) m ≡ k
  found_from k m zero h l = let e : 0 + suc k ≡ suc k = omega arith in rw e (line-back k m l ∙ line-all k m h)
  found_from k m (suc j) h l =
      let e : suc j + suc k ≡ suc (j + suc k) = omega arith in
      rw e (line-back (j + suc k) m (omega (arith, lines-grow (suc k) j, (lines_more (j + suc k)).0)) ∙ found_from k m j h l)

  pub line-found : (k m total : ℕ) → lines_in rows k ≤ m → m < lines_in rows (suc k) → k < total → line_of rows total m ≡ k
  line-found k m total h l b = let e : total ≡ (total - suc k) + suc k = omega arith in rw e (found_from k m (total - suc k) h l)

  -- the next module line is further on
  no_lines : (m : ℕ) → lines_in rows 0 ≤ m
  unfolding rows_where
  no_lines m = omega arith

  line-lines : (k m : ℕ) → lines_in rows (line_of rows k m) ≤ m
  unfolding line_of
  line-lines zero m = no_lines m
  line-lines (suc k) m = by_le (λ (n : ℕ). lines_in rows n ≤ m) (lines_in rows (suc k)) m (λ e. e) (λ e. line-lines k m)

  pub line_before : (k m : ℕ) → m < lines_in rows k → line_of rows k m < k
  line_before k m h =
      by-test (eqb (line_of rows k m) k)
      (λ e. absurd (omega (arith, ap (lines_in rows) (eqb-true (line_of rows k m) k e), line-lines k m)))
      (λ e. lt_of_le_of_ne (line-le k m) (eqb-false (line_of rows k m) k e))

  pub line-next : (k m : ℕ) → line_of rows k m < k → line_of rows k m < line_of rows k (suc m)
  line-next zero m h = absurd (omega arith)
  line-next (suc k) m h =
      by_order (lines_in rows (suc k)) m
      (λ b. absurd (omega (arith, line-all (suc k) m b)))
      (λ b.
      let q : line_of rows (suc k) m ≡ line_of rows k m = line-back k m b in
      by_order (lines_in rows (suc k)) (suc m)
      (λ d. omega (arith, line-all (suc k) (suc m) d))
      (λ d.
      let far : line_of rows k m < k = line_before k m (omega (arith, (lines_more k).1)) in
      omega (arith, q, line-back k (suc m) d, line-next k m far)))

  -- a search for the line stops at it, or at the end
  pub line-stop :
      (k m total n more : ℕ) → n ≡ lines_in rows k → more ≡ lines_in rows (k + 1) → n ≤ m → m < more → k < total → k ≡ line_of rows total m
  line-stop k m total n more e q h l b =
      let s : k + 1 ≡ suc k = omega arith in
      let d : more ≡ lines_in rows (suc k) = rw s at q in
      sym (line-found k m total (omega arith) (omega arith) b)

  pub line-end : (k m total n : ℕ) → k ≡ total → n ≡ lines_in rows k → n ≤ m → total ≡ line_of rows total m
  line-end k m total n s e h = rw (← s) (sym (line-all k m (omega arith)))

  -- the range of a module that there isn't, and of one that there is
  pub rows_none : (total m line : ℕ) → line ≡ line_of rows total m → line ≡ total → record { first = total; count = 0 } ≡ row_range rows total m
  unfolding row_range
  rows_none total m line e s =
      let z : line_of rows total (suc m) - total ≡ 0 = omega (arith, line-le total (suc m)) in
      rw (eq-eqb (line_of rows total m) total (sym e ∙ s), z)

  module _ (total m line end : ℕ) (e : line ≡ line_of rows total m) (s : line ≡ total → ⊥) (q : end ≡ line_of rows total (m + 1)) where
    next-is : end ≡ line_of rows total (suc m)
    next-is = let z : m + 1 ≡ suc m = omega arith in rw z at q

    pub rows_fit : (line + 1 ≤ end) × (line + 1 ≤ total)
    rows_fit =
        let b : line_of rows total m < total = lt_of_le_of_ne (line-le total m) (λ d. s (e ∙ d)) in
        (omega (arith, line-next total m b, next-is), omega arith)

    pub rows-some : record { first = line + 1; count = end - (line + 1) } ≡ row_range rows total m
    unfolding row_range
    rows-some = rw (next-is, e, ne_eqb (line_of rows total m) total (λ d. s (e ∙ d)))

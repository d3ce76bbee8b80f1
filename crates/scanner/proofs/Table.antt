-- A rule of a table, proved at all of its entries by one test that antt computes, one entry after the other.
-- Assumes nothing.
use mathlib.Core.Path.{◌≡◌, refl, ◌∙◌, subst, sym}
use mathlib.Core.Bool.{Bool, true, false, cond, ◌&&◌}
use mathlib.Core.List.{List, [], ◌∷◌}
use Prim.Native.Nat.{ℕ, zero, suc, ◌+◌, ◌<◌}
use native.Mathlib.Nat.{add-zero, zero-add, add-suc, suc-add, le_of_suc-le-suc, not-suc-le-zero}
use native.Mathlib.Omega.{arith}
use lib.Dec.{T, eqb, ltb, eqb→eq, leb→le}
use lib.ListN.{length, get_or}
use Rattle.lists.specs.Tests.{by_cond, and-true-left, and-true-right}

pub both_left : (a b : Bool) → T (a && b) → T a
both_left true b t = tt
both_left false b t = t

pub both_right : (a b : Bool) → T (a && b) → T b
both_right true b t = t
both_right false b t = absurd t

true-T : (a : Bool) → a ≡ true → T a
true-T true e = tt
true-T false e = let z : ◌≡◌ {A = ℕ} 0 1 = cc in absurd (omega arith)

-- the test f passes at each entry of the list and its place, counted from i
abbrev pub every : (ℕ → ℕ → Bool) → ℕ → List ℕ → Bool
every f i [] = true
every f i (x ∷ xs) = let r = every f (suc i) xs in f i x && r

from : (f : ℕ → ℕ → Bool) (xs : List ℕ) (i : ℕ) → T (every f i xs) → (k : ℕ) → k < length xs → T (f (i + k) (get_or xs k 0))
from f [] i t k h = absurd (not-suc-le-zero h)
from f (x ∷ xs) i t zero h = subst (λ (m : ℕ). T (f m x)) (sym (add-zero i)) (both_left (f i x) (every f (suc i) xs) t)
from f (x ∷ xs) i t (suc k) h =
    subst (λ (m : ℕ). T (f m (get_or xs k 0))) (suc-add i k ∙ sym (add-suc i k))
    (from f xs (suc i) (both_right (f i x) (every f (suc i) xs) t) k (le_of_suc-le-suc h))

pub at : (f : ℕ → ℕ → Bool) (xs : List ℕ) → T (every f 0 xs) → (k : ℕ) → k < length xs → T (f k (get_or xs k 0))
at f xs t k h = subst (λ (m : ℕ). T (f m (get_or xs k 0))) (zero-add k) (from f xs 0 t k h)

-- what stands at a place of a table, where the test that each entry is what g says passes
module _ (g : ℕ → ℕ) (k : ℕ) (xs : List ℕ) where
  is-g : ℕ → ℕ → Bool
  is-g i x = eqb x (g i)

  found : T (every is-g 0 xs) → T (ltb k (length xs)) → get_or xs k 0 ≡ g k
  unfolding is-g
  found t h = eqb→eq (get_or xs k 0) (g k) (at is-g xs t k (leb→le (suc k) (length xs) h))

  pub entry : get_or xs k 0 ≡ cond (every (λ i x. eqb x (g i)) 0 xs && ltb k (length xs)) (g k) (get_or xs k 0)
  unfolding is-g
  entry =
      let a : Bool = every is-g 0 xs in
      let b : Bool = ltb k (length xs) in
      by_cond (λ (n : ℕ). get_or xs k 0 ≡ n) (a && b)
      (λ e. found (true-T a (and-true-left a b e)) (true-T b (and-true-right a b e)))
      (λ e. refl)

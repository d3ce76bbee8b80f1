-- Runs of bytes that pass a test.
-- Assumes nothing.
use Rattle.std.specs.Prelude.{◌≡◌, Bool, true, false, ℕ}
use Rattle.std.proofs.Math.Path.{refl}
use mathlib.Core.List.{List, [], ◌∷◌, ◌++◌}
use Rattle.rules.specs.Bytes.{all, run, rest}
use Rattle.lists.specs.Elements.{all_first, all-later}

-- the list is empty, or its first byte fails
abbrev pub Stops : (ℕ → Bool) → List ℕ → Type 0
Stops f [] = Unit {0}
Stops f (x ∷ xs) = f x ≡ false

module _ (f : ℕ → Bool) where
  run_none : (ys : List ℕ) → Stops f ys → run f ys ≡ []
  unfolding run
  run_none [] s = refl
  run_none (y ∷ ys) s = rw s

  rest-none : (ys : List ℕ) → Stops f ys → rest f ys ≡ ys
  unfolding rest
  rest-none [] s = refl
  rest-none (y ∷ ys) s = rw s

  -- bytes that pass, and then one that fails
  pub run-upto : (xs ys : List ℕ) → all f xs ≡ true → Stops f ys → run f (xs ++ ys) ≡ xs
  unfolding run
  run-upto [] ys a s = run_none ys s
  run-upto (x ∷ xs) ys a s = rw (all_first f x xs a, run-upto xs ys (all-later f x xs a) s)

  pub rest-upto : (xs ys : List ℕ) → all f xs ≡ true → Stops f ys → rest f (xs ++ ys) ≡ ys
  unfolding rest
  rest-upto [] ys a s = rest-none ys s
  rest-upto (x ∷ xs) ys a s = rw (all_first f x xs a, rest-upto xs ys (all-later f x xs a) s)

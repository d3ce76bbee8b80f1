-- Sums over the elements of a list.
-- Assumes nothing.
use Rattle.std.specs.Prelude.{◌≡◌, Bool, false, ℕ, ◌+◌, ◌*◌, ◌≤◌, drop}
use Rattle.std.proofs.Math.Path.{refl, ap}
use Rattle.std.proofs.Common.{◌∙◌, length-append}
use mathlib.Core.List.{List, [], ◌∷◌, ◌++◌, map, flat_map, reverse, reverse_aux}
use native.Mathlib.Omega.{arith}
use Rattle.std.proofs.Math.ListN.{length}
use Rattle.rules.specs.Bytes.{any}
use Rattle.rules.specs.Judgement.{sum, until}
use Rattle.lists.specs.Lists.{until_front}
use Rattle.lists.specs.Elements.{Each, each_map, each_all, any_none, none_any}

module _ {A : Type 0} (f : A → ℕ) where
  pub sum_more : (x : A) (xs : List A) → sum f (x ∷ xs) ≡ sum f xs + f x
  unfolding sum
  sum_more x xs = omega arith

  pub sum-append : (xs ys : List A) → sum f (xs ++ ys) ≡ sum f xs + sum f ys
  unfolding sum
  sum-append [] ys = omega arith
  sum-append (x ∷ xs) ys = omega (arith, sum-append xs ys)

  pub sum-behind : (xs ys : List A) → sum f (reverse_aux xs ys) ≡ sum f xs + sum f ys
  unfolding sum
  sum-behind [] ys = omega arith
  sum-behind (x ∷ xs) ys = omega (arith, sum-behind xs (x ∷ ys))

  pub sum-reverse : (xs : List A) → sum f (reverse xs) ≡ sum f xs
  unfolding sum
  sum-reverse xs = omega (arith, sum-behind xs [])

  pub sum-map : {B : Type 0} (g : B → A) (xs : List B) → sum f (map g xs) ≡ sum (λ x. f (g x)) xs
  unfolding sum
  sum-map g [] = refl
  sum-map g (x ∷ xs) = ap (λ (n : ℕ). f (g x) + n) (sum-map g xs)

  pub sum-flat_map : {B : Type 0} (g : B → List A) (xs : List B) → sum f (flat_map g xs) ≡ sum (λ x. sum f (g x)) xs
  unfolding sum flat_map
  sum-flat_map g [] = refl
  sum-flat_map g (x ∷ xs) = omega (arith, sum-append (g x) (flat_map g xs), sum-flat_map g xs)

  pub sum_same : (g : A → ℕ) → ((x : A) → f x ≡ g x) → (xs : List A) → sum f xs ≡ sum g xs
  unfolding sum
  sum_same g h [] = refl
  sum_same g h (x ∷ xs) = omega (arith, h x, sum_same g h xs)

  -- of the first ones
  pub sum-until : (t : A → Bool) (xs : List A) → sum f (until t xs) ≤ sum f xs
  sum-until t xs = omega (arith, ap (sum f) (until_front t xs), sum-append (until t xs) (drop (length (until t xs)) xs))

  -- of ones and zeros
  pub sum-le : ((x : A) → f x ≤ 1) → (xs : List A) → sum f xs ≤ length xs
  unfolding sum
  sum-le h [] = omega arith
  sum-le h (x ∷ xs) = omega (arith, h x, sum-le h xs)

  -- 0 just where each adds 0
  pub zeros-sum : (xs : List A) → Each (λ x. f x ≡ 0) xs → sum f xs ≡ 0
  unfolding sum
  zeros-sum [] h = refl
  zeros-sum (x ∷ xs) h = omega (arith, h.0, zeros-sum xs h.1)

  pub sum_zeros : (xs : List A) → sum f xs ≡ 0 → Each (λ x. f x ≡ 0) xs
  unfolding sum
  sum_zeros [] e = tt
  sum_zeros (x ∷ xs) e = (omega arith, sum_zeros xs (omega arith))

  pub sum-zero : ((x : A) → f x ≡ 0) → (xs : List A) → sum f xs ≡ 0
  sum-zero h xs = zeros-sum xs (each_all _ h xs)

-- and where no element passes a test that tells which add more
module _ {A : Type 0} (t : A → Bool) (f : A → ℕ) where
  pub none-sum : ((x : A) → t x ≡ false → f x ≡ 0) → (xs : List A) → any t xs ≡ false → sum f xs ≡ 0
  none-sum h xs e = zeros-sum f xs (each_map _ _ h xs (any_none t xs e))

  pub sum-none : ((x : A) → f x ≡ 0 → t x ≡ false) → (xs : List A) → sum f xs ≡ 0 → any t xs ≡ false
  sum-none h xs e = none_any t xs (each_map _ _ h xs (sum_zeros f xs e))

-- the length of joined lists is the sum of their lengths
module _ {A B : Type 0} (f : A → List B) where
  length-each : (g : A → ℕ) (xs : List A) → Each (λ x. length (f x) ≡ g x) xs → length (flat_map f xs) ≡ sum g xs
  unfolding sum flat_map
  length-each g [] h = refl
  length-each g (x ∷ xs) h = rw (length-append, h.0, length-each g xs h.1)

  pub length-flat_map : (g : A → ℕ) → ((x : A) → length (f x) ≡ g x) → (xs : List A) → length (flat_map f xs) ≡ sum g xs
  length-flat_map g h xs = length-each g xs (each_all _ h xs)

  pub length-equal : (k : ℕ) (xs : List A) → Each (λ x. length (f x) ≡ k) xs → length (flat_map f xs) ≡ k * length xs
  unfolding sum
  length-equal k xs h = length-each (λ x. k) xs h ∙ equal xs
    where
      equal : (xs : List A) → sum (λ x. k) xs ≡ k * length xs
      equal [] = omega arith
      equal (x ∷ xs) = omega (arith, equal xs)

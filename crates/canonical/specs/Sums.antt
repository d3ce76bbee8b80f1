-- Sums over statements: what they say of tests and of the sizes, whatever the order.
-- Assumes nothing.
use Rattle.std.specs.Prelude.{ℕ, ◌+◌, ◌≤◌, ◌≡◌, List, ◌++◌, Bool, true, false}
use Rattle.std.proofs.Math.Bool.{cond}
use Rattle.std.proofs.Common.{arith}
use borrow.Author.Tests.{ltb-false, le-ltb}
use Rattle.rules.specs.Bytes.{all}
use Rattle.rules.specs.Statements.{Statement}
use Rattle.rules.specs.Judgement.{sum, sizes, exceeds_size}
use Rattle.lists.specs.Tests.{by-test}
use Rattle.lists.specs.Elements.{each_map, each_of, all_of, any_none, none_any}
use Rattle.lists.specs.Sums.{sum-append, zeros-sum, sum_zeros}
use Rattle.canonical.specs.Fine.{times}

-- how many of two lists pass a test
module _ {A : Type 0} (f : A → Bool) where
  pub times-append : (xs ys : List A) → times f (xs ++ ys) ≡ times f xs + times f ys
  unfolding times
  times-append xs ys = sum-append (λ x. cond (f x) 1 0) xs ys

  -- all pass just where none fails
  unfoldable pub fails : A → ℕ
  fails x = cond (f x) 0 1

  fails-not : (x : A) → fails x ≡ 0 → f x ≡ true
  unfolding fails
  fails-not x e = by-test (f x) (λ q. q) (λ q. let z : 1 ≡ 0 = rw q at e in absurd (omega arith))

  pub all_none : (xs : List A) → all f xs ≡ true → sum fails xs ≡ 0
  unfolding fails
  all_none xs e = zeros-sum fails xs (each_of _ f (λ x q. rw q) xs e)

  pub none-all : (xs : List A) → sum fails xs ≡ 0 → all f xs ≡ true
  none-all xs e = all_of f xs (each_map _ _ fails-not xs (sum_zeros fails xs e))

-- statements a among statements b, in any order
module _ (a b : List Statement) (h : (f : Statement → ℕ) → sum f a ≤ sum f b) where
  pub all-fewer : (f : Statement → Bool) → all f b ≡ true → all f a ≡ true
  all-fewer f e = none-all f a (omega (arith, all_none f b e, h (fails f)))

  pub sizes-fewer : exceeds_size b ≡ false → exceeds_size a ≡ false
  unfolding exceeds_size
  sizes-fewer e =
      none_any _ sizes (each_map _ _ (λ z q. le-ltb z.0 (sum z.1 a) (omega (arith, h z.1, ltb-false z.0 (sum z.1 b) q))) sizes (any_none _ sizes e))

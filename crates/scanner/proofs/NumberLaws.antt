-- Decimal numbers with a cap: taking up a digit needs to know only the capped number so far.
-- Assumes nothing.
use mathlib.Core.Path.{◌≡◌, sym, ◌∙◌}
use mathlib.Core.List.{List, [], ◌∷◌}
use Prim.Native.Nat.{ℕ, suc, ◌+◌, ◌-◌, ◌*◌, ◌<◌, ◌≤◌}
use native.Mathlib.Numerals.{add-one}
use native.Mathlib.Omega.{arith}
use lib.ListN.{length, get_or, drop, drop_of_length-le}
use lib.Seq.{drop-cons}
use Rattle.rules.specs.Tokens.{number}
use Rattle.scanner.specs.Numbers.{capped}

pub capped_small : (n : ℕ) → n ≤ 2147483649 → capped n ≡ n
unfolding capped
capped_small n h = omega arith

pub capped_le : (n : ℕ) → capped n ≤ 2147483649
unfolding capped
capped_le n = omega arith

capped-digit : (n d : ℕ) → capped (capped n * 10 + d) ≡ capped (n * 10 + d)
unfolding capped
capped-digit n d = omega arith

pub capped-number : (n : ℕ) (l : List ℕ) → capped (number 10 (capped n) l) ≡ capped (number 10 n l)
unfolding number
capped-number n [] = capped_small (capped n) (capped_le n)
capped-number n (b ∷ bs) =
    sym (capped-number (capped n * 10 + (b - 48)) bs) ∙ rw capped-digit (capped-number (n * 10 + (b - 48)) bs)

module _ (s : List ℕ) (n i : ℕ) where
  pub number_more : i < length s → capped (number 10 n (drop i s)) ≡ capped (number 10 (capped (n * 10 + (get_or s i 0 - 48))) (drop (i + 1) s))
  unfolding number
  number_more h = rw (drop-cons s i 0, add-one) (sym (capped-number (n * 10 + (get_or s i 0 - 48)) (drop (suc i) s)))

  pub number-end : length s ≤ i → n ≤ 2147483649 → capped (number 10 n (drop i s)) ≡ n
  unfolding number
  number-end h k = rw drop_of_length-le (capped_small n k)

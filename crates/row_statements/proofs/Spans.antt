-- Spans of a table: how long they are, and what a table has from a place on.
-- Assumes nothing.
use Prim.Native.Nat.{ℕ, min, ◌+◌, ◌-◌, ◌≤◌, ◌<◌}
use mathlib.Core.Path.{◌≡◌, refl, sym, ap, ◌∙◌}
use mathlib.Core.List.{List, [], ◌++◌}
use mathlib.Core.Bool.{true, false}
use native.Mathlib.Omega.{arith}
use lib.ListN.{length, take, drop, length-take, length-drop}
use borrow.Author.Tests.{eq-eqb, ne_eqb, eqb-true}
use Rattle.row_statements.specs.Parts.{span, whole}
use Rattle.netlist.specs.Spans.{Has}
use Rattle.lists.specs.Parts.{slice-join, slice-span, take-taken}

pub span-is : (t : List ℕ) (at n : ℕ) → span t at n ≡ take n (drop at t)
unfolding span
span-is t at n = slice-span at n t

long : (t : List ℕ) (at n : ℕ) → length (span t at n) ≡ min n (length t - at)
long t at n = ap length (span-is t at n) ∙ length-take n (drop at t) ∙ ap (min n) (length-drop at t)

module _ (t : List ℕ) (at : ℕ) where
  pub whole_out : (n : ℕ) → 0 < n → length t < at + n → whole t at n ≡ false
  unfolding whole
  whole_out n p h = ne_eqb (length (span t at n)) n (λ e. omega (arith, long t at n, e))

  pub whole_long : (n : ℕ) → whole t at n ≡ true → length (span t at n) ≡ n
  unfolding whole
  whole_long n e = eqb-true (length (span t at n)) n e

  pub long-whole : (n : ℕ) → length (span t at n) ≡ n → whole t at n ≡ true
  unfolding whole
  long-whole n e = eq-eqb (length (span t at n)) n e

  pub whole-none : whole t at 0 ≡ true
  whole-none = long-whole 0 (omega (arith, long t at 0))

  pub whole_in : (n : ℕ) → at + n ≤ length t → whole t at n ≡ true
  whole_in n h = long-whole n (omega (arith, long t at n))

  pub whole-inside : (n : ℕ) → whole t at n ≡ true → 0 < n → at + n ≤ length t
  whole-inside n e p = omega (arith, long t at n, whole_long n e)

  pub span_none : span t at 0 ≡ []
  span_none = span-is t at 0

-- ---- what a table has

module _ (t : List ℕ) (at : ℕ) where
  pub has-none : Has t at []
  unfolding Has
  has-none = refl

  pub has_span : (n : ℕ) → Has t at (span t at n)
  unfolding Has
  has_span n = rw span-is (take-taken n (drop at t))

  -- the values are those of the span of their length
  pub span-has : (n : ℕ) (xs : List ℕ) → Has t at xs → n ≡ length xs → span t at n ≡ xs
  unfolding Has
  span-has n xs h e = span-is t at n ∙ rw e h

  pub has-whole : (n : ℕ) (xs : List ℕ) → Has t at xs → n ≡ length xs → whole t at n ≡ true
  has-whole n xs h e = long-whole t at n (ap length (span-has n xs h e) ∙ sym e)

  -- two spans, one behind the other
  pub spans : (m n : ℕ) → span t at m ++ span t (at + m) n ≡ span t at (m + n)
  unfolding span
  spans m n = slice-join t at m n

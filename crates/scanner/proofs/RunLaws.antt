-- The laws of where a run ends, for every test.
-- Assumes nothing.
use mathlib.Core.Path.{◌≡◌, sym, ◌∙◌}
use mathlib.Core.Logic.{◌⊎◌, ⊎_elim}
use mathlib.Core.Bool.{Bool, true, false}
use mathlib.Core.List.{List, []}
use Prim.Native.Nat.{ℕ, ◌+◌, ◌-◌, ◌<◌, ◌≤◌, max}
use native.Mathlib.Numerals.{add-one}
use native.Mathlib.Omega.{arith}
use lib.ListN.{length, get_or, take, drop, length-drop, drop_of_length-le}
use lib.Seq.{drop-cons, drop-drop, slice}
use Rattle.rules.specs.Bytes.{run, rest}
use Rattle.scanner.specs.Runs.{end_of}
use Rattle.lists.specs.Bytes.{run-le, take-run, drop-run}
use Rattle.lists.specs.Tests.{by_order}
use Rattle.lists.specs.Parts.{slice-part, slice_cut, slice-none}

end_of-past : (f : ℕ → Bool) (s : List ℕ) (i : ℕ) → length s ≤ i → end_of f s i ≡ i
unfolding end_of run
end_of-past f s i h = rw (drop_of_length-le s h) (omega arith)

module _ (f : ℕ → Bool) (s : List ℕ) (i : ℕ) where
  pub end_of-end : length s ≤ i → end_of f s i ≡ i
  end_of-end = end_of-past f s i

  pub end_of-more : i < length s → f (get_or s i 0) ≡ true → end_of f s i ≡ end_of f s (i + 1)
  unfolding end_of run
  end_of-more h t = rw (drop-cons s i 0, add-one, t) (omega arith)

  pub end_of-stop : i < length s → f (get_or s i 0) ≡ false → end_of f s i ≡ i
  unfolding end_of run
  end_of-stop h t = rw (drop-cons s i 0, t) (omega arith)

  -- a run taken up to the last byte, from a place that may lie behind it
  pub end_of-all : (at : ℕ) → at ≤ i → (at ≤ length s → i ≤ length s) → length s ≤ i → end_of f s at ≡ end_of f s i → max at (length s) ≡ end_of f s at
  end_of-all at l h k e =
      by_order (length s) at
      (λ b. omega (arith, end_of-past f s at b))
      (λ b. omega (arith, e ∙ end_of-end k, h (omega arith)))

  pub end_of-low : i ≤ end_of f s i
  unfolding end_of
  end_of-low = omega arith

  pub end_of-high : i ≤ length s → end_of f s i ≤ length s
  unfolding end_of
  end_of-high h = omega (arith, run-le f (drop i s), length-drop i s)

  count : end_of f s i - i ≡ length (run f (drop i s))
  unfolding end_of
  count = omega arith

  pub end_of-run : take (end_of f s i - i) (drop i s) ≡ run f (drop i s)
  end_of-run = rw count (take-run f (drop i s))

  pub end_of-slice : slice i (end_of f s i) s ≡ run f (drop i s)
  end_of-slice = slice-part i (end_of f s i) s ∙ end_of-run

  pub end_of-rest : drop (end_of f s i) s ≡ rest f (drop i s)
  unfolding end_of
  end_of-rest = sym (drop-drop (length (run f (drop i s))) i s) ∙ drop-run f (drop i s)

-- the part that code cuts at the table's end
module _ {A : Type 0} (start end stop : ℕ) (l : List A) (came : (stop ≡ end) ⊎ ((length l ≤ end) × (stop ≡ length l))) where
  stop-same : slice start stop l ≡ slice start end l
  stop-same = ⊎_elim (λ e. rw e) (λ h. rw h.1 (slice_cut start end l h.0)) came

  pub cut-none : stop ≤ start → [] ≡ slice start end l
  cut-none h = sym (slice-none start stop l h) ∙ stop-same

  pub cut-part : take (stop - start) (drop start l) ≡ slice start end l
  cut-part = sym (slice-part start stop l) ∙ stop-same

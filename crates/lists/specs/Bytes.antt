-- Laws of the rules' definitions on bytes: runs, tests of all bytes, equal bytes.
-- Assumes nothing.
use Rattle.std.specs.Prelude.{◌≡◌, Bool, true, false, ◌&&◌, ℕ, suc, ◌+◌, ◌<◌, ◌≤◌, eqb, leb, length, get_or, take, drop}
use Rattle.std.proofs.Math.Path.{refl}
use Rattle.std.proofs.Common.{sym, ap, ap₂, ◌∙◌, arith, length-append}
use Rattle.std.proofs.Math.Bool.{and-false}
use mathlib.Core.List.{List, [], ◌∷◌, ◌++◌}
use Rattle.std.proofs.Math.Numerals.{add-one}
use Rattle.std.proofs.Math.Dec.{eqb-zero-suc, eqb-suc-suc}
use Rattle.std.proofs.Math.ListN.{drop_of_length-le}
use Rattle.std.proofs.Math.Seq.{drop-cons, take-append_seam, drop-append_seam}
use borrow.Author.Tests.{eq-eqb, eqb-true, le-leb, lt-leb, leb-true}
use Rattle.rules.specs.Limits.{longest_name}
use Rattle.rules.specs.Bytes.{same, all, run, rest, within, is_name_start, is_name_byte, legal}
use Rattle.lists.specs.Tests.{by-test, and-true-left, and-true-right}

module _ (lo hi b : ℕ) where
  pub within-yes : lo ≤ b → b ≤ hi → within lo hi b ≡ true
  unfolding within
  within-yes h k = rw (le-leb lo b, le-leb b hi)

  pub within-below : b < lo → within lo hi b ≡ false
  unfolding within
  within-below h = rw (lt-leb lo b)

  pub within-above : hi < b → within lo hi b ≡ false
  unfolding within
  within-above h = rw (lt-leb b hi) (and-false (leb lo b))

  pub within_low : within lo hi b ≡ true → lo ≤ b
  unfolding within
  within_low e = leb-true lo b (and-true-left (leb lo b) (leb b hi) e)

  pub within-high : within lo hi b ≡ true → b ≤ hi
  unfolding within
  within-high e = leb-true b hi (and-true-right (leb lo b) (leb b hi) e)

-- a legal name is short
pub legal-short : (n : List ℕ) → legal n ≡ true → length n ≤ longest_name
unfolding legal
legal-short [] e = omega arith
legal-short (b ∷ bs) e = omega (arith, within-high 1 254 (length bs) (and-true-right (is_name_start b && all is_name_byte bs) (within 1 254 (length bs)) e))

module _ (f : ℕ → Bool) where
  module _ (b : ℕ) (bs : List ℕ) where
    pub run_more : f b ≡ true → run f (b ∷ bs) ≡ b ∷ run f bs
    unfolding run
    run_more t = rw t

    pub rest_more : f b ≡ true → rest f (b ∷ bs) ≡ rest f bs
    unfolding rest
    rest_more t = rw t

  pub run-rest : (l : List ℕ) → run f l ++ rest f l ≡ l
  unfolding run rest
  run-rest [] = refl
  run-rest (b ∷ bs) = by-test (f b) (λ e. rw (e, run-rest bs)) (λ e. rw e)

  pub run-le : (l : List ℕ) → length (run f l) ≤ length l
  run-le l = omega (arith, simp length-append at (ap length (run-rest l)))

  pub take-run : (l : List ℕ) → take (length (run f l)) l ≡ run f l
  take-run l = ap (take (length (run f l))) (sym (run-rest l)) ∙ take-append_seam (run f l) (rest f l)

  pub drop-run : (l : List ℕ) → drop (length (run f l)) l ≡ rest f l
  drop-run l = ap (drop (length (run f l))) (sym (run-rest l)) ∙ drop-append_seam (run f l) (rest f l)

  -- all bytes pass the test just where the run is the whole
  pub all-run : (l : List ℕ) → all f l ≡ eqb (length (run f l)) (length l)
  unfolding run all
  all-run [] = refl
  all-run (b ∷ bs) = by-test (f b) (λ e. rw (e, eqb-suc-suc) (all-run bs)) (λ e. rw (e, eqb-zero-suc))

pub same_refl : (a : List ℕ) → same a a ≡ true
unfolding same
same_refl [] = refl
same_refl (x ∷ xs) = rw (eq-eqb x x refl) (same_refl xs)

pub same-eq : (a b : List ℕ) → same a b ≡ true → a ≡ b
unfolding same
same-eq [] [] e = refl
same-eq [] (y ∷ ys) e = cc
same-eq (x ∷ xs) [] e = cc
same-eq (x ∷ xs) (y ∷ ys) e = ap₂ ◌∷◌ (eqb-true x y (and-true-left _ _ e)) (same-eq xs ys (and-true-right (eqb x y) _ e))

pub same-sym : (a b : List ℕ) → same a b ≡ same b a
same-sym a b =
    by-test (same a b)
    (λ e. rw (same-eq a b e))
    (λ e. by-test (same b a) (λ h. rw (same-eq b a h)) (λ h. rw (e, h)))

-- bytes of different lengths are not the same
pub same_length : (a b : List ℕ) → (length a ≡ length b → ⊥) → same a b ≡ false
unfolding same
same_length [] [] h = absurd (h refl)
same_length [] (y ∷ ys) h = refl
same_length (x ∷ xs) [] h = refl
same_length (x ∷ xs) (y ∷ ys) h = rw (same_length xs ys (λ e. h (ap suc e))) (and-false (eqb x y))

-- one byte more, and the end, of two lists of bytes at the same position
module _ (a b : List ℕ) (i : ℕ) where
  pub same_more : i < length a → i < length b → get_or a i 0 ≡ get_or b i 0 → same (drop i a) (drop i b) ≡ same (drop (i + 1) a) (drop (i + 1) b)
  unfolding same
  same_more h k e = rw (drop-cons a i 0, drop-cons b i 0, add-one, eq-eqb (get_or a i 0) (get_or b i 0) e)

  pub same_end : length a ≤ i → length b ≤ i → same (drop i a) (drop i b) ≡ true
  unfolding same
  same_end h k = rw (drop_of_length-le a h, drop_of_length-le b k)

-- bytes that differ somewhere are not the same
pub same-apart : (a b : List ℕ) (i : ℕ) → (get_or a i 0 ≡ get_or b i 0 → ⊥) → same a b ≡ false
same-apart a b i h = by-test (same a b) (λ e. absurd (h (ap (λ (l : List ℕ). get_or l i 0) (same-eq a b e)))) (λ e. e)

-- one byte more, before the last one
pub same-on :
    (a b : List ℕ) (i last : ℕ) → i < last → last < length a → length a ≡ length b → get_or a i 0 ≡ get_or b i 0 → same a b ≡ same (drop i a) (drop i b) →
    same a b ≡ same (drop (i + 1) a) (drop (i + 1) b)
same-on a b i last h k l e s = s ∙ same_more a b i (omega arith) (omega arith) e

-- what is left is the last byte, which is the same
pub same-last :
    (a b : List ℕ) (last i : ℕ) → length a ≡ length b → last + 1 ≡ length a → get_or a last 0 ≡ get_or b last 0 → i ≤ last → last ≤ i → same a b ≡ same (drop i a) (drop i b) →
    true ≡ same a b
same-last a b last i l k e h g s =
    let q : i ≡ last = omega arith in
    let t : same a b ≡ same (drop last a) (drop last b) = rw q at s in
    sym (t ∙ same_more a b last (omega arith) (omega arith) e ∙ same_end a b (last + 1) (omega arith) (omega arith))

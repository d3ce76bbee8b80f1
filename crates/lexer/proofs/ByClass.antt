-- What the rules say of the bytes from a place on, by the class of the byte there.
-- Assumes nothing.
use mathlib.Core.Path.{◌≡◌, refl, sym, ap, ◌∙◌}
use mathlib.Core.Bool.{Bool, true, false, cond}
use mathlib.Core.List.{List, [], ◌∷◌}
use Prim.Native.Nat.{ℕ, ◌+◌, ◌≤◌, ◌<◌}
use native.Mathlib.Numerals.{add-one}
use native.Mathlib.Omega.{arith}
use lib.Dec.{eqb, leb, leb→le}
use lib.ListN.{length, get_or, drop, replicate, length-replicate}
use lib.Seq.{slice, drop-cons}
use borrow.Author.Tests.{ne_eqb}
use Rattle.rules.specs.Bytes.{within, is_blank, run, rest, bytes_open}
use Rattle.rules.specs.Tokens.{Step, token, done, wrong, mark, decimal, quoted, plain, name_step, word_step, number_step, minus_step, string_step, step_at, step}
use Rattle.scanner.specs.Class.{class_of, in_class, class_open}
use Rattle.scanner.specs.Runs.{end_of}
use Rattle.lists.specs.Tests.{by-test}
use Rattle.lists.specs.Bytes.{run_more, rest_more, within-yes, within-below}
use Rattle.scanner.proofs.Table.{at}
use Rattle.scanner.proofs.ClassLaws.{inside, class-one, class-blank, class-mark, class-hash, class-name-start, class-quote, class-digit, class-minus, class-lower, class-name-byte}
use Rattle.scanner.proofs.RunLaws.{end_of-low, end_of-more, end_of-slice, end_of-rest}
use Rattle.lexer.specs.Lexemes.{Starts}

-- ---- blanks

step-rest : (l : List ℕ) → step l ≡ step (rest is_blank l)
unfolding step rest
step-rest [] = refl
step-rest (b ∷ bs) = by-test (is_blank b) (λ e. rw e (step-rest bs)) (λ e. rw (e, e))

rest-stops : (f : ℕ → Bool) (l : List ℕ) (b : ℕ) (bs : List ℕ) → rest f l ≡ b ∷ bs → f b ≡ false
unfolding rest
rest-stops f [] b bs h = let z : ◌≡◌ {A = ℕ} 0 1 = cc in absurd (omega arith)
rest-stops f (x ∷ xs) b bs h =
    by-test (f x) (λ e. rest-stops f xs b bs (rw e at h)) (λ e. let g : x ∷ xs ≡ b ∷ bs = rw e at h in let q : x ≡ b = cc in rw (← q) e)

-- a token is looked for behind the blanks
pub step-blanks : (s : List ℕ) (at : ℕ) → step (drop at s) ≡ step (drop (end_of (in_class 3 3) s at) s)
step-blanks s at = step-rest (drop at s) ∙ ap step (ap (λ (f : ℕ → Bool). rest f (drop at s)) class-blank ∙ sym (end_of-rest (in_class 3 3) s at))

pub not-blank : (s : List ℕ) (at p : ℕ) → p ≡ end_of (in_class 3 3) s at → p < length s → eqb (class_of (get_or s p 0)) 3 ≡ false
not-blank s at p e h =
    sym (class-one 3 (get_or s p 0))
    ∙ rest-stops (in_class 3 3) (drop at s) (get_or s p 0) _ (sym (end_of-rest (in_class 3 3) s at) ∙ ap (λ (k : ℕ). drop k s) (sym e) ∙ drop-cons s p 0 h)

-- ---- the byte's class decides

-- no class is above 14
pub class-le : (b : ℕ) → b < 256 → class_of b ≤ 14
unfolding class_open bytes_open
class-le b h = leb→le (class_of b) 14 (at (λ k x. leb (class_of k) 14) (replicate 256 0) tt b (rw length-replicate h))

unfoldable step_by : ℕ → ℕ → List ℕ → Step
step_by k b bs =
    cond (eqb k 7) (name_step (b ∷ bs) (b ∷ run (in_class 4 14) bs) (rest (in_class 4 14) bs))
    (cond (within 13 14 k) (word_step (b ∷ bs) (b ∷ run (in_class 13 14) bs) (rest (in_class 13 14) bs))
    (cond (within 9 11 k) (number_step (b ∷ bs) (decimal (b ∷ run (in_class 9 11) bs)) (rest (in_class 9 11) bs))
    (cond (eqb k 12) (minus_step (b ∷ bs) (run (in_class 9 11) bs) (rest (in_class 9 11) bs))
    (cond (eqb k 8) (string_step (b ∷ bs) (quoted plain bs))
    (cond (eqb k 4) (token (mark b) bs)
    (cond (eqb k 5) done (wrong (b ∷ bs))))))))

-- a test of bytes that is one class
one : (f : ℕ → Bool) (k b : ℕ) → f ≡ in_class k k → f b ≡ eqb (class_of b) k
one f k b e = ap (λ (g : ℕ → Bool). g b) e ∙ class-one k b

step-class : (b : ℕ) (bs : List ℕ) → step_at b bs ≡ step_by (class_of b) b bs
unfolding step_at step_by in_class
step-class b bs =
    rw (one _ 7 b class-name-start, class-name-byte, class-lower, class-digit, one _ 12 b class-minus, one _ 8 b class-quote, one _ 4 b class-mark, one _ 5 b class-hash)

module _ (s : List ℕ) (p : ℕ) (h : p < length s) where
  head : drop p s ≡ get_or s p 0 ∷ drop (p + 1) s
  head = rw add-one (drop-cons s p 0 h)

  at-class : (k : ℕ) → class_of (get_or s p 0) ≡ k → eqb k 3 ≡ false → step (drop p s) ≡ step_by k (get_or s p 0) (drop (p + 1) s)
  unfolding step
  at-class k e n = rw (head, one is_blank 3 (get_or s p 0) class-blank, e, n) (step-class (get_or s p 0) (drop (p + 1) s) ∙ ap (λ (j : ℕ). step_by j (get_or s p 0) (drop (p + 1) s)) e)

  -- a run from a byte that passes the test
  module _ (f : ℕ → Bool) (t : f (get_or s p 0) ≡ true) where
    pub past : p < end_of f s p
    past = omega (arith, end_of-low f s (p + 1), end_of-more f s p h t)

    run-from : slice p (end_of f s p) s ≡ get_or s p 0 ∷ run f (drop (p + 1) s)
    run-from = end_of-slice f s p ∙ ap (run f) head ∙ run_more f (get_or s p 0) (drop (p + 1) s) t

    rest_from : drop (end_of f s p) s ≡ rest f (drop (p + 1) s)
    rest_from = end_of-rest f s p ∙ ap (rest f) head ∙ rest_more f (get_or s p 0) (drop (p + 1) s) t

    span : (F : List ℕ → List ℕ → List ℕ → Step) (e : ℕ) → e ≡ end_of f s p → F (get_or s p 0 ∷ drop (p + 1) s) (get_or s p 0 ∷ run f (drop (p + 1) s)) (rest f (drop (p + 1) s)) ≡ F (drop p s) (slice p e s) (drop e s)
    span F e q = rw (q, run-from, rest_from) (ap (λ (l : List ℕ). F l (get_or s p 0 ∷ run f (drop (p + 1) s)) (rest f (drop (p + 1) s))) (sym head))

-- the byte at p passes each test of classes around its own
pub started : (s : List ℕ) (p lo hi : ℕ) → Starts s p lo hi → (a b : ℕ) → a ≤ lo → hi ≤ b → in_class a b (get_or s p 0) ≡ true
started s p lo hi c a b h k = inside a b (get_or s p 0) (class_of (get_or s p 0)) refl (omega (arith, c.low)) (omega (arith, c.high))

module _ (s : List ℕ) (p : ℕ) where
  pub at_name : Starts s p 7 7 → (e : ℕ) → e ≡ end_of (in_class 4 14) s p → step (drop p s) ≡ name_step (drop p s) (slice p e s) (drop e s)
  unfolding step_by
  at_name c e q =
      at-class s p c.inside 7 (omega (arith, c.low, c.high)) refl
      ∙ span s p c.inside (in_class 4 14) (started s p 7 7 c 4 14 (omega arith) (omega arith)) name_step e q

  pub at-word : Starts s p 13 14 → (e : ℕ) → e ≡ end_of (in_class 13 14) s p → step (drop p s) ≡ word_step (drop p s) (slice p e s) (drop e s)
  unfolding step_by
  at-word c e q =
      let k : ℕ = class_of (get_or s p 0) in
      at-class s p c.inside k refl (ne_eqb k 3 (λ z. omega (arith, c.low)))
      ∙ rw (ne_eqb k 7 (λ z. omega (arith, c.low)), within-yes 13 14 k c.low c.high)
      (span s p c.inside (in_class 13 14) (started s p 13 14 c 13 14 (omega arith) (omega arith)) word_step e q)

  pub at-number : Starts s p 9 11 → (e : ℕ) → e ≡ end_of (in_class 9 11) s p → step (drop p s) ≡ number_step (drop p s) (decimal (slice p e s)) (drop e s)
  unfolding step_by
  at-number c e q =
      let k : ℕ = class_of (get_or s p 0) in
      at-class s p c.inside k refl (ne_eqb k 3 (λ z. omega (arith, c.low)))
      ∙ rw (ne_eqb k 7 (λ z. omega (arith, c.low)), within-below 13 14 k (omega (arith, c.high)), within-yes 9 11 k c.low c.high)
      (span s p c.inside (in_class 9 11) (started s p 9 11 c 9 11 (omega arith) (omega arith)) (λ from w l. number_step from (decimal w) l) e q)

  pub at-minus : Starts s p 12 12 → (e : ℕ) → e ≡ end_of (in_class 9 11) s (p + 1) → step (drop p s) ≡ minus_step (drop p s) (slice (p + 1) e s) (drop e s)
  unfolding step_by within
  at-minus c e q =
      at-class s p c.inside 12 (omega (arith, c.low, c.high)) refl
      ∙ rw (q, end_of-slice (in_class 9 11) s (p + 1), end_of-rest (in_class 9 11) s (p + 1))
      (ap (λ (l : List ℕ). minus_step l (run (in_class 9 11) (drop (p + 1) s)) (rest (in_class 9 11) (drop (p + 1) s))) (sym (head s p c.inside)))

  pub at-string : Starts s p 8 8 → step (drop p s) ≡ string_step (drop p s) (quoted plain (drop (p + 1) s))
  unfolding step_by within
  at-string c =
      at-class s p c.inside 8 (omega (arith, c.low, c.high)) refl
      ∙ ap (λ (l : List ℕ). string_step l (quoted plain (drop (p + 1) s))) (sym (head s p c.inside))

  module _ (h : p < length s) (k : ℕ) (c : k ≡ class_of (get_or s p 0)) where
    pub at_mark : k ≡ 4 → step (drop p s) ≡ token (mark (get_or s p 0)) (drop (p + 1) s)
    unfolding step_by within
    at_mark e = at-class s p h 4 (sym c ∙ e) refl

    pub at-hash : k ≡ 5 → step (drop p s) ≡ done
    unfolding step_by within
    at-hash e = at-class s p h 5 (sym c ∙ e) refl

    pub at_other : eqb (class_of (get_or s p 0)) 3 ≡ false → k < 7 → (k ≡ 4 → ⊥) → (k ≡ 5 → ⊥) → step (drop p s) ≡ wrong (drop p s)
    unfolding step_by
    at_other n l m o =
        at-class s p h k (sym c) (ap (λ (j : ℕ). eqb j 3) c ∙ n)
        ∙ rw (ne_eqb k 7 (λ z. omega arith), within-below 13 14 k (omega arith), within-below 9 11 k (omega arith), ne_eqb k 12 (λ z. omega arith), ne_eqb k 8 (λ z. omega arith), ne_eqb k 4 m, ne_eqb k 5 o)
        (ap wrong (sym (head s p h)))

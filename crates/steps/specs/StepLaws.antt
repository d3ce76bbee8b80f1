-- Steps by their codes: how many signals each has, and which may stand where.
-- Assumes nothing.
use Rattle.std.specs.Prelude.{ℕ, ◌+◌, ◌-◌, ◌≤◌, ◌<◌, ◌≡◌, refl, Bool, cond, ◌&&◌, ◌||◌, leb, ltb}
use Rattle.std.proofs.Common.{sym, ap, ◌∙◌, arith}
use Rattle.std.proofs.Math.Bool.{true, false, or-false}
use Rattle.std.proofs.Math.Dec.{eqb}
use borrow.Author.Tests.{ne_eqb, eqb-true, eqb-false, leb-true, le-leb, ltb-true, ltb-false, lt-ltb, le-ltb}
use Rattle.rules.specs.Bytes.{any, within}
use Rattle.rules.specs.Statements.{Step, assign, update, switch, case, low, high, posedge, negedge, edge, global, init, always, step_code}
use Rattle.lists.specs.Tests.{by-test, and-true-left, and-true-right, never}
use Rattle.rules.specs.Shapes.{in_process, in_case}
use Rattle.admitted.specs.Admitted.{syncs, nested_steps, steps_in, arity}
use Rattle.context.specs.Place.{is_sync, scope_of}
use Rattle.steps.specs.Steps.{of_steps, step_stands, IsStep, ArityIs}

-- ---- the codes

-- a number from another on is that one or lies behind it
by-range : (P : ℕ → Type 0) (from t : ℕ) → from ≤ t → P from → (from + 1 ≤ t → P t) → P t
by-range P from t h p q = by-test (eqb from t) (λ e. rw (← eqb-true from t e) p) (λ e. q (omega (arith, eqb-false from t e)))

sync-few : (t : ℕ) → 23 ≤ t → t ≤ 30 → of_steps t syncs ≡ true
unfolding of_steps any syncs step_code
sync-few t h l =
    let P : ℕ → Type 0 = λ n. of_steps n syncs ≡ true in
    by-range P 23 t h refl
    (λ a. by-range P 24 t a refl
    (λ b. by-range P 25 t b refl
    (λ c. by-range P 26 t c refl
    (λ d. by-range P 27 t d refl
    (λ e. by-range P 28 t e refl
    (λ f. by-range P 29 t f refl
    (λ g. by-range P 30 t g refl (λ i. absurd (omega arith)))))))))

sync-other : (t : ℕ) → is_sync t ≡ false → of_steps t syncs ≡ false
unfolding of_steps any syncs step_code is_sync
sync-other t h =
    let out : (k : ℕ) → 23 ≤ k → k ≤ 30 → eqb t k ≡ false = λ k a b. ne_eqb t k (λ e. never (is_sync t) (rw (le-leb 23 t (omega arith), le-leb t 30 (omega arith))) h) in
    rw (
      out 26 (omega arith) (omega arith),
      out 27 (omega arith) (omega arith),
      out 28 (omega arith) (omega arith),
      out 29 (omega arith) (omega arith),
      out 30 (omega arith) (omega arith),
      out 23 (omega arith) (omega arith),
      out 24 (omega arith) (omega arith),
      out 25 (omega arith) (omega arith),
    )

sync-codes : (t : ℕ) → is_sync t ≡ of_steps t syncs
unfolding is_sync
sync-codes t =
    by-test (is_sync t)
    (λ e. e ∙ sym (sync-few t (leb-true 23 t (and-true-left (leb 23 t) _ e)) (leb-true t 30 (and-true-right (leb 23 t) _ e))))
    (λ e. e ∙ sym (sync-other t e))

-- ---- how many signals

unfoldable arity_of : (t n : ℕ) → Bool
arity_of t n =
    cond (eqb t 21) true
    (cond (eqb t 19 || eqb t 31) (eqb n 2)
    (cond (eqb t 20 || within 26 30 t) (eqb n 1)
    (within 23 25 t && eqb n 0)))

arity-of : (p : Step) (n : ℕ) → arity_of (step_code p) n ≡ arity p n
unfolding arity_of arity step_code within
arity-of assign n = refl
arity-of update n = refl
arity-of switch n = refl
arity-of case n = refl
arity-of low n = refl
arity-of high n = refl
arity-of posedge n = refl
arity-of negedge n = refl
arity-of edge n = refl
arity-of global n = refl
arity-of init n = refl
arity-of always n = refl

by-within : {P : Type 0} (a b t : ℕ) → within a b t ≡ true → (a ≤ t → t ≤ b → P) → P
unfolding within
by-within a b t e f = f (leb-true a t (and-true-left (leb a t) _ e)) (leb-true t b (and-true-right (leb a t) _ e))

two-codes : (t : ℕ) (p q : Step) → (eqb t (step_code p) || eqb t (step_code q)) ≡ true → IsStep t
two-codes t p q e =
    by-test (eqb t (step_code p)) (λ h. (p, sym (eqb-true t (step_code p) h)))
    (λ h. by-test (eqb t (step_code q)) (λ g. (q, sym (eqb-true t (step_code q) g))) (λ g. never _ e (rw (h, g))))

waited-codes : (t : ℕ) → within 26 30 t ≡ true → IsStep t
unfolding step_code
waited-codes t e =
    by-within 26 30 t e
    (λ h l.
    by-range IsStep 26 t h (low, refl)
    (λ a. by-range IsStep 27 t a (high, refl)
    (λ b. by-range IsStep 28 t b (posedge, refl)
    (λ c. by-range IsStep 29 t c (negedge, refl)
    (λ d. by-range IsStep 30 t d (edge, refl) (λ f. absurd (omega arith)))))))

bare-codes : (t : ℕ) → within 23 25 t ≡ true → IsStep t
unfolding step_code
bare-codes t e =
    by-within 23 25 t e
    (λ h l. by-range IsStep 23 t h (global, refl) (λ a. by-range IsStep 24 t a (init, refl) (λ b. by-range IsStep 25 t b (always, refl) (λ c. absurd (omega arith)))))

arity-step : (t n : ℕ) → arity_of t n ≡ true → IsStep t
unfolding arity_of step_code
arity-step t n e =
    by-test (eqb t 21) (λ a. (case, sym (eqb-true t 21 a)))
    (λ a. by-test (eqb t 19 || eqb t 31) (two-codes t assign update)
    (λ b. by-test (eqb t 20 || within 26 30 t)
    (λ c. by-test (eqb t 20) (λ d. (switch, sym (eqb-true t 20 d))) (λ d. waited-codes t (rw d at c)))
    (λ c. bare-codes t (and-true-left (within 23 25 t) (eqb n 0) (rw (a, b, c) at e)))))

arity-is : (t n : ℕ) (r : Bool) → r ≡ arity_of t n → ArityIs t n r
arity-is t n r e = record { step = λ h. arity-step t n (sym e ∙ h); fits = λ p q. e ∙ ap (λ (k : ℕ). arity_of k n) (sym q) ∙ arity-of p n }

module _ (t n : ℕ) where
  pub fits-any : t ≡ 21 → ArityIs t n true
  unfolding arity_of
  fits-any e = arity-is t n true (rw e)

  module _ (h : t ≡ 21 → ⊥) where
    pub fits-two : (eqb t 19 || eqb t 31) ≡ true → ArityIs t n (eqb n 2)
    unfolding arity_of
    fits-two e = arity-is t n _ (rw (ne_eqb t 21 h, e))

    module _ (e : (eqb t 19 || eqb t 31) ≡ false) {b : Bool} (q : b ≡ within 26 30 t) where
      pub fits_one : (eqb t 20 || b) ≡ true → ArityIs t n (eqb n 1)
      unfolding arity_of
      fits_one f = arity-is t n _ (rw (ne_eqb t 21 h, e, ← q, f))

      pub fits-none : (eqb t 20 || b) ≡ false → {r : Bool} → r ≡ within 23 25 t → ArityIs t n (r && eqb n 0)
      unfolding arity_of
      fits-none f g = arity-is t n _ (rw (ne_eqb t 21 h, e, ← q, f, g))

-- ---- where steps stand

module _ (t : ℕ) where
  pub root-switch : (a : Bool) → t ≡ 20 → true ≡ of_steps t (steps_in in_process a)
  unfolding of_steps any steps_in step_code
  root-switch true e = rw e
  root-switch false e = rw e

  pub root-attributed : (a : Bool) → a ≡ true → (t ≡ 20 → ⊥) → false ≡ of_steps t (steps_in in_process a)
  unfolding of_steps any steps_in step_code
  root-attributed a e h = rw (e, ne_eqb t 20 h)

  pub root-other : (a : Bool) → a ≡ false → (t ≡ 20 → ⊥) → eqb t 19 || is_sync t ≡ of_steps t (steps_in in_process a)
  unfolding of_steps any steps_in step_code
  root-other a e h = rw (e, ne_eqb t 20 h) (ap (λ (b : Bool). eqb t 19 || b) (sync-codes t))

  module _ (d : ℕ) where
    pub case-case : (a : Bool) → t ≡ 21 → true ≡ of_steps t (steps_in (in_case d) a)
    unfolding of_steps any steps_in nested_steps step_code
    case-case true e = by-test (ltb (d + 1) 16) (λ h. rw (h, e)) (λ h. rw (h, e))
    case-case false e = by-test (ltb (d + 1) 16) (λ h. rw (h, e)) (λ h. rw (h, e))

    pub case-switch : (a : Bool) → t ≡ 20 → ltb d 15 ≡ of_steps t (steps_in (in_case d) a)
    unfolding of_steps any steps_in nested_steps step_code
    case-switch true e = by-test (ltb (d + 1) 16) (λ h. rw (h, e, lt-ltb d 15 (omega (arith, ltb-true (d + 1) 16 h)))) (λ h. rw (h, e, le-ltb d 15 (omega (arith, ltb-false (d + 1) 16 h))))
    case-switch false e = by-test (ltb (d + 1) 16) (λ h. rw (h, e, lt-ltb d 15 (omega (arith, ltb-true (d + 1) 16 h)))) (λ h. rw (h, e, le-ltb d 15 (omega (arith, ltb-false (d + 1) 16 h))))

    module _ (x : t ≡ 21 → ⊥) (y : t ≡ 20 → ⊥) where
      pub case-attributed : (a : Bool) → a ≡ true → false ≡ of_steps t (steps_in (in_case d) a)
      unfolding of_steps any steps_in nested_steps step_code
      case-attributed a e = by-test (ltb (d + 1) 16) (λ h. rw (e, h, ne_eqb t 20 y, ne_eqb t 21 x)) (λ h. rw (e, h, ne_eqb t 21 x))

      pub case-assign : (a : Bool) → a ≡ false → eqb t 19 ≡ of_steps t (steps_in (in_case d) a)
      unfolding of_steps any steps_in nested_steps step_code
      case-assign a e = by-test (ltb (d + 1) 16) (λ h. rw (e, h, ne_eqb t 20 y, ne_eqb t 21 x, or-false)) (λ h. rw (e, h, ne_eqb t 21 x, or-false))

  -- by the scope's number
  module _ (n d : ℕ) (a : Bool) where
    pub none-stands : n ≤ 2 → false ≡ step_stands n d a t
    unfolding step_stands scope_of steps_in of_steps any
    none-stands h =
        by-test (eqb n 0) (λ e. rw e)
        (λ e. by-test (eqb n 1) (λ f. rw (e, f)) (λ f. by-test (eqb n 2) (λ g. rw (e, f, g)) (λ g. absurd (omega (arith, eqb-false n 0 e, eqb-false n 1 f, eqb-false n 2 g)))))

    pub stands_by : (k : ℕ) → n ≡ k → (r : Bool) → r ≡ of_steps t (steps_in (scope_of k d) a) → r ≡ step_stands n d a t
    unfolding step_stands
    stands_by k e r h = rw e h

    pub stands-last : 2 < n → (n ≡ 3 → ⊥) → (n ≡ 4 → ⊥) → (n ≡ 5 → ⊥) → (n ≡ 6 → ⊥) → (r : Bool) → r ≡ of_steps t (steps_in (in_case d) a) → r ≡ step_stands n d a t
    unfolding step_stands scope_of
    stands-last h f g i j r e =
        let out : (k : ℕ) → k ≤ 2 → eqb n k ≡ false = λ k l. ne_eqb n k (λ q. omega arith) in
        rw (out 0 (omega arith), out 1 (omega arith), out 2 (omega arith), ne_eqb n 3 f, ne_eqb n 4 g, ne_eqb n 5 i, ne_eqb n 6 j) e

    pub tail-stands : n ≡ 4 → eqb t 19 || is_sync t ≡ step_stands n d a t
    unfolding scope_of steps_in of_steps any step_code
    tail-stands e = stands_by 4 e _ (ap (λ (b : Bool). eqb t 19 || b) (sync-codes t))

    pub sync-stands : n ≡ 5 → eqb t 31 || is_sync t ≡ step_stands n d a t
    unfolding scope_of steps_in of_steps any step_code
    sync-stands e = stands_by 5 e _ (ap (λ (b : Bool). eqb t 31 || b) (sync-codes t))

    pub switch-stands : n ≡ 6 → eqb t 21 ≡ step_stands n d a t
    unfolding scope_of steps_in of_steps any step_code
    switch-stands e = stands_by 6 e _ (rw or-false)

-- ---- one row back

pub closed-more : (c : ℕ) (a b : Bool) → a ≡ true → c + 1 ≡ cond a (c + 1) (cond b (c - 1) c)
closed-more c a b e = rw e

pub closed-less : (c : ℕ) (a b : Bool) → a ≡ false → (b && ltb 0 c) ≡ true → c - 1 ≡ cond a (c + 1) (cond b (c - 1) c)
closed-less c a b e f = rw (e, and-true-left b (ltb 0 c) f)

pub closed_same : (c : ℕ) (a b : Bool) → a ≡ false → (b && ltb 0 c) ≡ false → c ≡ cond a (c + 1) (cond b (c - 1) c)
closed_same c a true e f = rw e (omega (arith, ltb-false 0 c f))
closed_same c a false e f = rw e

pub closed-few : (c k n : ℕ) (a b : Bool) → 0 < k → c + k ≤ n → cond a (c + 1) (cond b (c - 1) c) + (k - 1) ≤ n
closed-few c k n true b h l = omega arith
closed-few c k n false true h l = omega arith
closed-few c k n false false h l = omega arith

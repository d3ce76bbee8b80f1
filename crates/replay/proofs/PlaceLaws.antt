-- The kinds of line outside of modules, in cells and in processes.
-- Assumes nothing.
use Prim.Native.Nat.{ℕ, ◌≤◌, ◌<◌}
use mathlib.Core.Path.{◌≡◌, sym, ap, ◌∙◌}
use mathlib.Core.List.{[], ◌∷◌}
use mathlib.Core.Bool.{Bool, true, false, not, cond, ◌&&◌, ◌||◌, and-true, and-false, or-false, or_assoc}
use native.Mathlib.Omega.{arith}
use lib.Dec.{eqb}
use borrow.Author.Tests.{ne_eqb}
use Rattle.rules.specs.Bytes.{any}
use Rattle.rules.specs.Statements.{an_attribute, an_end, a_step, code}
use Rattle.rules.specs.Shapes.{Scope, top, in_cell, in_process, in_tail, in_sync, in_switch, in_case}
use Rattle.lists.specs.Tests.{by-test, or-false-left, or-false-right, never, eqb-sym}
use Rattle.admitted.specs.Admitted.{kinds}
use Rattle.context.specs.Place.{scope_of}
use Rattle.netlist.specs.Kinds.{of_kinds}
use Rattle.replay.specs.Objects.{object_kinds}

pub top-attribute : (f a : Bool) (k : ℕ) → k ≡ 2 → true ≡ of_kinds (kinds top f a) k
unfolding kinds of_kinds any code
top-attribute true a k e = rw e
top-attribute false a k e = rw e

pub top-module : (f a : Bool) (k : ℕ) → k ≡ 3 → true ≡ of_kinds (kinds top f a) k
unfolding kinds of_kinds any code
top-module true a k e = rw e
top-module false a k e = rw e

pub top-autoidx : (f a : Bool) (k : ℕ) → k ≡ 1 → f ≡ of_kinds (kinds top f a) k
unfolding kinds of_kinds any code
top-autoidx true a k e = rw e
top-autoidx false a k e = rw e

pub top-other : (f a : Bool) (k : ℕ) → (k ≡ 2 → ⊥) → (k ≡ 3 → ⊥) → (k ≡ 1 → ⊥) → false ≡ of_kinds (kinds top f a) k
unfolding kinds of_kinds any code
top-other true a k x y z = rw (ne_eqb 1 k (λ e. z (sym e)), ne_eqb 2 k (λ e. x (sym e)), ne_eqb 3 k (λ e. y (sym e)))
top-other false a k x y z = rw (ne_eqb 2 k (λ e. x (sym e)), ne_eqb 3 k (λ e. y (sym e)))

pub above-two : (n : ℕ) → (n ≡ 0 → ⊥) → (n ≡ 1 → ⊥) → (n ≡ 2 → ⊥) → 2 < n
above-two n a b c = omega arith

pub object-kinds : (k : ℕ) → (eqb k 2 || eqb k 5 || eqb k 6 || eqb k 7 || eqb k 11) ≡ of_kinds object_kinds k
unfolding object_kinds of_kinds any code
object-kinds k = rw (eqb-sym 2 k, eqb-sym 5 k, eqb-sym 6 k, eqb-sym 7 k, eqb-sym 11 k) (simp (or_assoc, or-false))

pub cell-kinds : (k : ℕ) → (eqb k 8 || eqb k 9 || eqb k 12) ≡ of_kinds (kinds in_cell false false) k
unfolding kinds of_kinds any code
cell-kinds k = rw (or-false, eqb-sym 8 k, eqb-sym 9 k, eqb-sym 12 k) (or_assoc (eqb k 8) (eqb k 9) (eqb k 12))

-- ---- in a process

-- of the scopes there two have no attributes
module _ (P : Scope → Type 0) (n d : ℕ) (h : 2 < n) where
  in_tail_lem : (eqb n 4 || eqb n 5) ≡ true → P in_tail → P in_sync → P (scope_of n d)
  unfolding scope_of
  in_tail_lem e t s =
      let out : (k : ℕ) → k ≤ 2 → eqb n k ≡ false = λ k l. ne_eqb n k (λ q. omega arith) in
      let three : eqb n 3 ≡ false = ne_eqb n 3 (λ q. never (eqb n 4 || eqb n 5) e (rw q)) in
      by-test (eqb n 4)
      (λ f. rw (out 0 (omega arith), out 1 (omega arith), out 2 (omega arith), three, f) t)
      (λ f. let g : eqb n 5 ≡ true = rw f at e in rw (out 0 (omega arith), out 1 (omega arith), out 2 (omega arith), three, f, g) s)

  in_body : (eqb n 4 || eqb n 5) ≡ false → P in_process → P (in_switch d) → P (in_case d) → P (scope_of n d)
  unfolding scope_of
  in_body e p s c =
      let out : (k : ℕ) → k ≤ 2 → eqb n k ≡ false = λ k l. ne_eqb n k (λ q. omega arith) in
      by-test (eqb n 3)
      (λ f. rw (out 0 (omega arith), out 1 (omega arith), out 2 (omega arith), f) p)
      (λ f.
      by-test (eqb n 6)
      (λ g. rw (out 0 (omega arith), out 1 (omega arith), out 2 (omega arith), f, or-false-left (eqb n 4) (eqb n 5) e, or-false-right (eqb n 4) (eqb n 5) e, g) s)
      (λ g. rw (out 0 (omega arith), out 1 (omega arith), out 2 (omega arith), f, or-false-left (eqb n 4) (eqb n 5) e, or-false-right (eqb n 4) (eqb n 5) e, g) c))

module _ (k : ℕ) where
  tail-is : of_kinds (a_step ∷ an_end ∷ []) k ≡ eqb k 13 || eqb k 12
  unfolding of_kinds any code
  tail-is = rw (or-false, eqb-sym 13 k, eqb-sym 12 k)

  body_is : (a : Bool) → of_kinds (cond a (an_attribute ∷ a_step ∷ []) (an_attribute ∷ a_step ∷ an_end ∷ [])) k ≡ eqb k 2 || (eqb k 13 || (eqb k 12 && not a))
  unfolding of_kinds any code
  body_is true = rw (eqb-sym 2 k, eqb-sym 13 k) (ap (λ (b : Bool). eqb k 2 || (eqb k 13 || b)) (sym (and-false (eqb k 12))))
  body_is false = rw (eqb-sym 2 k, eqb-sym 13 k, eqb-sym 12 k, or-false, and-true)

module _ (n d : ℕ) (f a : Bool) (k : ℕ) (h : 2 < n) where
  by-tail : (eqb n 4 || eqb n 5) ≡ true → of_kinds (kinds (scope_of n d) f a) k ≡ eqb k 13 || eqb k 12
  unfolding kinds
  by-tail e = in_tail_lem (λ z. of_kinds (kinds z f a) k ≡ eqb k 13 || eqb k 12) n d h e (tail-is k) (tail-is k)

  by-body : (eqb n 4 || eqb n 5) ≡ false → of_kinds (kinds (scope_of n d) f a) k ≡ eqb k 2 || (eqb k 13 || (eqb k 12 && not a))
  unfolding kinds
  by-body e = in_body (λ z. of_kinds (kinds z f a) k ≡ eqb k 2 || (eqb k 13 || (eqb k 12 && not a))) n d h e (body_is k a) (body_is k a) (body_is k a)

  pub process-step : k ≡ 13 → true ≡ of_kinds (kinds (scope_of n d) f a) k
  process-step e = by-test (eqb n 4 || eqb n 5) (λ t. sym (by-tail t ∙ rw e)) (λ t. sym (by-body t ∙ rw e))

  module _ (s : k ≡ 13 → ⊥) where
    pub process-tail : (eqb n 4 || eqb n 5) ≡ true → eqb k 12 ≡ of_kinds (kinds (scope_of n d) f a) k
    process-tail t = sym (by-tail t ∙ rw (ne_eqb k 13 s))

    module _ (t : (eqb n 4 || eqb n 5) ≡ false) where
      pub process-attribute : k ≡ 2 → true ≡ of_kinds (kinds (scope_of n d) f a) k
      process-attribute e = sym (by-body t ∙ rw e)

      pub process-end : (k ≡ 2 → ⊥) → (eqb k 12 && not a) ≡ of_kinds (kinds (scope_of n d) f a) k
      process-end e = sym (by-body t ∙ rw (ne_eqb k 2 e, ne_eqb k 13 s))

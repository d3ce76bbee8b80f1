-- Laws of the place behind a past: it is carried on by one statement; its fields tell the context of the next line and how many wires the
-- module has. The wires behind one statement more.
-- Assumes nothing.
use Prim.Native.Nat.{ℕ, zero, suc, ◌+◌, ◌-◌, ◌≤◌}
use mathlib.Core.Path.{◌≡◌, refl, ap}
use mathlib.Core.Bool.{Bool, true, false, not, cond, ◌&&◌, ◌||◌}
use mathlib.Core.List.{List, [], ◌∷◌, flat_map, zip, zip_with, foldl}
use native.Mathlib.Omega.{arith}
use lib.Dec.{eqb}
use borrow.Author.Tests.{ne_eqb}
use lib.ListN.{length, take}
use Rattle.rules.specs.Bytes.{any}
use Rattle.rules.specs.Tokens.{Name}
use Rattle.rules.specs.Statements.{Statement, Step, assign, update, switch, case, low, high, posedge, negedge, edge, global, init, always, step_code, an_attribute, a_module, a_wire, a_cell, a_process, an_end, code, contents, is, statements_open, Wire, wire-stmt}
use Rattle.rules.specs.Shapes.{Scope, top, in_module, in_cell, in_process, in_tail, in_sync, in_switch, in_case}
use Rattle.rules.specs.Judgement.{Past, until, sum, outer, around, nested, behind_step, scope, context, of_module, of_cell, of_object, wires, among, count}
use Rattle.rules.specs.Reading.{is_top}
use Rattle.context.specs.Forms.{by_form, by-step}
use Rattle.context.specs.Place.{scope_code, scope_of, wires_in, place_of, context_of, closes_at, Bounds, step_of, is_sync, end_scope, step_scope, scope_after, depth_after, place_after, AfterIs}
use Rattle.context.specs.declared.place.Place.{Place}
use Rattle.lists.specs.Tests.{by-test, cond-le}
use Rattle.lists.specs.Lists.{zip-none, flat_map-until}
use Rattle.lists.specs.Sums.{sum_more, sum-le, sum-until, length-flat_map}
use Rattle.context.proofs.KindLaws.{is_code, count-one, count-le}

-- A measure of lists to which each element adds its own: over the last elements, and over those before them
module _ {A : Type 0} (m : List A → ℕ) (g : A → ℕ) (none : m [] ≡ 0) (more : (x : A) (xs : List A) → m (x ∷ xs) ≡ m xs + g x) (f : A → Bool) where
  before-step : (x : A) (xs : List A) → m (x ∷ xs) - m (until f (x ∷ xs)) ≡ cond (f x) (m xs + g x) (m xs - m (until f xs))
  unfolding until
  before-step x xs =
      by-test (f x) (λ e. rw e (omega (arith, none, more x xs))) (λ e. rw e (omega (arith, more x xs, more x (until f xs))))

length_more : {A : Type 0} (x : A) (xs : List A) → length (x ∷ xs) ≡ length xs + 1
length_more x xs = omega arith

-- the context of the next line
pub scope-back : (z : Scope) → z ≡ scope_of (scope_code z) (nested z)
unfolding scope_of scope_code nested
scope-back top = refl
scope-back in_module = refl
scope-back in_cell = refl
scope-back in_process = refl
scope-back in_tail = refl
scope-back in_sync = refl
scope-back (in_switch k) = refl
scope-back (in_case k) = refl

pub context-is : (ss : Past) → context ss ≡ context_of (place_of ss)
unfolding place_of context_of context scope scope_of scope_code nested
context-is [] = refl
context-is (s ∷ ss) =
    λ i. record { scope = scope-back (scope (s ∷ ss)) i; first = false; attributed = is an_attribute s }

-- a file ends there by the scope's number
top-scope : (z : Scope) → is_top z ≡ eqb (scope_code z) 0
unfolding is_top scope_code
top-scope top = refl
top-scope in_module = refl
top-scope in_cell = refl
top-scope in_process = refl
top-scope in_tail = refl
top-scope in_sync = refl
top-scope (in_switch k) = refl
top-scope (in_case k) = refl

pub closes-place : (ss : Past) → is_top (context ss).scope && not (context ss).attributed ≡ closes_at (place_of ss)
unfolding place_of context closes_at scope is_top scope_code
closes-place [] = refl
closes-place (s ∷ ss) = rw (top-scope (scope (s ∷ ss)))

-- the wires behind a statement
pub wires-none : (s : Statement) (p : Past) → is a_module s ≡ false → (contents s).wires ≡ [] → wires (s ∷ p) ≡ wires p
unfolding wires of_module until flat_map
wires-none s p e q = rw (e, q, zip-none (contents s).names)

pub wires-one : (w : Wire) (n : Name) (p : Past) → wires (wire-stmt w n ∷ p) ≡ (n, w) ∷ wires p
unfolding wires of_module until flat_map zip zip_with statements_open
wires-one w n p = refl

pub wires-reset : (s : Statement) (p : Past) → is a_module s ≡ true → wires (s ∷ p) ≡ []
unfolding wires of_module until flat_map
wires-reset s p e = rw e

-- how many wires the module has
pub wire-count : (s : Statement) → length (zip (contents s).names (contents s).wires) ≡ count (a_wire ∷ []) s
unfolding zip zip_with count among any statements_open
wire-count = by_form _ (λ i. refl) (λ n c. refl) (λ n. refl) (λ n c. refl) (λ w n. refl) (λ m n. refl) (λ t n. refl) (λ o n c. refl) (λ n x. refl) (λ x y. refl) (λ n. refl) (λ p xs. refl) refl

-- sums over the last statements, and over those before them
module _ (g : Statement → ℕ) (f : Statement → Bool) where
  sum-before : (s : Statement) (ss : Past) → sum g (s ∷ ss) - sum g (until f (s ∷ ss)) ≡ cond (f s) (sum g ss + g s) (sum g ss - sum g (until f ss))
  unfolding sum
  sum-before = before-step (sum g) g refl (sum_more g) f

pub length-wires : (ss : Past) → length (wires ss) ≡ (place_of ss).wires - (place_of ss).wires_from
unfolding place_of wires_in wires of_module
length-wires ss =
    omega (
      arith,
      length-flat_map (λ s. zip (contents s).names (contents s).wires) (count (a_wire ∷ [])) wire-count (until (is a_module) ss),
      sum-until (count (a_wire ∷ [])) (is a_module) ss,
    )

pub length-all-wires : (ss : Past) → length (flat_map (λ s. zip (contents s).names (contents s).wires) ss) ≡ (place_of ss).wires
unfolding place_of wires_in
length-all-wires ss = length-flat_map (λ s. zip (contents s).names (contents s).wires) (count (a_wire ∷ [])) wire-count ss

-- they are the last ones of all wires so far
pub wires-last : (ss : Past)
    → wires ss ≡ take ((place_of ss).wires - (place_of ss).wires_from) (flat_map (λ s. zip (contents s).names (contents s).wires) ss)
unfolding wires of_module
wires-last ss = rw (← length-wires ss) (flat_map-until (λ s. zip (contents s).names (contents s).wires) (is a_module) ss)

-- the place is carried on by one statement
end-code : (z : Scope) → scope_code (outer z) ≡ end_scope (scope_code z) (nested z)
unfolding scope_code outer nested end_scope
end-code top = refl
end-code in_module = refl
end-code in_cell = refl
end-code in_process = refl
end-code in_tail = refl
end-code in_sync = refl
end-code (in_switch zero) = refl
end-code (in_switch (suc k)) = rw (ne_eqb (suc k) 0 (λ e. omega arith))
end-code (in_case zero) = refl
end-code (in_case (suc k)) = rw (ne_eqb (suc k) 0 (λ e. omega arith))

end-depth : (z : Scope) → nested (outer z) ≡ nested z - 1
unfolding outer nested
end-depth top = refl
end-depth in_module = refl
end-depth in_cell = refl
end-depth in_process = refl
end-depth in_tail = refl
end-depth in_sync = refl
end-depth (in_switch zero) = refl
end-depth (in_switch (suc k)) = omega arith
end-depth (in_case zero) = refl
end-depth (in_case (suc k)) = omega arith

-- behind a step, of which a statement has one or none
step-code : (z : Scope) (p : Step) → scope_code (behind_step z p) ≡ step_scope (scope_code z) (step_code p)
unfolding scope_code behind_step step_scope step_code is_sync
step-code z assign = refl
step-code z update = refl
step-code z switch = refl
step-code z case = refl
step-code z low = refl
step-code z high = refl
step-code z posedge = refl
step-code z negedge = refl
step-code z edge = refl
step-code z global = refl
step-code z init = refl
step-code z always = refl

switch-depth : (z : Scope) → around z ≡ nested z + cond (eqb (scope_code z) 7) 1 0
unfolding scope_code around nested
switch-depth top = refl
switch-depth in_module = refl
switch-depth in_cell = refl
switch-depth in_process = refl
switch-depth in_tail = refl
switch-depth in_sync = refl
switch-depth (in_switch k) = omega arith
switch-depth (in_case k) = refl

step_depth : (code depth step : ℕ) → ℕ
step_depth n d t = cond (eqb t 20) (d + cond (eqb n 7) 1 0) (cond (is_sync t) 0 d)

step-depth : (z : Scope) (p : Step) → nested (behind_step z p) ≡ step_depth (scope_code z) (nested z) (step_code p)
unfolding step_depth behind_step step_code is_sync nested
step-depth z assign = refl
step-depth z update = refl
step-depth z switch = switch-depth z
step-depth z case = refl
step-depth z low = refl
step-depth z high = refl
step-depth z posedge = refl
step-depth z negedge = refl
step-depth z edge = refl
step-depth z global = refl
step-depth z init = refl
step-depth z always = refl

steps-code : (z : Scope) (s : Statement) → scope_code (foldl behind_step z (contents s).steps) ≡ step_scope (scope_code z) (step_of (contents s).steps)
unfolding step_of step_scope is_sync
steps-code z = by-step (λ ps. scope_code (foldl behind_step z ps) ≡ step_scope (scope_code z) (step_of ps)) refl (step-code z)

steps-depth : (z : Scope) (s : Statement) → nested (foldl behind_step z (contents s).steps) ≡ step_depth (scope_code z) (nested z) (step_of (contents s).steps)
unfolding step_of step_depth is_sync
steps-depth z = by-step (λ ps. nested (foldl behind_step z ps) ≡ step_depth (scope_code z) (nested z) (step_of ps)) refl (step-depth z)

cond-by : {A : Type 0} (f : A → ℕ) (b : Bool) (x y : A) → f (cond b x y) ≡ cond b (f x) (f y)
cond-by f true x y = refl
cond-by f false x y = refl

zero-cond : (a b c : Bool) (n : ℕ) → cond a 0 (cond b 0 (cond c 0 n)) ≡ cond (a || b || c) 0 n
zero-cond true b c n = refl
zero-cond false true c n = refl
zero-cond false false c n = refl

cond-not : (b : Bool) (m n : ℕ) → cond (not b) m n ≡ cond b n m
cond-not true m n = refl
cond-not false m n = refl

module _ (ss : Past) (s : Statement) where
  abbrev code_now : ℕ
  code_now = scope_code (scope ss)

  abbrev depth_now : ℕ
  depth_now = nested (scope ss)

  pub scope-step : scope_code (scope (s ∷ ss)) ≡ scope_after code_now depth_now (code (contents s).kind) (step_of (contents s).steps)
  unfolding scope scope_code scope_after code
  scope-step = rw (is_code s a_module, is_code s a_cell, is_code s a_process, is_code s an_end, cond-by scope_code, cond-by scope_code, cond-by scope_code, cond-by scope_code, end-code, steps-code (scope ss) s)

  pub depth-step : nested (scope (s ∷ ss)) ≡ depth_after code_now depth_now (code (contents s).kind) (step_of (contents s).steps)
  unfolding scope nested depth_after code step_depth
  depth-step = rw (is_code s a_module, is_code s a_cell, is_code s a_process, is_code s an_end, cond-by nested, cond-by nested, cond-by nested, cond-by nested, end-depth, steps-depth (scope ss) s, zero-cond)

  rows_before : (f : Statement → Bool) → length (s ∷ ss) - length (until f (s ∷ ss)) ≡ cond (f s) (length ss + 1) (length ss - length (until f ss))
  rows_before f = before-step length (λ x. 1) refl length_more f s ss

  pub place-step : place_of (s ∷ ss) ≡ place_after (place_of ss) (code (contents s).kind) (step_of (contents s).steps)
  unfolding place_of place_after of_module of_cell of_object wires_in context code
  place-step =
      λ i.
      record {
        scope = scope-step i;
        depth = depth-step i;
        first = false;
        attributed = is_code s an_attribute i;
        rows = length_more s ss i;
        module_from = (rw (is_code s a_module) at (rows_before (is a_module))) i;
        cell_from = (rw (is_code s a_cell) at (rows_before (is a_cell))) i;
        object_from = (rw (cond-not, is_code s an_attribute) at (rows_before (λ t. not (is an_attribute t)))) i;
        wires = (rw (count-one s a_wire) at (sum_more (count (a_wire ∷ [])) s ss)) i;
        wires_from = (rw (is_code s a_module, count-one s a_wire) at (sum-before (count (a_wire ∷ [])) (is a_module) s ss)) i;
        modules = (rw (count-one s a_module) at (sum_more (count (a_module ∷ [])) s ss)) i;
      }

-- so the next place is that behind each statement of the kind and step
pub after_is : (p : Place) (k t : ℕ) (r : Place) → r ≡ place_after p k t → AfterIs p k t r
after_is p k t r e ss s ep ek et = rw (e, ep, ek, et) (place-step ss s)

-- each switch that is open has its line
depth-more : (n d k t : ℕ) → depth_after n d k t ≤ d + 1
unfolding depth_after
depth-more n d k t =
    by-test (eqb k 3 || eqb k 7 || eqb k 11) (λ e. rw e (omega arith))
    (λ e. rw e
    (by-test (eqb k 12) (λ h. rw h (omega arith))
    (λ h. rw h
    (by-test (eqb t 20) (λ q. rw q (omega (arith, cond-le (eqb n 7) 1)))
    (λ q. rw q (by-test (is_sync t) (λ z. rw z (omega arith)) (λ z. rw z (omega arith))))))))

depth_le : (ss : Past) → nested (scope ss) ≤ length ss
unfolding scope nested
depth_le [] = omega arith
depth_le (s ∷ ss) =
    rw (depth-step ss s)
    (omega (arith, depth-more (scope_code (scope ss)) (nested (scope ss)) (code (contents s).kind) (step_of (contents s).steps), depth_le ss))

-- no field is above the statements so far
pub bounds : (ss : Past) → Bounds (place_of ss)
unfolding place_of wires_in
bounds ss =
    record {
      module-from = omega arith;
      cell-from = omega arith;
      object-from = omega arith;
      wires-from = omega arith;
      wires = sum-le _ (count-le _) ss;
      modules = sum-le _ (count-le _) ss;
      depth = depth_le ss;
    }

-- a place's rows are the statements before it
pub place-rows : (ss : Past) {p : Place} → place_of ss ≡ p → length ss ≡ p.rows
unfolding place_of
place-rows ss e = ap (λ (p : Place). p.rows) e

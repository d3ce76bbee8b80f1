-- How many statements there can be, each standing after those before it: every kind but two has its size, `autoidx` stands only first, and
-- each `end` closes a module, a cell, a process or a switch.
-- Assumes nothing.
use Rattle.std.specs.Prelude.{ℕ, zero, suc, ◌+◌, ◌-◌, ◌*◌, ◌≤◌, ◌≡◌, refl, Bool, true, false, not, ◌&&◌, ◌||◌, eqb, length}
use Rattle.std.proofs.Common.{sym}
use Rattle.std.proofs.Math.Path.{ap}
use mathlib.Core.List.{List, [], ◌∷◌, foldl}
use Rattle.std.proofs.Math.Bool.{cond}
use native.Mathlib.Omega.{arith}
use Rattle.std.proofs.Math.Dec.{leb}
use borrow.Author.Tests.{eqb-true, leb-true, le-leb, not-true}
use Rattle.rules.specs.Limits.{most_statements}
use Rattle.rules.specs.Bytes.{any, all}
use Rattle.rules.specs.Statements.{Statement, Kind, an_autoidx, an_attribute, a_module, a_parameter, a_wire, a_memory, a_cell, a_cell_parameter, a_cell_connection, a_connection, a_process, an_end, a_step, Step, assign, update, switch, case, low, high, posedge, negedge, edge, global, init, always, code, contents, is, statements_open}
use Rattle.rules.specs.Shapes.{Scope, top, in_module, in_cell, in_process, in_tail, in_sync, in_switch, in_case}
use Rattle.rules.specs.Judgement.{Past, sum, outer, around, nested, behind_step, scope, context, among, count}
use Rattle.context.specs.Forms.{by_form, no}
use Rattle.context.specs.Sizes.{sizes_by, sums_of, Within}
use Rattle.lists.specs.Tests.{by-test, and-true-left, and-true-right}
use Rattle.lists.specs.Elements.{test_at}
use Rattle.context.proofs.KindLaws.{count-one, count-two}
use Rattle.admitted.specs.Admitted.{kinds, steps_in, same_step, stands_in, stands}

-- each statement stands after those before it
pub data Standing : Past → Type 0 where
  none-stand : Standing []
  one-stands : {s : Statement} {ss : Past} → stands ss s ≡ true → Standing ss → Standing (s ∷ ss)

-- a test of the kinds of a list holds for what is among them
pub among-test : (g : ℕ → Bool) (ks : List Kind) (s : Statement) → all (λ k. g (code k)) ks ≡ true → among ks s ≡ true → g (code (contents s).kind) ≡ true
unfolding all any among is
among-test g [] s h e = cc
among-test g (k ∷ ks) s h e =
    by-test (eqb (code k) (code (contents s).kind))
    (λ q. rw (← eqb-true (code k) (code (contents s).kind) q) (and-true-left _ _ h))
    (λ q. among-test g ks s (and-true-right (g (code k)) _ h) (rw q at e))

-- what stands is of a kind that has a form there, and of a step that has one
pub stands-kind : (z : Scope) (f a : Bool) (s : Statement) → stands_in z f a s ≡ true → among (kinds z f a) s ≡ true
unfolding stands_in
stands-kind z f a s e = and-true-left (among (kinds z f a) s) _ e

pub stands-step : (z : Scope) (f a : Bool) (s : Statement) → stands_in z f a s ≡ true → all (λ p. any (same_step p) (steps_in z a)) (contents s).steps ≡ true
unfolding stands_in
stands-step z f a s e = and-true-right (among (kinds z f a) s) _ e

pub context-scope : (ss : Past) → (context ss).scope ≡ scope ss
unfolding context scope
context-scope [] = refl
context-scope (s ∷ ss) = refl

-- THE SCOPE BEHIND A STATEMENT
unfoldable pub scope_behind : Scope → Statement → Scope
scope_behind z s =
    cond (is a_module s) in_module (cond (is a_cell s) in_cell (cond (is a_process s) in_process (cond (is an_end s) (outer z) (foldl behind_step z (contents s).steps))))

pub scope-behind : (s : Statement) (ss : Past) → scope (s ∷ ss) ≡ scope_behind (scope ss) s
unfolding scope scope_behind
scope-behind s ss = refl

-- what is open: modules, cells, processes and switches
unfoldable pub height : Scope → ℕ
height top = 0
height in_module = 1
height in_cell = 2
height in_process = 2
height in_tail = 2
height in_sync = 2
height (in_switch k) = k + 3
height (in_case k) = k + 3

pub outer-height : (z : Scope) → height (outer z) ≡ height z - 1
unfolding height outer
outer-height top = refl
outer-height in_module = refl
outer-height in_cell = refl
outer-height in_process = refl
outer-height in_tail = refl
outer-height in_sync = refl
outer-height (in_switch zero) = refl
outer-height (in_switch (suc k)) = omega arith
outer-height (in_case zero) = refl
outer-height (in_case (suc k)) = omega arith

-- a switch or a case is at most one deeper than where it stands in a process
around-height : (z : Scope) → 2 ≤ height z → around z + 2 ≤ height z
unfolding height around
around-height top h = omega arith
around-height in_module h = omega arith
around-height in_cell h = omega arith
around-height in_process h = omega arith
around-height in_tail h = omega arith
around-height in_sync h = omega arith
around-height (in_switch k) h = omega arith
around-height (in_case k) h = omega arith

nested-height : (z : Scope) → 2 ≤ height z → nested z + 2 ≤ height z
unfolding height nested
nested-height top h = omega arith
nested-height in_module h = omega arith
nested-height in_cell h = omega arith
nested-height in_process h = omega arith
nested-height in_tail h = omega arith
nested-height in_sync h = omega arith
nested-height (in_switch k) h = omega arith
nested-height (in_case k) h = omega arith

step-height : (z : Scope) (p : Step) → 2 ≤ height z → height (behind_step z p) ≤ height z + 1
unfolding height behind_step
step-height z assign h = omega arith
step-height z update h = omega arith
step-height z switch h = omega (arith, around-height z h)
step-height z case h = omega (arith, nested-height z h)
step-height z low h = omega arith
step-height z high h = omega arith
step-height z posedge h = omega arith
step-height z negedge h = omega arith
step-height z edge h = omega arith
step-height z global h = omega arith
step-height z init h = omega arith
step-height z always h = omega arith

-- WHAT A STATEMENT OF A KIND COUNTS, with so much open: it is of one kind; it is `autoidx` only as the first; and what it closes, or stands
-- in, is open
unfoldable one : ℕ → ℕ → ℕ
one k n = cond (eqb n k) 1 0

unfoldable size_counts : ℕ → ℕ
size_counts n = one 3 n + one 5 n + one 6 n + one 7 n + cond (eqb n 4 || eqb n 8) 1 0 + one 2 n + one 9 n + one 10 n + one 11 n + one 13 n

unfoldable least : ℕ → ℕ
least n = one 7 n + one 11 n + one 12 n + 2 * one 13 n

unfoldable counts : ℕ → Bool → ℕ → Bool
counts h first n = eqb (one 1 n + size_counts n + one 12 n) 1 && leb (one 1 n) (cond first 1 0) && leb (least n) h

deep : (k m : ℕ) → m ≤ 3 → leb m (k + 3) ≡ true
deep k m h = le-leb m (k + 3) (omega arith)

kinds-count : (z : Scope) (first attributed : Bool) → all (λ k. counts (height z) first (code k)) (kinds z first attributed) ≡ true
unfolding all kinds height counts one size_counts least code
kinds-count top true attributed = refl
kinds-count top false attributed = refl
kinds-count in_module true true = refl
kinds-count in_module true false = refl
kinds-count in_module false true = refl
kinds-count in_module false false = refl
kinds-count in_cell true attributed = refl
kinds-count in_cell false attributed = refl
kinds-count in_process true true = refl
kinds-count in_process true false = refl
kinds-count in_process false true = refl
kinds-count in_process false false = refl
kinds-count in_tail true attributed = refl
kinds-count in_tail false attributed = refl
kinds-count in_sync true attributed = refl
kinds-count in_sync false attributed = refl
kinds-count (in_switch k) true true = rw (deep k 0 (omega arith), deep k 2 (omega arith))
kinds-count (in_switch k) true false = rw (deep k 0 (omega arith), deep k 2 (omega arith), deep k 1 (omega arith))
kinds-count (in_switch k) false true = rw (deep k 0 (omega arith), deep k 2 (omega arith))
kinds-count (in_switch k) false false = rw (deep k 0 (omega arith), deep k 2 (omega arith), deep k 1 (omega arith))
kinds-count (in_case k) true true = rw (deep k 0 (omega arith), deep k 2 (omega arith))
kinds-count (in_case k) true false = rw (deep k 0 (omega arith), deep k 2 (omega arith), deep k 1 (omega arith))
kinds-count (in_case k) false true = rw (deep k 0 (omega arith), deep k 2 (omega arith))
kinds-count (in_case k) false false = rw (deep k 0 (omega arith), deep k 2 (omega arith), deep k 1 (omega arith))

-- so what is open behind a statement grows by what it opens, and shrinks by what it closes
height-behind :
    (z : Scope) (s : Statement) → let n = code (contents s).kind in least n ≤ height z →
    one 12 n + height (scope_behind z s) ≤ one 3 n + one 7 n + one 11 n + one 13 n + height z
unfolding least one height scope_behind statements_open
height-behind z =
    by_form _ (λ i h. omega arith) (λ n c h. omega arith) (λ n h. omega arith) (λ n c h. omega arith) (λ w n h. omega arith) (λ m n h. omega arith)
    (λ t n h. omega arith) (λ l n c h. omega arith) (λ n x h. omega arith) (λ x y h. omega arith) (λ n h. omega arith) (λ p xs h. omega (arith, step-height z p h))
    (λ h. omega (arith, outer-height z))

-- THE SAME OF ALL STATEMENTS SO FAR
unfoldable number : Kind → Past → ℕ
number k ss = sum (count (k ∷ [])) ss

unfoldable parameters : Past → ℕ
parameters ss = sum (count (a_parameter ∷ a_cell_parameter ∷ [])) ss

record Counted (ss : Past) : Type 0 where
  all :
      length ss
      ≡ number an_autoidx ss
      + number a_module ss
      + number a_wire ss
      + number a_memory ss
      + number a_cell ss
      + parameters ss
      + number an_attribute ss
      + number a_cell_connection ss
      + number a_connection ss
      + number a_process ss
      + number a_step ss
      + number an_end ss
  firsts : number an_autoidx ss + cond (context ss).first 1 0 ≤ 1
  ends : number an_end ss + height (scope ss) ≤ number a_module ss + number a_cell ss + number a_process ss + number a_step ss

stands-counts : (ss : Past) (s : Statement) → stands ss s ≡ true → counts (height (scope ss)) (context ss).first (code (contents s).kind) ≡ true
unfolding stands
stands-counts ss s e =
    let z = context ss in
    rw (← context-scope ss)
    (among-test (counts (height z.scope) z.first) _ s (kinds-count z.scope z.first z.attributed) (stands-kind z.scope z.first z.attributed s e))

module _ (s : Statement) (ss : Past) where
  number_more : (k : Kind) → number k (s ∷ ss) ≡ one (code k) (code (contents s).kind) + number k ss
  unfolding number sum one
  number_more k = ap (λ (m : ℕ). m + sum (count (k ∷ [])) ss) (count-one s k)

  parameters-more : parameters (s ∷ ss) ≡ cond (eqb (code (contents s).kind) 4 || eqb (code (contents s).kind) 8) 1 0 + parameters ss
  unfolding parameters sum code
  parameters-more = ap (λ (m : ℕ). m + sum (count (a_parameter ∷ a_cell_parameter ∷ [])) ss) (count-two s a_parameter a_cell_parameter)

  count-step : stands ss s ≡ true → Counted ss → Counted (s ∷ ss)
  unfolding counts size_counts context code
  count-step e c =
      let n = code (contents s).kind in
      let z = height (scope ss) in
      let h = test_at (eqb (one 1 n + size_counts n + one 12 n) 1) (leb (one 1 n) (cond (context ss).first 1 0) ∷ leb (least n) z ∷ []) (stands-counts ss s e) in
      let total : one 1 n + size_counts n + one 12 n ≡ 1 = eqb-true _ 1 (h 0) in
      let early : one 1 n ≤ cond (context ss).first 1 0 = leb-true _ _ (h 1) in
      let room : least n ≤ z = leb-true _ _ (h 2) in
      let deep : one 12 n + height (scope (s ∷ ss)) ≤ one 3 n + one 7 n + one 11 n + one 13 n + z = rw (scope-behind s ss) (height-behind (scope ss) s room) in
      record {
        all =
            omega (
              arith,
              number_more an_autoidx,
              number_more a_module,
              number_more a_wire,
              number_more a_memory,
              number_more a_cell,
              parameters-more,
              number_more an_attribute,
              number_more a_cell_connection,
              number_more a_connection,
              number_more a_process,
              number_more a_step,
              number_more an_end,
            );
        firsts = omega (arith, number_more an_autoidx);
        ends = omega (arith, number_more an_end, number_more a_module, number_more a_cell, number_more a_process, number_more a_step);
      }

counted : {ss : Past} → Standing ss → Counted ss
unfolding number parameters sum context scope height
counted none-stand = record { all = refl; firsts = omega arith; ends = omega arith }
counted (one-stands {s} {ss} e h) = count-step s ss e (counted h)

pub rows_few : {ss : Past} → Standing ss → Within (sums_of ss) → length ss ≤ most_statements
unfolding number parameters sums_of sizes_by
rows_few h w = let c = counted h in omega arith

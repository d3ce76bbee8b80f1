-- Whether the line of a row may stand at a place: its kind, its step, and the width that is asked of its signals.
-- Assumes nothing.
use Prim.Native.Nat.{ℕ, ◌≤◌}
use mathlib.Core.Path.{◌≡◌, refl, sym, ap, ◌∙◌}
use mathlib.Core.List.{List, [], ◌++◌, map, flat_map, append-nil}
use mathlib.Core.Bool.{Bool, true, false, cond, ◌&&◌, ◌||◌, and-true}
use native.Mathlib.Omega.{arith}
use Rattle.std.specs.Prelude.{Some, None}
use Rattle.std.specs.Prelude.{Option as Optional}
use lib.Dec.{eqb}
use lib.ListN.{length}
use borrow.Author.Tests.{eq-eqb}
use Rattle.rules.specs.Bytes.{any, all}
use Rattle.rules.specs.Statements.{Statement, Signal, Step, step_code, contents, code, holds, is, autoidx-stmt, attr-stmt, module-stmt, param-stmt, wire-stmt, memory-stmt, cell-stmt, cell-param-stmt, cell-conn-stmt, conn-stmt, proc-stmt, step-stmt, end-stmt, statements_open}
use Rattle.rules.specs.Judgement.{Past, among, equal, step_widths, fit_widths, signals_of_step}
use Rattle.rules.specs.Layout.{Used, padded, row, each_length, columns, statement_row}
use Rattle.lists.specs.Tests.{never, and-true-left}
use Rattle.admitted.specs.Admitted.{same_step, stands_in, stands}
use Rattle.context.specs.Forms.{by_form}
use Rattle.context.specs.Place.{place_of, context_of, step_of}
use Rattle.context.specs.declared.place.Place.{Place}
use Rattle.context.proofs.PlaceLaws.{context-is}
use Rattle.tables.specs.Row.{words}
use Rattle.tables.specs.declared.Row.{Row}
use Rattle.lists.specs.Lists.{same_at}
use Rattle.netlist.specs.Kinds.{of_kinds}
use Rattle.steps.specs.Steps.{of_steps, step_stands, widths, AskedIs}
use Rattle.row_statements.specs.Reads.{even_signals}
use Rattle.replay.specs.Turns.{stands_at, AskedFits, LineStands}
use Rattle.row_statements.proofs.PieceLaws.{even-asked}

-- a statement has no step, or is a line of a process
by-stepped :
    (P : Statement → Type 0) → ((s : Statement) → (contents s).steps ≡ [] → eqb (code (contents s).kind) 13 ≡ false → P s) →
    ((q : Step) (xs : List Signal) → P (step-stmt q xs)) → (s : Statement) → P s
unfolding statements_open
by-stepped P f g =
    by_form P (λ i. f (autoidx-stmt i) refl refl) (λ n c. f (attr-stmt n c) refl refl) (λ n. f (module-stmt n) refl refl) (λ n c. f (param-stmt n c) refl refl) (λ w n. f (wire-stmt w n) refl refl)
    (λ m n. f (memory-stmt m n) refl refl) (λ t n. f (cell-stmt t n) refl refl) (λ o n c. f (cell-param-stmt o n c) refl refl) (λ n x. f (cell-conn-stmt n x) refl refl)
    (λ x y. f (conn-stmt x y) refl refl) (λ n. f (proc-stmt n) refl refl) g (f end-stmt refl refl)

-- ---- what a row tells

module _ (u : Used) (r : Row) where
  pub kind-told : (s : Statement) → words r ≡ statement_row u s → r.kind ≡ code (contents s).kind
  unfolding words statement_row row padded
  kind-told s e = same_at 0 e

  module _ (q : Step) (xs : List Signal) (e : words r ≡ statement_row u (step-stmt q xs)) where
    kind-step : r.kind ≡ 13
    unfolding statements_open
    kind-step = kind-told (step-stmt q xs) e

    step-told : step_code q ≡ r.a
    unfolding words statement_row columns row padded contents holds
    step-told = sym (same_at 1 e)

    width-told : each_length xs ≡ r.c
    unfolding words statement_row columns row padded contents holds
    width-told = sym (same_at 3 e)

    count-told : length xs ≡ r.d
    unfolding words statement_row columns row padded contents holds
    count-told = sym (same_at 4 e)

  pub step_is : (s : Statement) → words r ≡ statement_row u s → cond (eqb r.kind 13) r.a 0 ≡ step_of (contents s).steps
  unfolding step_of statements_open
  step_is =
      by-stepped (λ s. words r ≡ statement_row u s → cond (eqb r.kind 13) r.a 0 ≡ step_of (contents s).steps)
      (λ s es ek e. rw (kind-told s e, ek, es)) (λ q xs e. rw (kind-step q xs e) (sym (step-told q xs e)))

-- not more signals than those of all processes
pub signals-few : (s : Statement) → signals_of_step s ≤ 4096 → length (contents s).signals ≤ 4096
unfolding signals_of_step statements_open
signals-few =
    by_form (λ s. signals_of_step s ≤ 4096 → length (contents s).signals ≤ 4096)
    (λ i h. omega arith) (λ n c h. omega arith) (λ n h. omega arith) (λ n c h. omega arith) (λ w n h. omega arith) (λ m n h. omega arith) (λ t n h. omega arith) (λ o n c h. omega arith)
    (λ n x h. omega arith) (λ x y h. omega arith) (λ n h. omega arith) (λ q xs h. h) (λ h. omega arith)

-- ---- the two tests, by the place

module _ (ss : Past) where
  stands_plain : (s : Statement) → (contents s).steps ≡ [] → stands ss s ≡ stands_at (place_of ss) (code (contents s).kind)
  unfolding stands stands_in stands_at among of_kinds is context_of all
  stands_plain s e = rw (context-is ss, e) (and-true _)

  stands-step : (q : Step) (xs : List Signal) → stands ss (step-stmt q xs) ≡ stands_at (place_of ss) 13 && step_stands (place_of ss).scope (place_of ss).depth (place_of ss).attributed (step_code q)
  unfolding stands stands_in stands_at among of_kinds is context_of all any step_stands of_steps same_step contents holds code
  stands-step q xs = rw (context-is ss) (ap (λ (b : Bool). stands_at (place_of ss) 13 && b) (and-true _))

  fit-plain : (s : Statement) → (contents s).steps ≡ [] → even_signals s ≡ true → fit_widths ss s (map length (contents s).signals) ≡ true
  unfolding fit_widths flat_map even_signals
  fit-plain s e h = rw e (and-true-left _ _ h)

  fit-step : (q : Step) (xs : List Signal) → let s : Statement = step-stmt q xs in fit_widths ss s (map length xs) ≡ equal (step_widths ss q ++ map length xs)
  unfolding fit_widths flat_map contents holds
  fit-step q xs = rw append-nil

-- ---- the width that is asked

module _ (rows : List ℕ) (p : Place) (t w n : ℕ) (a : Optional ℕ) (h : AskedIs rows p t a) where
  pub asked-none : a ≡ None → AskedFits rows p t w n true
  unfolding widths
  asked-none e names ss q xs l o ep ec ev ew en = let z = h names ss q l o ep ec in rw (z, e) (sym ev)

  pub asked-one : (v : ℕ) → a ≡ Some v → AskedFits rows p t w n (eqb n 0 || eqb v w)
  unfolding widths equal
  asked-one v e names ss q xs l o ep ec ev ew en = let z = h names ss q l o ep ec in rw (z, e, ← ew, ← en) (even-asked v xs ev)

-- ---- the line

module _ (rows : List ℕ) (p : Place) (r : Row) where
  module _ (ss : Past) (u : Used) (ep : p ≡ place_of ss) where
    plain-is : (s : Statement) → (contents s).steps ≡ [] → words r ≡ statement_row u s → stands ss s ≡ stands_at p r.kind
    plain-is s es e = rw (ep, kind-told u r s e) (stands_plain ss s es)

    step-stands-is : (q : Step) (xs : List Signal) → words r ≡ statement_row u (step-stmt q xs) → stands ss (step-stmt q xs) ≡ stands_at p r.kind && step_stands p.scope p.depth p.attributed r.a
    step-stands-is q xs e = rw (ep, kind-step u r q xs e, ← step-told u r q xs e) (stands-step ss q xs)

  pub line-kind : stands_at p r.kind ≡ false → LineStands rows p r false
  line-kind h names ss u s l o ep =
      by-stepped (λ s. words r ≡ statement_row u s → even_signals s ≡ true → false ≡ stands ss s && fit_widths ss s (map length (contents s).signals))
      (λ s es ek e v. rw (plain-is ss u ep s es e, h)) (λ q xs e v. rw (step-stands-is ss u ep q xs e, h)) s

  module _ (h : stands_at p r.kind ≡ true) where
    pub line_plain : (r.kind ≡ 13 → ⊥) → LineStands rows p r true
    line_plain n names ss u s l o ep =
        by-stepped (λ s. words r ≡ statement_row u s → even_signals s ≡ true → true ≡ stands ss s && fit_widths ss s (map length (contents s).signals))
        (λ s es ek e v. rw (plain-is ss u ep s es e, h, fit-plain ss s es v)) (λ q xs e v. absurd (n (kind-step u r q xs e))) s

    module _ (k : r.kind ≡ 13) where
      pub line_step : step_stands p.scope p.depth p.attributed r.a ≡ false → LineStands rows p r false
      line_step f names ss u s l o ep =
          by-stepped (λ s. words r ≡ statement_row u s → even_signals s ≡ true → false ≡ stands ss s && fit_widths ss s (map length (contents s).signals))
          (λ s es ek e v. never (eqb r.kind 13) (eq-eqb r.kind 13 k) (ap (λ (n : ℕ). eqb n 13) (kind-told u r s e) ∙ ek)) (λ q xs e v. rw (step-stands-is ss u ep q xs e, h, f)) s

      pub line-asked : step_stands p.scope p.depth p.attributed r.a ≡ true → {b : Bool} → AskedFits rows p r.a r.c r.d b → LineStands rows p r b
      unfolding even_signals contents holds
      line-asked f {b} g names ss u s l o ep =
          by-stepped (λ s. words r ≡ statement_row u s → even_signals s ≡ true → b ≡ stands ss s && fit_widths ss s (map length (contents s).signals))
          (λ s es ek e v. never (eqb r.kind 13) (eq-eqb r.kind 13 k) (ap (λ (n : ℕ). eqb n 13) (kind-told u r s e) ∙ ek))
          (λ q xs e v.
          rw (step-stands-is ss u ep q xs e, h, f, fit-step ss q xs)
          (g names ss q xs l o ep (step-told u r q xs e) (and-true-left _ _ v) (width-told u r q xs e) (count-told u r q xs e)))
          s

-- Where each statement stands in its place: only the first may be `autoidx`, and a cell's parameters and connections end at its `end`.
-- Assumes nothing.
use Rattle.std.specs.Prelude.{ℕ, zero, suc, ◌+◌, ◌≡◌, Bool, false, not, ◌&&◌, ◌||◌, eqb}
use Rattle.std.proofs.Math.Path.{refl}
use Rattle.std.proofs.Common.{sym, ap, ap₂, ◌∙◌}
use Rattle.std.proofs.Math.Bool.{true, cond}
use Rattle.std.proofs.lemmas.Bool.{false≢true}
use mathlib.Core.List.{List, [], ◌∷◌, ◌++◌, flat_map, foldl, reverse, reverse_aux}
use borrow.Author.Tests.{not-true, eqb-true}
use Rattle.rules.specs.Bytes.{all}
use Rattle.rules.specs.Statements.{Statement, Kind, an_autoidx, an_attribute, a_module, a_cell, a_cell_parameter, a_cell_connection, a_process, an_end, end-stmt, Step, assign, update, switch, case, low, high, posedge, negedge, edge, global, init, always, code, contents, is, statements_open}
use Rattle.rules.specs.Shapes.{Scope, top, in_module, in_cell, in_process, in_tail, in_sync, in_switch, in_case}
use Rattle.rules.specs.Signals.{Wires}
use Rattle.rules.specs.Judgement.{Past, until, only, outer, behind_step, scope, context}
use Rattle.lists.specs.Tests.{by-test, by_cond, and-true-left, and-true-right}
use Rattle.lists.specs.Lists.{keeps-before}
use Rattle.context.specs.Forms.{by_form}
use Rattle.admitted.specs.Admitted.{kinds, stands_in, stands}
use Rattle.admitted.specs.CountLaws.{Standing, one-stands, among-test, stands-kind, context-scope, scope_behind}
use Rattle.module_text.specs.Blocks.{line_of}
use Rattle.module_text.specs.Passes.{lines_of, kind_lines, first_line, object_lines, cell_block, print_cell, print_to_end}
use Rattle.module_text.specs.PassLaws.{lines-only}

-- statements in file order that stand from a scope on, the first of them first in the file or not
pub data Follows : Scope → Bool → List Statement → Type 0 where
  none-follow : {p : Scope} {f : Bool} → Follows p f []
  one_follows : {p : Scope} {f : Bool} {s : Statement} {ss : List Statement} → (attributed : Bool) → stands_in p f attributed s ≡ true → Follows (scope_behind p s) false ss → Follows p f (s ∷ ss)

standing-before : (s : Statement) (ss : Past) → Standing (s ∷ ss) → Standing ss
standing-before s ss (one-stands e h) = h

last-stands : {s : Statement} {ss : Past} → Standing (s ∷ ss) → stands ss s ≡ true
last-stands (one-stands e h) = e

last-in : (s : Statement) (ss : Past) → stands ss s ≡ true → stands_in (scope ss) (context ss).first (context ss).attributed s ≡ true
unfolding stands
last-in s ss e = rw context-scope at e

follows-past : (more : List Statement) (ss : Past) → Standing (reverse_aux more ss) → Follows (scope ss) (context ss).first more
unfolding context scope scope_behind
follows-past [] ss h = none-follow
follows-past (s ∷ more) ss h =
    one_follows (context ss).attributed (last-in s ss (last-stands (keeps-before Standing standing-before more (s ∷ ss) h))) (follows-past more (s ∷ ss) h)

-- all statements of a file that stand
pub follows : (ss : List Statement) → Standing (reverse ss) → Follows top true ss
unfolding scope context
follows ss h = follows-past ss [] h

-- part of them
pub follows-until : (g : Statement → Bool) {p : Scope} {f : Bool} {ss : List Statement} → Follows p f ss → Follows p f (until g ss)
unfolding until
follows-until g none-follow = none-follow
follows-until g {p} {f} (one_follows {s} {ss} a e h) = by_cond (λ l. Follows p f l) (g s) (λ t. none-follow) (λ t. one_follows a e (follows-until g h))

-- ONLY THE FIRST MAY BE `autoidx`
later-kinds : (p : Scope) (a : Bool) → all (λ k. not (eqb 1 (code k))) (kinds p false a) ≡ true
unfolding all kinds code
later-kinds top a = refl
later-kinds in_module true = refl
later-kinds in_module false = refl
later-kinds in_cell a = refl
later-kinds in_process true = refl
later-kinds in_process false = refl
later-kinds in_tail a = refl
later-kinds in_sync a = refl
later-kinds (in_switch k) true = refl
later-kinds (in_switch k) false = refl
later-kinds (in_case k) true = refl
later-kinds (in_case k) false = refl

no-autoidx : {p : Scope} {f : Bool} {ss : List Statement} → f ≡ false → Follows p f ss → first_line an_autoidx ss ≡ []
unfolding first_line is code
no-autoidx q none-follow = refl
no-autoidx {p} {f} q (one_follows {s} {ss} a e h) =
    rw (not-true (is an_autoidx s) (among-test (λ n. not (eqb 1 n)) (kinds p false a) s (later-kinds p a) (stands-kind p false a s (rw q at e)))) (no-autoidx refl h)

pub autoidx-first : {p : Scope} {f : Bool} {s : Statement} {ss : List Statement} → Follows p f (s ∷ ss) → first_line an_autoidx (s ∷ ss) ≡ cond (is an_autoidx s) (line_of 0 [] s) []
unfolding first_line
autoidx-first {s = s} (one_follows a e h) = rw (no-autoidx refl h)

-- A CELL'S PARAMETERS AND CONNECTIONS END AT ITS `end`
unfoldable outside : Scope → Bool
outside top = true
outside in_module = true
outside in_cell = false
outside in_process = true
outside in_tail = true
outside in_sync = true
outside (in_switch k) = true
outside (in_case k) = true

outside-module : outside in_module ≡ true
unfolding outside
outside-module = refl

outside-outer : (p : Scope) → outside (outer p) ≡ true
unfolding outside outer
outside-outer top = refl
outside-outer in_module = refl
outside-outer in_cell = refl
outside-outer in_process = refl
outside-outer in_tail = refl
outside-outer in_sync = refl
outside-outer (in_switch zero) = refl
outside-outer (in_switch (suc k)) = refl
outside-outer (in_case zero) = refl
outside-outer (in_case (suc k)) = refl

outside-step : (p : Scope) (q : Step) → outside p ≡ true → outside (behind_step p q) ≡ true
unfolding outside behind_step
outside-step p assign o = o
outside-step p update o = o
outside-step p switch o = refl
outside-step p case o = refl
outside-step p low o = refl
outside-step p high o = refl
outside-step p posedge o = refl
outside-step p negedge o = refl
outside-step p edge o = refl
outside-step p global o = refl
outside-step p init o = refl
outside-step p always o = refl

outside-steps : (qs : List Step) (p : Scope) → outside p ≡ true → outside (foldl behind_step p qs) ≡ true
outside-steps [] p o = o
outside-steps (q ∷ qs) p o = outside-steps qs (behind_step p q) (outside-step p q o)

outside-after : (p : Scope) (s : Statement) → outside p ≡ true → is a_cell s ≡ false → outside (scope_behind p s) ≡ true
unfolding scope_behind outside
outside-after p s o c =
    rw c
    (by_cond (λ q. outside q ≡ true) (is a_module s) (λ t. refl)
    (λ t. by_cond (λ q. outside q ≡ true) (is a_process s) (λ u. refl)
    (λ u. by_cond (λ q. outside q ≡ true) (is an_end s) (λ v. outside-outer p) (λ v. outside-steps (contents s).steps p o))))

-- what stands in cells only
data Part : Kind → Type 0 where
  a-parameter : Part a_cell_parameter
  a-connection : Part a_cell_connection

abbrev no_part : ℕ → Bool
no_part n = not (eqb 8 n) && not (eqb 9 n)

outside-kinds : (p : Scope) (f a : Bool) → outside p ≡ true → all (λ k. no_part (code k)) (kinds p f a) ≡ true
unfolding all kinds code outside
outside-kinds top true a o = refl
outside-kinds top false a o = refl
outside-kinds in_module f true o = refl
outside-kinds in_module f false o = refl
outside-kinds in_cell f a o = absurd (false≢true o)
outside-kinds in_process f true o = refl
outside-kinds in_process f false o = refl
outside-kinds in_tail f a o = refl
outside-kinds in_sync f a o = refl
outside-kinds (in_switch k) f true o = refl
outside-kinds (in_switch k) f false o = refl
outside-kinds (in_case k) f true o = refl
outside-kinds (in_case k) f false o = refl

no-part : {k : Kind} (s : Statement) → Part k → no_part (code (contents s).kind) ≡ true → is k s ≡ false
unfolding is code
no-part s a-parameter h = not-true _ (and-true-left _ _ h)
no-part s a-connection h = not-true _ (and-true-right (not (eqb 8 (code (contents s).kind))) _ h)

-- none stands outside of a cell
module _ {k : Kind} (q : Part k) where
  none-outside : {p : Scope} {f : Bool} {ss : List Statement} → outside p ≡ true → Follows p f ss → only (is k) (until (is a_cell) ss) ≡ []
  unfolding only until
  none-outside o none-follow = refl
  none-outside {p} {f} o (one_follows {s} {ss} a e h) =
      by-test (is a_cell s)
      (λ t. rw t)
      (λ t. rw (t, no-part s q (among-test no_part (kinds p f a) s (outside-kinds p f a o) (stands-kind p f a s e))) (none-outside (outside-after p s o t) h))

abbrev inside : ℕ → Bool
inside n = not (eqb 7 n) && (not (eqb 3 n) && (not (eqb 11 n) && (not (eqb 13 n) && (not (eqb 12 n) || no_part n))))

inside-kinds : (f a : Bool) → all (λ k. inside (code k)) (kinds in_cell f a) ≡ true
unfolding all kinds code
inside-kinds f a = refl

no_steps : (s : Statement) → eqb 13 (code (contents s).kind) ≡ false → (contents s).steps ≡ []
unfolding statements_open
no_steps =
    by_form _ (λ i e. refl) (λ x c e. refl) (λ x e. refl) (λ x c e. refl) (λ w x e. refl) (λ m x e. refl) (λ t x e. refl) (λ o x c e. refl) (λ x g e. refl) (λ g h e. refl) (λ x e. refl)
    (λ p xs e. absurd (false≢true (sym e))) (λ e. refl)

-- a statement of a cell: only `end` leaves it
module _ (s : Statement) (h : inside (code (contents s).kind) ≡ true) where
  not-cell : is a_cell s ≡ false
  unfolding is code
  not-cell = not-true (is a_cell s) (and-true-left _ _ h)

  not-module : is a_module s ≡ false
  unfolding is code
  not-module = not-true (is a_module s) (and-true-left _ _ (and-true-right (not (is a_cell s)) _ h))

  later : not (eqb 13 (code (contents s).kind)) && (not (eqb 12 (code (contents s).kind)) || no_part (code (contents s).kind)) ≡ true
  unfolding is code
  later = and-true-right (not (is a_process s)) _ (and-true-right (not (is a_module s)) _ (and-true-right (not (is a_cell s)) _ h))

  not-process : is a_process s ≡ false
  unfolding is code
  not-process = not-true (is a_process s) (and-true-left _ _ (and-true-right (not (is a_module s)) _ (and-true-right (not (is a_cell s)) _ h)))

  stepless : (contents s).steps ≡ []
  stepless = no_steps s (not-true _ (and-true-left _ _ later))

  no-end-part : is an_end s ≡ true → no_part (code (contents s).kind) ≡ true
  unfolding is code
  no-end-part e = rw e at (and-true-right (not (eqb 13 (code (contents s).kind))) _ later)

  stays : is an_end s ≡ false → scope_behind in_cell s ≡ in_cell
  unfolding scope_behind
  stays e = rw (not-module, not-cell, not-process, e, stepless)

  leaves : is an_end s ≡ true → scope_behind in_cell s ≡ in_module
  unfolding scope_behind outer
  leaves e = rw (not-module, not-cell, not-process, e)

-- a cell's statements of a kind, behind its line
module _ {k : Kind} (q : Part k) where
  to_end : {p : Scope} {f : Bool} {ss : List Statement} → p ≡ in_cell → Follows p f ss → only (is k) (until (is a_cell) ss) ≡ only (is k) (until (is an_end) ss)
  unfolding only until
  to_end i none-follow = refl
  to_end {p} {f} i (one_follows {s} {ss} a e h) =
      let n : inside (code (contents s).kind) ≡ true = among-test inside (kinds in_cell f a) s (inside-kinds f a) (stands-kind in_cell f a s (rw i at e)) in
      by-test (is an_end s)
      (λ t. rw (not-cell s n, t, no-part s q (no-end-part s n t)) (none-outside q (rw (i, leaves s n t) (outside-module)) h))
      (λ t. rw (not-cell s n, t) (ap (λ (l : List Statement). cond (is k s) (s ∷ l) l) (to_end (ap (λ (z : Scope). scope_behind z s) i ∙ stays s n t) h)))

  lines_end : (l : ℕ) (ws : Wires) {p : Scope} {f : Bool} {ss : List Statement} → p ≡ in_cell → Follows p f ss → kind_lines k l ws (until (is a_cell) ss) ≡ kind_lines k l ws (until (is an_end) ss)
  lines_end l ws {ss = ss} i h =
      sym (lines-only l ws k (until (is a_cell) ss)) ∙ ap (flat_map (line_of l ws)) (to_end i h) ∙ lines-only l ws k (until (is an_end) ss)

into : (p : Scope) (s : Statement) → is a_cell s ≡ true → scope_behind p s ≡ in_cell
unfolding scope_behind is code
into p s c = rw (c, ← eqb-true 7 (code (contents s).kind) c)

-- the cells of a module, each up to its `end`
block-end : (ws : Wires) (n : ℕ) (at : List Statement) (s : Statement) {p : Scope} {f : Bool} {ss : List Statement} → p ≡ in_cell → Follows p f ss → print_cell ws n at s ss ≡ print_to_end ws n at s ss
unfolding print_cell print_to_end cell_block
block-end ws n at s i h =
    ap₂ (λ (a b : List ℕ). lines_of 1 ws at ++ line_of 1 ws s ++ a ++ b ++ line_of 1 ws end-stmt) (lines_end a-parameter 2 ws i h) (lines_end a-connection 2 ws i h)

pub cells-end : (ws : Wires) {p : Scope} {f : Bool} {ss : List Statement} → Follows p f ss → (n : ℕ) (at : List Statement) → object_lines a_cell (print_cell ws) n at ss ≡ object_lines a_cell (print_to_end ws) n at ss
unfolding object_lines
cells-end ws none-follow n at = refl
cells-end ws {p} (one_follows {s} {ss} a e h) n at =
    by-test (is an_attribute s)
    (λ t. rw t (cells-end ws h n (at ++ s ∷ [])))
    (λ t. by-test (is a_cell s)
    (λ c. rw (t, c) (ap₂ ◌++◌ (block-end ws n at s (into p s c) h) (cells-end ws h (n + 1) [])))
    (λ c. rw (t, c) (cells-end ws h n [])))

-- Going back over the rows and counting `end`s finds the innermost open switch.
-- Assumes nothing.
use Prim.Native.Nat.{ℕ, zero, suc, ◌+◌, ◌-◌, ◌≤◌, ◌<◌}
use Rattle.std.specs.Prelude.{◌≡◌, List, [], ◌∷◌, ◌++◌, map, Bool, cond, ◌&&◌, length, take, drop, Option, Some, None}
use Rattle.std.proofs.Math.Path.{refl, ap}
use Rattle.std.proofs.Common.{sym, ◌∙◌, drop-drop, eqb-true, ne_eqb}
use Rattle.std.proofs.Math.Bool.{true, false}
use native.Mathlib.Omega.{arith}
use Rattle.std.proofs.Math.Dec.{eqb}
use Rattle.rules.specs.Bytes.{any, all, within}
use Rattle.rules.specs.Statements.{Statement, Signal, Step, assign, update, switch, case, low, high, posedge, negedge, edge, global, init, always, step_code, an_end, is, code, contents, statements_open}
use Rattle.rules.specs.Judgement.{Past, wires, steps, switches, step_widths}
use Rattle.rules.specs.Layout.{Used, padded, row, each_length, columns, statement_row}
use Rattle.lists.specs.Tests.{by-test, and-true-left, eqb-sym}
use Rattle.context.specs.Forms.{by_form, no}
use Rattle.admitted.specs.Admitted.{arity, admitted}
use Rattle.admitted.specs.AdmitLaws.{fine-parts, admitted-before, admitted-last}
use Rattle.wires.specs.Rows.{column}
use Rattle.wires.specs.RowLaws.{RowIs}
use Rattle.netlist.specs.Rows.{kind_at}
use Rattle.netlist.specs.RowLaws.{row-kind}
use Rattle.netlist.specs.Laid.{rooms_of, Laid}
use Rattle.netlist.specs.LaidLaws.{laid-before, laid-last}
use Rattle.context.specs.Place.{place_of}
use Rattle.context.specs.declared.place.Place.{Place}
use Rattle.steps.specs.Steps.{end_row, switch_row, open_width, widths, Single, none-single, one_single, AskedIs}

-- ---- admitted switches have one signal

one_of : (xs : List Signal) → eqb (length xs) 1 ≡ true → (x : Signal) × (xs ≡ x ∷ [])
one_of [] e = no e
one_of (x ∷ []) e = (x, refl)
one_of (x ∷ y ∷ xs) e = absurd (omega (arith, eqb-true (length (x ∷ y ∷ xs)) 1 e))

step-single : (p : Step) (xs : List Signal) → arity p (length xs) ≡ true → any (λ q. eqb (step_code switch) (step_code q)) (p ∷ []) ≡ true → (x : Signal) × (xs ≡ x ∷ [])
unfolding arity step_code any
step-single assign xs h e = no e
step-single update xs h e = no e
step-single switch xs h e = one_of xs h
step-single case xs h e = no e
step-single low xs h e = no e
step-single high xs h e = no e
step-single posedge xs h e = no e
step-single negedge xs h e = no e
step-single edge xs h e = no e
step-single global xs h e = no e
step-single init xs h e = no e
step-single always xs h e = no e

statement-single : (s : Statement) → all (λ p. arity p (length (contents s).signals)) (contents s).steps ≡ true → steps switch s ≡ true → (x : Signal) × ((contents s).signals ≡ x ∷ [])
unfolding statements_open steps any all
statement-single =
    by_form (λ s. all (λ p. arity p (length (contents s).signals)) (contents s).steps ≡ true → steps switch s ≡ true → (x : Signal) × ((contents s).signals ≡ x ∷ []))
    (λ i h. no) (λ n c h. no) (λ n h. no) (λ n c h. no) (λ w n h. no) (λ m n h. no) (λ t n h. no) (λ o n c h. no) (λ n x h. no) (λ x y h. no) (λ n h. no)
    (λ p xs h e. step-single p xs (and-true-left (arity p (length xs)) true h) e) (λ h. no)

pub admitted-single : (ss : Past) → admitted ss ≡ true → Single ss
admitted-single [] e = none-single
admitted-single (s ∷ ss) e =
    one_single (statement-single s (fine-parts (wires ss) s (admitted-last s ss e).parts).arities) (admitted-single ss (admitted-before s ss e))

-- ---- what a row tells

is-switch-code : (p : Step) → eqb (step_code p) 20 ≡ any (λ q. eqb (step_code switch) (step_code q)) (p ∷ [])
unfolding step_code any
is-switch-code assign = refl
is-switch-code update = refl
is-switch-code switch = refl
is-switch-code case = refl
is-switch-code low = refl
is-switch-code high = refl
is-switch-code posedge = refl
is-switch-code negedge = refl
is-switch-code edge = refl
is-switch-code global = refl
is-switch-code init = refl
is-switch-code always = refl

module _ (rows : List ℕ) (k : ℕ) (u : Used) where
  row-end : (s : Statement) → RowIs rows k (statement_row u s) → end_row rows k ≡ is an_end s
  unfolding end_row is code
  row-end s h = ap (λ (n : ℕ). eqb n 12) (row-kind rows k u s h) ∙ eqb-sym (code (contents s).kind) 12

  row-switch : (s : Statement) → RowIs rows k (statement_row u s) → switch_row rows k ≡ steps switch s
  unfolding switch_row kind_at statement_row columns row padded steps statements_open any
  row-switch =
      by_form (λ s. RowIs rows k (statement_row u s) → switch_row rows k ≡ steps switch s)
      (λ i h. rw (h 0 (omega arith))) (λ n c h. rw (h 0 (omega arith))) (λ n h. rw (h 0 (omega arith))) (λ n c h. rw (h 0 (omega arith))) (λ w n h. rw (h 0 (omega arith)))
      (λ m n h. rw (h 0 (omega arith))) (λ t n h. rw (h 0 (omega arith))) (λ o n c h. rw (h 0 (omega arith))) (λ n x h. rw (h 0 (omega arith)))
      (λ x y h. rw (h 0 (omega arith))) (λ n h. rw (h 0 (omega arith)))
      (λ p xs h. rw (h 0 (omega arith), h 1 (omega arith)) (is-switch-code p))
      (λ h. rw (h 0 (omega arith)))

  row-width : (s : Statement) → RowIs rows k (statement_row u s) → steps switch s ≡ true → column rows k 3 ≡ each_length (contents s).signals
  unfolding statement_row columns row padded steps statements_open any
  row-width =
      by_form (λ s. RowIs rows k (statement_row u s) → steps switch s ≡ true → column rows k 3 ≡ each_length (contents s).signals)
      (λ i h. no) (λ n c h. no) (λ n h. no) (λ n c h. no) (λ w n h. no) (λ m n h. no) (λ t n h. no) (λ o n c h. no) (λ n x h. no) (λ x y h. no) (λ n h. no)
      (λ p xs h e. h 3 (omega arith)) (λ h. no)

-- ---- the search

by_bool : (P : Bool → Type 0) (b : Bool) → (b ≡ true → P true) → (b ≡ false → P false) → P b
by_bool P true f g = f refl
by_bool P false f g = g refl

-- a switch line opened the first of them
pushed : (x : Signal) (r : List Signal) (f : ℕ → List ℕ) → ((j : ℕ) → f j ≡ map length (take 1 (drop j r))) → (c : ℕ) → cond (eqb c 0) (length x ∷ []) (f (c - 1)) ≡ map length (take 1 (drop c (x ∷ r)))
pushed x r f h zero = refl
pushed x r f h (suc c) = let z : suc c - 1 ≡ c = omega arith in rw (z, ne_eqb (suc c) 0 (λ e. omega arith)) (h c)

no_both : (s : Statement) → is an_end s ≡ true → steps switch s ≡ false
unfolding statements_open steps any
no_both =
    by_form (λ s. is an_end s ≡ true → steps switch s ≡ false)
    (λ i. no) (λ n c. no) (λ n. no) (λ n c. no) (λ w n. no) (λ m n. no) (λ t n. no) (λ o n c. no) (λ n x. no) (λ x y. no) (λ n. no) (λ p xs. no) (λ e. refl)

pub search_is : {names rows : List ℕ} {ss : Past} → Single ss → Laid (rooms_of ss) names rows → (c : ℕ) → open_width rows (length ss) c ≡ map length (take 1 (drop c (switches ss)))
unfolding open_width switches each_length
search_is none-single l zero = refl
search_is none-single l (suc c) = refl
search_is {names} {rows} (one_single {s} {ss} one t) l c =
    let at = laid-last s ss (length ss) refl l in
    let before = search_is t (laid-before s ss l) in
    rw (row-end rows (length ss) _ s at, row-switch rows (length ss) _ s at)
    (by_bool
    (λ b. (b ≡ true → steps switch s ≡ false) → cond (steps switch s && eqb c 0) (column rows (length ss) 3 ∷ []) (open_width rows (length ss) (cond b (c + 1) (cond (steps switch s) (c - 1) c))) ≡ map length (take 1 (drop c (cond b (drop 1 (switches ss)) (cond (steps switch s) ((contents s).signals ++ switches ss) (switches ss))))))
    (is an_end s)
    (λ e n. rw (n refl) (before (c + 1) ∙ ap (λ (r : List Signal). map length (take 1 r)) (ap (λ (n : ℕ). drop n (switches ss)) (let z : c + 1 ≡ 1 + c = omega arith in z) ∙ sym (drop-drop c 1 (switches ss)))))
    (λ e n. by-test (steps switch s)
    (λ q. let x = one q in rw (q, row-width rows (length ss) _ s at q, x.1) (pushed x.0 (switches ss) (open_width rows (length ss)) before c))
    (λ q. rw q (before c)))
    (no_both s))

-- ---- one row back

module _ (rows : List ℕ) where
  open-stop : (k c : ℕ) → 0 < k → (switch_row rows (k - 1) && eqb c 0) ≡ true → open_width rows k c ≡ column rows (k - 1) 3 ∷ []
  unfolding open_width
  open-stop zero c h e = absurd (omega arith)
  open-stop (suc k) c h e =
      let z : suc k - 1 ≡ k = omega arith in
      let q : (switch_row rows k && eqb c 0) ≡ true = rw z at e in
      rw (z, q)

  open_more :
      (k c : ℕ) → 0 < k → (switch_row rows (k - 1) && eqb c 0) ≡ false →
      open_width rows k c ≡ open_width rows (k - 1) (cond (end_row rows (k - 1)) (c + 1) (cond (switch_row rows (k - 1)) (c - 1) c))
  unfolding open_width
  open_more zero c h e = absurd (omega arith)
  open_more (suc k) c h e =
      let z : suc k - 1 ≡ k = omega arith in
      let q : (switch_row rows k && eqb c 0) ≡ false = rw z at e in
      rw (z, q)

  pub open-end : (k c : ℕ) → k ≤ 0 → open_width rows k c ≡ []
  unfolding open_width
  open-end zero c h = refl
  open-end (suc k) c h = absurd (omega arith)

  -- by the tests of a row, for a list that is the same from this row on
  module _ {xs : List ℕ} (k c : ℕ) (e : xs ≡ open_width rows k c) (l : 0 < k) {a : Bool} (ea : a ≡ switch_row rows (k - 1)) where
    pub open-stops : (a && eqb c 0) ≡ true → {w : ℕ} → w ≡ column rows (k - 1) 3 → w ∷ [] ≡ xs
    open-stops f q = rw q (sym (e ∙ open-stop k c l (rw (← ea) f)))

    pub open-goes : (a && eqb c 0) ≡ false → {b : Bool} → b ≡ end_row rows (k - 1) → {d : ℕ} → d ≡ cond b (c + 1) (cond a (c - 1) c) → xs ≡ open_width rows (k - 1) d
    open-goes f q g = rw (g, q, ea) (e ∙ open_more k c l (rw (← ea) f))

-- ---- what a step asks

unfoldable asked_of : List ℕ → (k t : ℕ) → List ℕ
asked_of rows k t = cond (eqb t 21) (open_width rows k 0) (cond (within 26 30 t) (1 ∷ []) [])

asked-of : {names rows : List ℕ} {ss : Past} (p : Step) → Single ss → Laid (rooms_of ss) names rows → step_widths ss p ≡ asked_of rows (length ss) (step_code p)
unfolding asked_of step_widths step_code within
asked-of assign o l = refl
asked-of update o l = refl
asked-of switch o l = refl
asked-of case o l = sym (search_is o l 0)
asked-of low o l = refl
asked-of high o l = refl
asked-of posedge o l = refl
asked-of negedge o l = refl
asked-of edge o l = refl
asked-of global o l = refl
asked-of init o l = refl
asked-of always o l = refl

asked_is : (rows : List ℕ) (place : Place) (t : ℕ) (r : Option ℕ) → widths r ≡ asked_of rows place.rows t → AskedIs rows place t r
unfolding place_of
asked_is rows place t r e names ss p l o ep ec =
    asked-of p o l ∙ rw (ec, ← ap (λ (q : Place). q.rows) ep) (sym e)

module _ (rows : List ℕ) (place : Place) (t : ℕ) where
  pub asked-switch : t ≡ 21 → (r : Option ℕ) → widths r ≡ open_width rows place.rows 0 → AskedIs rows place t r
  unfolding asked_of
  asked-switch h r e = asked_is rows place t r (rw h e)

  module _ (h : t ≡ 21 → ⊥) {b : Bool} (q : b ≡ within 26 30 t) where
    pub asked-bit : b ≡ true → AskedIs rows place t (Some 1)
    unfolding asked_of widths
    asked-bit e = asked_is rows place t (Some 1) (rw (ne_eqb t 21 h, ← q, e))

    pub asked-nothing : b ≡ false → AskedIs rows place t None
    unfolding asked_of widths
    asked-nothing e = asked_is rows place t None (rw (ne_eqb t 21 h, ← q, e))

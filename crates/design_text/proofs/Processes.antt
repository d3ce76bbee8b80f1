-- The rows of a process write what the pass over its statements does: the two numbers that the rows lead to are the level of the scope and how
-- many switches are open.
-- Assumes nothing.
use Prim.Native.Nat.{ℕ, zero, suc, ◌+◌, ◌-◌, ◌*◌}
use mathlib.Core.Path.{◌≡◌, refl, sym, ap, ap₂, ◌∙◌}
use mathlib.Core.List.{List, [], ◌∷◌, ◌++◌, flat_map, append_assoc, append-nil}
use mathlib.Core.Option.{Option, none, some, map}
use mathlib.Core.Bool.{Bool, true, false, cond, ◌&&◌, ◌||◌, false≢true}
use native.Mathlib.Omega.{arith}
use lib.Dec.{eqb, ltb, eqb-suc-zero}
use lib.ListN.{length}
use borrow.Author.Tests.{eqb-true, eq-eqb}
use Rattle.rules.specs.Limits.{most_switches}
use Rattle.rules.specs.Bytes.{any, all, bytes}
use Rattle.rules.specs.Statements.{Statement, Signal, Step, assign, update, switch, case, low, high, posedge, negedge, edge, global, init, always, step_code, autoidx-stmt, attr-stmt, module-stmt, param-stmt, wire-stmt, memory-stmt, cell-stmt, cell-param-stmt, cell-conn-stmt, conn-stmt, proc-stmt, step-stmt, end-stmt, an_attribute, a_parameter, a_wire, a_memory, a_cell, a_connection, a_process, code, contents, is, statements_open}
use Rattle.rules.specs.Shapes.{Scope, top, in_module, in_cell, in_process, in_tail, in_sync, in_switch, in_case}
use Rattle.rules.specs.Judgement.{until, outer, around, nested, behind_step, steps}
use Rattle.rules.specs.Text.{level, holder}
use Rattle.lists.specs.Tests.{by-test, by_cond, and-true-left, and-true-right, eqb-sym}
use Rattle.lists.specs.Elements.{all_snoc, all_append, test_at}
use Rattle.context.specs.Forms.{by_form}
use Rattle.context.specs.Place.{is_sync}
use Rattle.admitted.specs.Admitted.{kinds, syncs, nested_steps, steps_in, same_step, stands_in}
use Rattle.admitted.specs.CountLaws.{among-test, stands-kind, stands-step, scope_behind}
use Rattle.admitted.specs.StepLaws.{step-among}
use Rattle.canonical.specs.Nesting.{is_switch}
use Rattle.canonical.specs.Following.{depth, inside, outer-depth, outer-inside, step-deeper}
use Rattle.wires.specs.Rows.{column}
use Rattle.netlist.specs.Rows.{kind_at}
use Rattle.netlist.specs.Steps.{step_named, signals_at}
use Rattle.netlist.specs.Statements.{statement_by, statement_at}
use Rattle.netlist.specs.Tables.{Tables}
use Rattle.wire_names.specs.declared.Module.{Module}
use Rattle.step_text.specs.StepLaws.{by_code}
use Rattle.line_text.specs.Lines.{statement_now}
use Rattle.module_text.specs.Blocks.{line_of}
use Rattle.module_text.specs.Passes.{lines_of, kind_lines, object_lines, print_memory, print_to_end, shut_lines, step_lines, print_process}
use Rattle.module_text.specs.StandLaws.{Follows, one_follows}
use Rattle.process_text.specs.declared.Inside.{Inside}
use Rattle.process_text.specs.Rows.{waiting_from, step_at, level_of, deepens, opened_by, behind, closes, row_line, row_lines, step_rows, inside_rows, process_rows}
use Rattle.design_text.specs.Rows.{body_rows}
use Rattle.design_text.proofs.Passes.{Rowed, no_rows, one-row, rowed-more, more-behind, seen, row-line, end_line, kind-rows, cell-rows, line-rows, object-rows}

-- ---- LEVELS
both : {a b : Bool} → a ≡ true → b ≡ true → a && b ≡ true
both {a} {b} h k = rw (h, k)

-- a step's level by the two numbers, and the numbers behind it
unfoldable fits : Scope → Step → Bool
fits p q =
    eqb (cond (eqb (step_code q) 21) (2 * depth p + 1) (cond (is_sync (step_code q)) 2 (level p))) (level (holder p q))
    && (eqb (level (holder p q) + cond (deepens (step_code q)) 1 0) (level (behind_step p q))
    && eqb (depth p + cond (eqb (step_code q) 20) 1 0) (depth (behind_step p q)))

three : (a b c d e f : ℕ) → a ≡ b → c ≡ d → e ≡ f → eqb a b && (eqb c d && eqb e f) ≡ true
three a b c d e f h i j = both (eq-eqb a b h) (both (eq-eqb c d i) (eq-eqb e f j))

case-fits : (k : ℕ) (p : Scope) → nested p ≡ k → depth p ≡ suc k → fits p case ≡ true
unfolding fits level holder behind_step deepens is_sync step_code depth
case-fits k p n d = rw (n, d) (three (2 * suc k + 1) (3 + 2 * k) (3 + 2 * k + 1) (4 + 2 * k) (suc k + 0) (suc k) (omega arith) (omega arith) (omega arith))

switch_fits : (k : ℕ) → fits (in_case k) switch ≡ true
unfolding fits level holder behind_step around deepens is_sync step_code depth
switch_fits k = three (4 + 2 * k) (4 + 2 * k) (4 + 2 * k + 1) (3 + 2 * (k + 1)) (suc k + 1) (suc (k + 1)) refl (omega arith) (omega arith)

assign-fits : (k : ℕ) → fits (in_case k) assign ≡ true
unfolding fits level holder behind_step deepens is_sync step_code depth
assign-fits k = three (4 + 2 * k) (4 + 2 * k) (4 + 2 * k + 0) (4 + 2 * k) (suc k + 0) (suc k) refl (omega arith) (omega arith)

nested-fit : (k : ℕ) → all (fits (in_case k)) (nested_steps k) ≡ true
unfolding all nested_steps nested depth
nested-fit k =
    by_cond (λ (l : List Step). all (fits (in_case k)) l ≡ true) (ltb (k + 1) most_switches)
    (λ e. both (switch_fits k) (both (case-fits k (in_case k) refl refl) refl))
    (λ e. both (case-fits k (in_case k) refl refl) refl)

steps-fit : (p : Scope) (a : Bool) → all (fits p) (steps_in p a) ≡ true
unfolding all fits steps_in syncs level holder behind_step around nested deepens is_sync step_code depth
steps-fit top a = refl
steps-fit in_module a = refl
steps-fit in_cell a = refl
steps-fit in_process true = refl
steps-fit in_process false = refl
steps-fit in_tail a = refl
steps-fit in_sync a = refl
steps-fit (in_switch k) a = both (case-fits k (in_switch k) refl refl) refl
steps-fit (in_case k) true = nested-fit k
steps-fit (in_case k) false = all_append (fits (in_case k)) (nested_steps k) (assign ∷ []) (nested-fit k) (both (assign-fits k) refl)

record Fits (p : Scope) (q : Step) : Type 0 where
  here : cond (eqb (step_code q) 21) (2 * depth p + 1) (cond (is_sync (step_code q)) 2 (level p)) ≡ level (holder p q)
  level-behind : level (holder p q) + cond (deepens (step_code q)) 1 0 ≡ level (behind_step p q)
  open-behind : depth p + cond (eqb (step_code q) 20) 1 0 ≡ depth (behind_step p q)

step_fits : (p : Scope) (f a : Bool) (q : Step) (xs : List Signal) → stands_in p f a (step-stmt q xs) ≡ true → Fits p q
unfolding fits all statements_open
step_fits p f a q xs e =
    let s = and-true-left (any (same_step q) (steps_in p a)) true (stands-step p f a (step-stmt q xs) e) in
    let h = step-among (fits p) (steps_in p a) q (steps-fit p a) s in
    let k = and-true-right (eqb (cond (eqb (step_code q) 21) (2 * depth p + 1) (cond (is_sync (step_code q)) 2 (level p))) (level (holder p q))) _ h in
    record {
      here = eqb-true _ _ (and-true-left _ _ h);
      level-behind = eqb-true _ _ (and-true-left _ _ k);
      open-behind = eqb-true _ _ (and-true-right (eqb (level (holder p q) + cond (deepens (step_code q)) 1 0) (level (behind_step p q))) _ k);
    }

-- an `end` of a switch stands with it
end-level : (p : Scope) (j : ℕ) → depth p ≡ suc j → 2 * suc j ≡ level (outer p)
unfolding depth level outer
end-level top j d = absurd (omega arith)
end-level in_module j d = absurd (omega arith)
end-level in_cell j d = absurd (omega arith)
end-level in_process j d = absurd (omega arith)
end-level in_tail j d = absurd (omega arith)
end-level in_sync j d = absurd (omega arith)
end-level (in_switch zero) j d = omega arith
end-level (in_switch (suc k)) j d = omega arith
end-level (in_case zero) j d = omega arith
end-level (in_case (suc k)) j d = omega arith

-- in a process stand attributes, steps and `end`s
abbrev inner : ℕ → Bool
inner n = eqb 2 n || (eqb 12 n || eqb 13 n)

inner-kinds : (p : Scope) (f a : Bool) → inside p ≡ true → all (λ k. inner (code k)) (kinds p f a) ≡ true
unfolding all kinds code inside
inner-kinds top f a i = absurd (false≢true i)
inner-kinds in_module f a i = absurd (false≢true i)
inner-kinds in_cell f a i = absurd (false≢true i)
inner-kinds in_process f true i = refl
inner-kinds in_process f false i = refl
inner-kinds in_tail f a i = refl
inner-kinds in_sync f a i = refl
inner-kinds (in_switch k) f true i = refl
inner-kinds (in_switch k) f false i = refl
inner-kinds (in_case k) f true i = refl
inner-kinds (in_case k) f false i = refl

stands-inner : (p : Scope) (f a : Bool) (s : Statement) → inside p ≡ true → stands_in p f a s ≡ true → inner (code (contents s).kind) ≡ true
stands-inner p f a s i e = among-test inner (kinds p f a) s (inner-kinds p f a i) (stands-kind p f a s e)

-- the two numbers are those of a scope in a process
record Placed (z : Inside) (p : Scope) : Type 0 where
  inside : inside p ≡ true
  opened : z.opened ≡ depth p
  level : z.level ≡ level p

into-process : (p : Scope) (s : Statement) → is a_process s ≡ true → scope_behind p s ≡ in_process
unfolding scope_behind is code
into-process p s c = rw (c, ← eqb-true 11 (code (contents s).kind) c)

module _ (t : Tables) (m : Module) where
  -- the code of a step's row
  abbrev taken : List Signal → Option Step → Option Statement
  taken ys o = map (λ p. step-stmt p ys) o

  same_code : (ys xs : List Signal) (q : Step) (n : ℕ) → taken ys (step_named n) ≡ some (step-stmt q xs) → n ≡ step_code q
  same_code ys xs q n =
      by_code (λ n o. taken ys o ≡ some (step-stmt q xs) → n ≡ step_code q)
      (λ p e. let h : p ≡ q = cc in ap step_code h) (λ n h e. let z : ◌≡◌ {A = ℕ} 0 1 = cc in absurd (omega arith)) n

  step-code : (k : ℕ) (q : Step) (xs : List Signal) → statement_now t.names t.strings t.bits t.wires t.rows m k ≡ some (step-stmt q xs) → kind_at t.rows k ≡ 13 → step_at t.rows k ≡ step_code q
  unfolding statement_now statement_at statement_by step_at
  step-code k q xs e h = rw h (same_code (signals_at t.bits t.rows k) xs q (column t.rows k 1) (rw h at e))

  -- some rows at one level, and one behind them
  rows-lines :
      (l k : ℕ) (s : Statement) {first : ℕ} {at : List Statement} → k ≡ first + length at → Rowed t m first at →
      statement_now t.names t.strings t.bits t.wires t.rows m k ≡ some s → row_lines t m l first (suc (length at)) ≡ lines_of l (seen t m) at ++ line_of l (seen t m) s
  unfolding row_lines lines_of flat_map
  rows-lines l k s {first} e no_rows x =
      let d : k ≡ first = omega arith in
      append-nil (row_line t m l first) ∙ row-line t m l first s (rw d at x)
  rows-lines l k s {first} e (one-row {s = y} {ss} v q r) x =
      ap₂ ◌++◌ (row-line t m l first y v) (rows-lines l k s (omega arith) r x) ∙ sym (append_assoc (line_of l (seen t m) y) (lines_of l (seen t m) ss) (line_of l (seen t m) s))

  -- ---- ONE ROW, if the rows behind it write what the statements there do
  module _ (k : ℕ) (ss : List Statement) where
    abbrev onward : List Statement
    onward = until (is a_process) ss

    abbrev Onward : Type 0
    Onward =
        (z : Inside) (p : Scope) (first : ℕ) (at : List Statement) → Placed z p → suc k ≡ first + length at → all (is an_attribute) at ≡ true → Rowed t m first at → Follows p false ss →
        inside_rows t m z first (suc k) (length ss) ≡ step_lines (seen t m) p (depth p) at onward

    module _ (more : Onward) (z : Inside) (p : Scope) (w : Placed z p) (first : ℕ) (at : List Statement) (e : k ≡ first + length at) (h : all (is an_attribute) at ≡ true) (r : Rowed t m first at) (f a : Bool) where
      abbrev Here : Statement → Type 0
      Here s =
          statement_now t.names t.strings t.bits t.wires t.rows m k ≡ some s → kind_at t.rows k ≡ code (contents s).kind → stands_in p f a s ≡ true → Follows (scope_behind p s) false ss →
          inside_rows t m z first k (suc (length ss)) ≡ step_lines (seen t m) p (depth p) at (until (is a_process) (s ∷ ss))

      attribute-here : (n : List ℕ) (c : _) → Here (attr-stmt n c)
      unfolding inside_rows step_at closes level_of deepens is_sync opened_by behind step_rows waiting_from step_lines until scope_behind all statements_open
      attribute-here n c x q i fo =
          rw q
          (more (behind z 2 0) p first (at ++ attr-stmt n c ∷ []) (record { inside = w.inside; opened = omega (arith, w.opened); level = omega (arith, w.level) })
          (more-behind k first at (attr-stmt n c) e) (all_snoc (is an_attribute) at (attr-stmt n c) h refl) (rowed-more (attr-stmt n c) k e r x q) fo)

      -- behind row k none waits
      next : k + 1 ≡ suc k
      next = omega arith

      end_by : (d : ℕ) → depth p ≡ d → statement_now t.names t.strings t.bits t.wires t.rows m k ≡ some end-stmt → kind_at t.rows k ≡ 12 → Follows (outer p) false ss → inside_rows t m z first k (suc (length ss)) ≡ shut_lines d (λ j. line_of (level (outer p)) (seen t m) end-stmt ++ step_lines (seen t m) (outer p) j [] onward)
      unfolding inside_rows step_at closes level_of deepens is_sync opened_by behind step_rows waiting_from shut_lines lines_of flat_map all
      end_by zero d x q fo = let o : z.opened ≡ 0 = w.opened ∙ d in rw (q, o)
      end_by (suc j) d x q fo =
          let o : z.opened ≡ suc j = w.opened ∙ d in
          let shut : eqb z.opened 0 ≡ false = ap (λ (n : ℕ). eqb n 0) o ∙ eqb-suc-zero j in
          let lv : 2 * z.opened ≡ level (outer p) = ap (λ (n : ℕ). 2 * n) o ∙ end-level p j d in
          let one : k + 1 - k ≡ 1 = omega arith in
          let k0 : k ≡ k + 0 = omega arith in
          let dj : depth (outer p) ≡ j = omega (arith, outer-depth p) in
          let placed : Placed (behind z 12 0) (outer p) = record { inside = outer-inside p j d; opened = omega (arith, outer-depth p); level = omega (arith, lv) } in
          let line : row_lines t m (2 * z.opened) k (k + 1 - k) ≡ line_of (level (outer p)) (seen t m) end-stmt = rw (one, lv) (rows-lines (level (outer p)) k end-stmt k0 no_rows x) in
          let rest : inside_rows t m (behind z 12 0) (k + 1) (suc k) (length ss) ≡ step_lines (seen t m) (outer p) j [] onward =
          rw next (more (behind z 12 0) (outer p) (suc k) [] placed (omega arith) refl no_rows fo ∙ ap (λ (n : ℕ). step_lines (seen t m) (outer p) n [] onward) dj) in
          rw (q, shut) (ap₂ ◌++◌ line rest)

      end-here : Here end-stmt
      unfolding step_lines until scope_behind statements_open
      end-here x q i fo = end_by (depth p) refl x q fo

      step-here : (v : Step) (xs : List Signal) → Here (step-stmt v xs)
      unfolding inside_rows closes level_of opened_by behind step_rows waiting_from step_lines until scope_behind steps is_switch any all statements_open
      step-here v xs x q i fo =
          let n = step_code v in
          let s = step_fits p f a v xs i in
          let d = step-deeper p f a v xs i in
          let lv : level_of z 13 n ≡ level (holder p v) = rw (w.opened, w.level) s.here in
          let count : k + 1 - first ≡ suc (length at) = omega arith in
          let placed : Placed (behind z 13 n) (behind_step p v) =
          record {
            inside = d.behind;
            opened = ap (λ (o : ℕ). o + cond (eqb n 20) 1 0) w.opened ∙ s.open-behind;
            level = ap (λ (l : ℕ). l + cond (deepens n) 1 0) lv ∙ s.level-behind;
          } in
          let line : row_lines t m (level_of z 13 n) first (k + 1 - first) ≡ lines_of (level (holder p v)) (seen t m) at ++ line_of (level (holder p v)) (seen t m) (step-stmt v xs) =
          rw (lv, count) (rows-lines (level (holder p v)) k (step-stmt v xs) e r x) in
          let rest : inside_rows t m (behind z 13 n) (k + 1) (suc k) (length ss) ≡ step_lines (seen t m) (behind_step p v) (cond (is_switch v) (depth p + 1) (depth p)) [] onward =
          rw next (more (behind z 13 n) (behind_step p v) (suc k) [] placed (omega arith) refl no_rows fo ∙ ap (λ (o : ℕ). step_lines (seen t m) (behind_step p v) o [] onward) d.depth) in
          rw (step-code k v xs x q, q) (ap₂ ◌++◌ line rest)

      -- no other line stands in a process
      row_here : (s : Statement) → Here s
      unfolding statements_open
      row_here =
          let not-inner : (s : Statement) → inner (code (contents s).kind) ≡ false → Here s =
          λ s o x q i fo. absurd (false≢true (sym o ∙ stands-inner p f a s w.inside i)) in
          by_form Here
          (λ i. not-inner (autoidx-stmt i) refl) attribute-here (λ n. not-inner (module-stmt n) refl) (λ n c. not-inner (param-stmt n c) refl) (λ y n. not-inner (wire-stmt y n) refl)
          (λ y n. not-inner (memory-stmt y n) refl) (λ y n. not-inner (cell-stmt y n) refl) (λ o n c. not-inner (cell-param-stmt o n c) refl) (λ n y. not-inner (cell-conn-stmt n y) refl)
          (λ y v. not-inner (conn-stmt y v) refl) (λ n. not-inner (proc-stmt n) refl) step-here end-here

  -- ALL ROWS of a process
  inside-rows :
      (z : Inside) (p : Scope) (first k : ℕ) (at : List Statement) {ss : List Statement} {f : Bool} → Placed z p → k ≡ first + length at → all (is an_attribute) at ≡ true →
      Rowed t m first at → Rowed t m k ss → Follows p f ss → inside_rows t m z first k (length ss) ≡ step_lines (seen t m) p (depth p) at (until (is a_process) ss)
  unfolding inside_rows step_lines until
  inside-rows z p first k at w e h a no_rows fo = refl
  inside-rows z p first k at {f = f} w e h a (one-row {s = s} {ss} x q r) (one_follows g y fo) =
      row_here k ss (λ z p first at w e h a fo. inside-rows z p first (suc k) at w e h a r fo) z p w first at e h a f g s x q y fo

  process-rows :
      (n k : ℕ) (at : List Statement) (s : Statement) (more : List Statement) (p : Scope) → is a_process s ≡ true → statement_now t.names t.strings t.bits t.wires t.rows m k ≡ some s →
      Rowed t m (suc k) more → Follows (scope_behind p s) false more → lines_of 1 (seen t m) at ++ process_rows t m k (length more) ≡ print_process (seen t m) n at s more
  unfolding process_rows print_process depth inside level all
  process-rows n k at s more p i e r fo =
      let j : k + 1 ≡ suc k = omega arith in
      let o : Follows in_process false more = rw (into-process p s i) at fo in
      let b : inside_rows t m (record { opened = 0; level = 2 }) (suc k) (suc k) (length more) ≡ step_lines (seen t m) in_process 0 [] (until (is a_process) more) =
      inside-rows (record { opened = 0; level = 2 }) in_process (suc k) (suc k) [] (record { inside = refl; opened = refl; level = refl }) (omega arith) refl no_rows r o in
      rw (j, row-line t m 1 k s e, b, end_line t m (seen t m)) (simp append_assoc)

  -- WHAT STANDS IN A MODULE
  pub body-rows :
      {k : ℕ} {ss : List Statement} {p : Scope} {f : Bool} → Rowed t m k ss → Follows p f ss →
      body_rows t m k (length ss)
      ≡ kind_lines a_parameter 1 (seen t m) ss
      ++ object_lines a_wire (print_memory (seen t m)) 0 [] ss
      ++ object_lines a_memory (print_memory (seen t m)) 0 [] ss
      ++ object_lines a_cell (print_to_end (seen t m)) 0 [] ss
      ++ object_lines a_process (print_process (seen t m)) 0 [] ss
      ++ kind_lines a_connection 1 (seen t m) ss
  unfolding body_rows code all
  body-rows {k} {ss} r fo =
      let z : k ≡ k + 0 = omega arith in
      rw (
        kind-rows t m a_parameter 4 1 refl r,
        object-rows t m a_wire 5 refl refl (print_memory (seen t m)) (λ n k at s more p i e r fo. line-rows t m n k at s more e) 0 k k [] z refl no_rows r fo,
        object-rows t m a_memory 6 refl refl (print_memory (seen t m)) (λ n k at s more p i e r fo. line-rows t m n k at s more e) 0 k k [] z refl no_rows r fo,
        object-rows t m a_cell 7 refl refl (print_to_end (seen t m)) (λ n k at s more p i e r fo. cell-rows t m n k at s more e r) 0 k k [] z refl no_rows r fo,
        object-rows t m a_process 11 refl refl (print_process (seen t m)) process-rows 0 k k [] z refl no_rows r fo,
        kind-rows t m a_connection 10 1 refl r,
      )

-- The lines of a process: what a line sees of the past besides the wires, which switches are open behind it, and that a process which closes
-- its switches ends in its module.
-- Assumes nothing.
use Rattle.std.specs.Prelude.{ℕ, zero, suc, ◌+◌, ◌-◌, ◌≡◌, Bool, true, false, not, cond, ◌&&◌, ◌||◌, eqb, ltb, length}
use Rattle.std.proofs.Common.{arith, sym, ap, ap₂, ◌∙◌, length-append, length-drop, eqb-true, eq-eqb}
use Rattle.std.proofs.Math.Path.{refl}
use mathlib.Core.List.{List, [], ◌∷◌, ◌++◌, map, flat_map, reverse_aux, reverse_aux-append}
use Rattle.std.proofs.lemmas.Bool.{false≢true}
use Rattle.rules.specs.Limits.{most_switches}
use Rattle.rules.specs.Bytes.{any, all}
use Rattle.rules.specs.Tokens.{Name}
use Rattle.rules.specs.Statements.{Statement, Signal, Step, assign, update, switch, case, low, high, posedge, negedge, edge, global, init, always, step_code, an_attribute, code, contents, is, attr-stmt, module-stmt, cell-stmt, proc-stmt, step-stmt, end-stmt, statements_open}
use Rattle.rules.specs.Shapes.{Scope, top, in_module, in_cell, in_process, in_tail, in_sync, in_switch, in_case, Context}
use Rattle.rules.specs.Judgement.{Past, outer, around, nested, behind_step, scope, steps, switches, context, among, equal, step_widths, fit_widths}
use Rattle.rules.specs.Design.{Setting, Object, Line, step_line, end_line, line_statements, process_lines}
use Rattle.lists.specs.Tests.{by-test, by_cond, and-true-left, and-true-right}
use Rattle.lists.specs.Lists.{flat_map-same}
use Rattle.lists.specs.Elements.{all_append, test_at}
use Rattle.context.specs.Forms.{by_form}
use Rattle.admitted.specs.Admitted.{kinds, syncs, nested_steps, steps_in, same_step, stands_in, stands, arity}
use Rattle.admitted.specs.CountLaws.{among-test, stands-kind, stands-step, context-scope, scope_behind, scope-behind}
use Rattle.admitted.specs.StepLaws.{same_step_lem, step-among}
use Rattle.canonical.specs.Nesting.{settings, is_switch, balanced_to}
use Rattle.canonical.specs.Fine.{follows, passing, FineProcess}
use Rattle.canonical.specs.Tally.{Through, through_before}

-- A TEST ALONG SOME STATEMENTS
module _ (f : Past → Statement → Bool) where
  pub passing-through : (l : List Statement) (p : Past) → passing f p l ≡ true → Through f p → Through f (reverse_aux l p)
  unfolding passing
  passing-through [] p e h = h
  passing-through (s ∷ l) p e h = passing-through l (s ∷ p) (and-true-right (f p s) _ e) (and-true-left (f p s) _ e, h)

  pub through-passing : (l : List Statement) (p : Past) → Through f (reverse_aux l p) → passing f p l ≡ true
  unfolding passing
  through-passing [] p h = refl
  through-passing (s ∷ l) p h = rw (through_before f l (s ∷ p) h).0 (through-passing l (s ∷ p) h)

-- THE PARTS OF THE TEST
pub record Follows (p : Past) (s : Statement) : Type 0 where
  pub standing : stands_in (scope p) (context p).first (context p).attributed s ≡ true
  pub arities : all (λ q. arity q (length (contents s).signals)) (contents s).steps ≡ true
  pub widths : fit_widths p s (map length (contents s).signals) ≡ true

pub follows-all : (p : Past) (s : Statement) → follows p s ≡ true → Follows p s
unfolding follows stands
follows-all p s e =
    let h = test_at (stands p s) (all (λ q. arity q (length (contents s).signals)) (contents s).steps ∷ fit_widths p s (map length (contents s).signals) ∷ []) e in
    record { standing = rw (← context-scope p) (h 0); arities = h 1; widths = h 2 }

-- HOW MANY SWITCHES ARE OPEN, and whether a process is
unfoldable pub depth : Scope → ℕ
depth top = 0
depth in_module = 0
depth in_cell = 0
depth in_process = 0
depth in_tail = 0
depth in_sync = 0
depth (in_switch k) = suc k
depth (in_case k) = suc k

unfoldable pub inside : Scope → Bool
inside top = false
inside in_module = false
inside in_cell = false
inside in_process = true
inside in_tail = true
inside in_sync = true
inside (in_switch k) = true
inside (in_case k) = true

-- behind an `end`
pub outer-depth : (z : Scope) → depth (outer z) ≡ depth z - 1
unfolding depth outer
outer-depth top = refl
outer-depth in_module = refl
outer-depth in_cell = refl
outer-depth in_process = refl
outer-depth in_tail = refl
outer-depth in_sync = refl
outer-depth (in_switch zero) = refl
outer-depth (in_switch (suc k)) = omega arith
outer-depth (in_case zero) = refl
outer-depth (in_case (suc k)) = omega arith

pub outer-inside : (z : Scope) (k : ℕ) → depth z ≡ suc k → inside (outer z) ≡ true
unfolding depth inside outer
outer-inside top k e = absurd (omega arith)
outer-inside in_module k e = absurd (omega arith)
outer-inside in_cell k e = absurd (omega arith)
outer-inside in_process k e = absurd (omega arith)
outer-inside in_tail k e = absurd (omega arith)
outer-inside in_sync k e = absurd (omega arith)
outer-inside (in_switch zero) k e = refl
outer-inside (in_switch (suc j)) k e = refl
outer-inside (in_case zero) k e = refl
outer-inside (in_case (suc j)) k e = refl

pub process-ends : (z : Scope) → inside z ≡ true → depth z ≡ 0 → outer z ≡ in_module
unfolding depth inside outer
process-ends top i e = absurd (false≢true i)
process-ends in_module i e = absurd (false≢true i)
process-ends in_cell i e = absurd (false≢true i)
process-ends in_process i e = refl
process-ends in_tail i e = refl
process-ends in_sync i e = refl
process-ends (in_switch k) i e = absurd (omega arith)
process-ends (in_case k) i e = absurd (omega arith)

-- behind a step: a process is open, and one switch more behind a switch
unfoldable keeps : Scope → Step → Bool
keeps z p = inside z && inside (behind_step z p) && eqb (depth (behind_step z p)) (cond (is_switch p) (depth z + 1) (depth z))

same-depth : (k : ℕ) → eqb (suc k) (suc k) ≡ true
same-depth k = eq-eqb (suc k) (suc k) refl

deeper : (k : ℕ) → eqb (suc (k + 1)) (suc k + 1) ≡ true
deeper k = eq-eqb (suc (k + 1)) (suc k + 1) (omega arith)

nested-keep : (k : ℕ) → all (keeps (in_case k)) (nested_steps k) ≡ true
unfolding all keeps nested_steps inside depth behind_step around nested is_switch any step_code
nested-keep k =
    by_cond (λ (l : List Step). all (keeps (in_case k)) l ≡ true) (ltb (k + 1) most_switches) (λ e. rw (deeper k, same-depth k)) (λ e. rw (same-depth k))

steps-keep : (z : Scope) (a : Bool) → all (keeps z) (steps_in z a) ≡ true
unfolding all keeps steps_in syncs inside depth behind_step around nested is_switch any step_code
steps-keep top a = refl
steps-keep in_module a = refl
steps-keep in_cell a = refl
steps-keep in_process true = refl
steps-keep in_process false = refl
steps-keep in_tail a = refl
steps-keep in_sync a = refl
steps-keep (in_switch k) a = rw (same-depth k)
steps-keep (in_case k) true = nested-keep k
steps-keep (in_case k) false = all_append (keeps (in_case k)) (nested_steps k) (assign ∷ []) (nested-keep k) (rw (same-depth k))

pub record Deeper (z : Scope) (p : Step) : Type 0 where
  pub here : inside z ≡ true
  pub behind : inside (behind_step z p) ≡ true
  pub depth : depth (behind_step z p) ≡ cond (is_switch p) (depth z + 1) (depth z)

pub step-deeper : (z : Scope) (f a : Bool) (p : Step) (xs : List Signal) → stands_in z f a (step-stmt p xs) ≡ true → Deeper z p
unfolding keeps all statements_open
step-deeper z f a p xs e =
    let s = and-true-left (any (same_step p) (steps_in z a)) true (stands-step z f a (step-stmt p xs) e) in
    let h = test_at (inside z) (inside (behind_step z p) ∷ eqb (depth (behind_step z p)) (cond (is_switch p) (depth z + 1) (depth z)) ∷ []) (step-among (keeps z) (steps_in z a) p (steps-keep z a) s) in
    record { here = h 0; behind = h 1; depth = eqb-true _ _ (h 2) }

-- what opens a module, a cell or a process stands where no switch is open
unfoldable opens : ℕ → Bool
opens n = eqb n 3 || eqb n 7 || eqb n 11

openers : (z : Scope) (f a : Bool) → all (λ k. not (opens (code k)) || eqb (depth z) 0) (kinds z f a) ≡ true
unfolding all opens kinds depth code
openers top true a = refl
openers top false a = refl
openers in_module f true = refl
openers in_module f false = refl
openers in_cell f a = refl
openers in_process f true = refl
openers in_process f false = refl
openers in_tail f a = refl
openers in_sync f a = refl
openers (in_switch k) f true = refl
openers (in_switch k) f false = refl
openers (in_case k) f true = refl
openers (in_case k) f false = refl

opens-shut : (z : Scope) (f a : Bool) (s : Statement) → stands_in z f a s ≡ true → opens (code (contents s).kind) ≡ true → depth z ≡ 0
opens-shut z f a s e o =
    let h = among-test (λ n. not (opens n) || eqb (depth z) 0) (kinds z f a) s (openers z f a) (stands-kind z f a s e) in
    let k : not true || eqb (depth z) 0 ≡ true = rw o at h in
    eqb-true (depth z) 0 k

-- the signals of the open switches are as many as the scope says
switch-one : (p : Step) (n : ℕ) → is_switch p ≡ true → arity p n ≡ true → n ≡ 1
unfolding is_switch any arity same_step
switch-one p n e a =
    let q : switch ≡ p = same_step_lem switch p (by-test (eqb (step_code switch) (step_code p)) (λ t. t) (λ t. absurd (false≢true (rw t at e)))) in
    let b : arity switch n ≡ true = rw (← q) at a in
    eqb-true n 1 b

open_step :
    (p : Past) (q : Step) (xs : List Signal) → follows p (step-stmt q xs) ≡ true → length (switches p) ≡ depth (scope p) →
    length (switches (step-stmt q xs ∷ p)) ≡ depth (scope (step-stmt q xs ∷ p))
unfolding switches scope steps is_switch all statements_open
open_step p q xs e h =
    let d = step-deeper (scope p) (context p).first (context p).attributed q xs (follows-all p (step-stmt q xs) e).standing in
    let a = and-true-left (arity q (length xs)) true (follows-all p (step-stmt q xs) e).arities in
    by-test (is_switch q)
    (λ t. let k : depth (behind_step (scope p) q) ≡ depth (scope p) + 1 = rw t at d.depth in rw t (omega (arith, length-append xs (switches p), switch-one q (length xs) t a)))
    (λ t. let k : depth (behind_step (scope p) q) ≡ depth (scope p) = rw t at d.depth in rw t (omega arith))

pub open-switches : (p : Past) → Through follows p → length (switches p) ≡ depth (scope p)
unfolding switches scope depth steps any opens statements_open
open-switches [] h = refl
open-switches (s ∷ p) h =
    let n = open-switches p h.1 in
    let shut : (s : Statement) → follows p s ≡ true → opens (code (contents s).kind) ≡ true → length (switches p) ≡ 0 =
    λ s e o. omega (arith, opens-shut (scope p) (context p).first (context p).attributed s (follows-all p s e).standing o) in
    by_form (λ s. follows p s ≡ true → length (switches (s ∷ p)) ≡ depth (scope (s ∷ p)))
    (λ i e. n) (λ m c e. n) (λ m e. shut (module-stmt m) e refl) (λ m c e. n) (λ w m e. n) (λ y m e. n) (λ t m e. shut (cell-stmt t m) e refl) (λ o m c e. n) (λ m x e. n) (λ x y e. n)
    (λ m e. shut (proc-stmt m) e refl) (λ q xs e. open_step p q xs e n) (λ e. omega (arith, length-drop 1 (switches p), outer-depth (scope p))) s h.0

length_none : (xs : List Signal) → length xs ≡ 0 → xs ≡ []
length_none [] e = refl
length_none (x ∷ xs) e = absurd (omega arith)

pub none_open : (p : Past) → Through follows p → depth (scope p) ≡ 0 → switches p ≡ []
none_open p h e =
    let n : length (switches p) ≡ 0 = open-switches p h ∙ e in
    length_none (switches p) n

-- BEHIND THE LINES OF A PROCESS that close their switches none is open
settings-scope : (at : List Setting) (p : Past) → scope (reverse_aux (settings at) p) ≡ scope p
unfolding scope statements_open
settings-scope [] p = refl
settings-scope (a ∷ at) p = settings-scope at (attr-stmt a.0 a.1 ∷ p)

step-behind : (at : List Setting) (q : Step) (xs : List Signal) (p : Past) → scope (step-stmt q xs ∷ reverse_aux (settings at) p) ≡ behind_step (scope p) q
unfolding scope statements_open
step-behind at q xs p = ap (λ (z : Scope). behind_step z q) (settings-scope at p)

-- a step with its attributes
pub line-deeper : (at : List Setting) (q : Step) (xs : List Signal) (p : Past) → follows (reverse_aux (settings at) p) (step-stmt q xs) ≡ true → Deeper (scope p) q
line-deeper at q xs p e =
    let r = reverse_aux (settings at) p in
    let s : stands_in (scope p) (context r).first (context r).attributed (step-stmt q xs) ≡ true = rw (settings-scope at p) at (follows-all r (step-stmt q xs) e).standing in
    step-deeper (scope p) (context r).first (context r).attributed q xs s

step-behind-depth :
    (at : List Setting) (q : Step) (xs : List Signal) (p : Past) (k : ℕ) → depth (scope p) ≡ k → Deeper (scope p) q →
    depth (scope (step-stmt q xs ∷ reverse_aux (settings at) p)) ≡ cond (is_switch q) (k + 1) k
step-behind-depth at q xs p k d n = ap depth (step-behind at q xs p) ∙ n.depth ∙ ap (λ (m : ℕ). cond (is_switch q) (m + 1) m) d

pub record Shut (p : Past) : Type 0 where
  pub inside : inside (scope p) ≡ true
  pub depth : depth (scope p) ≡ 0

pub lines-shut :
    (ls : List Line) (k : ℕ) (p : Past) → inside (scope p) ≡ true → depth (scope p) ≡ k → balanced_to 0 k ls ≡ true → Through follows (reverse_aux (flat_map line_statements ls) p) →
    Shut (reverse_aux (flat_map line_statements ls) p)
unfolding balanced_to line_statements flat_map scope statements_open
lines-shut [] k p i d e h = record { inside = i; depth = d ∙ eqb-true k 0 e }
lines-shut (step_line at q xs ∷ ls) k p i d e h =
    let r = reverse_aux (settings at) p in
    let a = reverse_aux-append (settings at ++ step-stmt q xs ∷ []) (flat_map line_statements ls) p in
    let b = reverse_aux-append (settings at) (step-stmt q xs ∷ []) p in
    let t : Through follows (reverse_aux (flat_map line_statements ls) (step-stmt q xs ∷ r)) = rw (a, b) at h in
    let n = line-deeper at q xs p (through_before follows (flat_map line_statements ls) (step-stmt q xs ∷ r) t).0 in
    rw (a, b)
    (lines-shut ls (cond (is_switch q) (k + 1) k) (step-stmt q xs ∷ r) (rw (step-behind at q xs p) n.behind) (step-behind-depth at q xs p k d n) e t)
lines-shut (end_line ∷ ls) zero p i d e h = absurd (false≢true e)
lines-shut (end_line ∷ ls) (suc k) p i d e h =
    lines-shut ls k (end-stmt ∷ p) (outer-inside (scope p) k d) (omega (arith, outer-depth (scope p))) e h

-- WHAT A LINE SEES besides the wires: its context, and the open switches
pub record Alike (p q : Past) : Type 0 where
  pub context : context p ≡ context q
  pub switches : switches p ≡ switches q

same-scope : {p q : Past} → Alike p q → scope p ≡ scope q
same-scope {p} {q} a = sym (context-scope p) ∙ ap (λ (c : Context). c.scope) a.context ∙ context-scope q

alike-step : (s : Statement) {p q : Past} → Alike p q → Alike (s ∷ p) (s ∷ q)
unfolding context scope switches scope_behind
alike-step s {p} {q} a =
    record {
      context = λ i. record { scope = (ap (λ (z : Scope). scope_behind z s) (same-scope a)) i; first = false; attributed = is an_attribute s };
      switches = rw a.switches;
    }

widths-alike : {p q : Past} → Alike p q → (t : Step) → step_widths p t ≡ step_widths q t
unfolding step_widths
widths-alike a assign = refl
widths-alike a update = refl
widths-alike a switch = refl
widths-alike a case = rw a.switches
widths-alike a low = refl
widths-alike a high = refl
widths-alike a posedge = refl
widths-alike a negedge = refl
widths-alike a edge = refl
widths-alike a global = refl
widths-alike a init = refl
widths-alike a always = refl

follows-alike : (s : Statement) {p q : Past} → Alike p q → follows p s ≡ follows q s
unfolding follows stands fit_widths
follows-alike s {p} {q} a = rw (a.context, flat_map-same (step_widths p) (step_widths q) (widths-alike a) (contents s).steps)

passing-alike : (l : List Statement) {p q : Past} → Alike p q → passing follows p l ≡ passing follows q l
unfolding passing
passing-alike [] a = refl
passing-alike (s ∷ l) a = rw (follows-alike s a, passing-alike l (alike-step s a))

-- THE LINES OF A PROCESS follow one another behind any statements of a module, if they do so behind the line of some module
process-anywhere : (n : Name) (f a : Bool) → stands_in in_module f a (proc-stmt n) ≡ stands_in in_module false false (proc-stmt n)
unfolding stands_in kinds among any all statements_open
process-anywhere n f true = refl
process-anywhere n f false = refl

process-alike : (n m : Name) (p : Past) → switches p ≡ [] → Alike (proc-stmt n ∷ p) (proc-stmt n ∷ module-stmt m ∷ [])
unfolding context scope switches steps any statements_open
process-alike n m p e = record { context = refl; switches = e }

process-stands : (n m : Name) (p : Past) → scope p ≡ in_module → follows p (proc-stmt n) ≡ follows (module-stmt m ∷ []) (proc-stmt n)
unfolding follows stands fit_widths equal flat_map context scope all statements_open
process-stands n m p z = rw (context-scope p, z, process-anywhere n (context p).first (context p).attributed)

pub process-follows :
    (ls : List Line) (n m : Name) (p : Past) → scope p ≡ in_module → switches p ≡ [] → passing follows p (process_lines ls n) ≡ passing follows (module-stmt m ∷ []) (process_lines ls n)
unfolding passing process_lines
process-follows ls n m p z e =
    ap₂ (λ (a b : Bool). a && b) (process-stands n m p z) (passing-alike (flat_map line_statements ls ++ end-stmt ∷ []) (process-alike n m p e))

-- and behind them the module goes on
scope-carried : (l : List Statement) (p q : Past) → scope p ≡ scope q → scope (reverse_aux l p) ≡ scope (reverse_aux l q)
scope-carried [] p q e = e
scope-carried (s ∷ l) p q e = scope-carried l (s ∷ p) (s ∷ q) (scope-behind s p ∙ ap (λ (z : Scope). scope_behind z s) e ∙ sym (scope-behind s q))

module-follows : (n : Name) → follows [] (module-stmt n) ≡ true
unfolding follows stands stands_in kinds fit_widths equal flat_map context among any all statements_open
module-follows n = refl

pub process-leaves : (o : Object (List Line)) → FineProcess o → (p : Past) → scope p ≡ in_module → scope (reverse_aux (process_lines o.body o.name) p) ≡ in_module
unfolding process_lines scope depth inside statements_open
process-leaves o f p z =
    let n = o.name in
    let q : Past = module-stmt n ∷ [] in
    let body = flat_map line_statements o.body in
    let lines : Through follows (reverse_aux (proc-stmt n ∷ body ++ end-stmt ∷ []) q) = passing-through follows (process_lines o.body n) q f.lines (module-follows n, tt) in
    let whole : Through follows (end-stmt ∷ reverse_aux body (proc-stmt n ∷ q)) = rw (reverse_aux-append body) at lines in
    let shut = lines-shut o.body 0 (proc-stmt n ∷ q) refl refl f.balanced whole.1 in
    scope-carried (process_lines o.body n) p q z
    ∙ ap scope (reverse_aux-append body (end-stmt ∷ []) (proc-stmt n ∷ q))
    ∙ process-ends (scope (reverse_aux body (proc-stmt n ∷ q))) shut.inside shut.depth

-- Statements that follow one another are those of a file whose processes close their switches, up to what is still open.
-- Assumes nothing.
use Rattle.std.specs.Prelude.{ℕ, zero, suc, ◌+◌, ◌-◌, ◌≡◌, Bool, false, cond, ◌||◌, eqb, ℤ}
use Rattle.std.proofs.Common.{arith, sym, ap, ◌∙◌, eqb-true, eq-eqb}
use Rattle.std.proofs.Math.Path.{refl}
use mathlib.Core.List.{List, [], ◌∷◌, ◌++◌, map, flat_map, reverse, reverse-cons, append_assoc, append-nil, map-append}
use Rattle.std.proofs.Math.Option.{none, some}
use Rattle.std.proofs.Math.Bool.{true}
use Rattle.std.proofs.lemmas.Bool.{false≢true, not-true}
use Rattle.rules.specs.Bytes.{any, all}
use Rattle.rules.specs.Tokens.{Name}
use Rattle.rules.specs.Statements.{Statement, an_autoidx, is, code, contents, Constant, Signal, Step, autoidx-stmt, attr-stmt, module-stmt, param-stmt, wire-stmt, memory-stmt, cell-stmt, cell-param-stmt, cell-conn-stmt, conn-stmt, proc-stmt, step-stmt, end-stmt, statements_open}
use Rattle.rules.specs.Shapes.{Scope, top, in_module, in_cell, in_process, in_tail, in_sync, in_switch, in_case}
use Rattle.rules.specs.Judgement.{Past, outer, behind_step, scope, context, among}
use Rattle.rules.specs.Reading.{is_top}
use Rattle.rules.specs.Design.{Setting, object, Line, step_line, end_line, line_statements, process_lines}
use Rattle.admitted.specs.Admitted.{kinds, steps_in, stands_in, closes}
use Rattle.lists.specs.Tests.{by-test, and-true-left, and-true-right, or_true_right, never}
use Rattle.context.specs.Forms.{by_form}
use Rattle.lists.specs.Lists.{flat_map-append, flat_map-snoc}
use Rattle.lists.specs.Elements.{each_append}
use Rattle.admitted.specs.CountLaws.{among-test, stands-kind, stands-step, context-scope}
use Rattle.canonical.specs.Nesting.{CellEntry, parameter-entry, port-entry, Entry, param-entry, wire-entry, memory-entry, cell-entry, process-entry, connection-entry, File, settings, line_in, lines_of, lines_of_file, processes_of, body_of, is_switch, balanced_to, Balanced, BalancedFile, nesting_open}
use Rattle.canonical.specs.Fine.{follows}
use Rattle.canonical.specs.Tally.{Through}
use Rattle.canonical.specs.Following.{follows-all, depth, inside, outer-depth, outer-inside, process-ends, step-deeper}
use Rattle.canonical.specs.Places.{fits, object-fits}

-- What is read: whole modules; and if a module, a cell or a process is open, its attributes, its name and its entries or lines so far. Last
-- the attributes that wait for an object or a step, and in a process the scope
pub data Open : Type 0 where
  at_top : File → List Setting → Open
  in-module : File → List Setting → Name → List Entry → List Setting → Open
  in-cell : File → List Setting → Name → List Entry → List Setting → (type name : Name) → List CellEntry → Open
  in-process : File → List Setting → Name → List Entry → List Setting → Name → List Line → List Setting → Scope → Open

unfoldable lines_of_open : Open → List Statement
lines_of_open (at_top x at) = lines_of_file x ++ settings at
lines_of_open (in-module x at n es bt) = lines_of_file x ++ (settings at ++ (module-stmt n ∷ flat_map lines_of es ++ settings bt))
lines_of_open (in-cell x at n es bt t m cs) = lines_of_file x ++ (settings at ++ (module-stmt n ∷ flat_map lines_of es ++ (settings bt ++ cell-stmt t m ∷ map line_in cs)))
lines_of_open (in-process x at n es bt m ls ct z) =
    lines_of_file x ++ (settings at ++ (module-stmt n ∷ flat_map lines_of es ++ (settings bt ++ proc-stmt m ∷ (flat_map line_statements ls ++ settings ct))))

unfoldable open_scope : Open → Scope
open_scope (at_top x at) = top
open_scope (in-module x at n es bt) = in_module
open_scope (in-cell x at n es bt t m cs) = in_cell
open_scope (in-process x at n es bt m ls ct z) = z

unfoldable waiting : Open → List Setting
waiting (at_top x at) = at
waiting (in-module x at n es bt) = bt
waiting (in-cell x at n es bt t m cs) = []
waiting (in-process x at n es bt m ls ct z) = ct

-- where no attribute stands, none waits
unfoldable settled : Scope → Bool
settled top = false
settled in_module = false
settled in_cell = false
settled in_process = false
settled in_tail = true
settled in_sync = true
settled (in_switch k) = false
settled (in_case k) = false

-- whole processes close their switches, and the lines of an open one leave as many open as its scope says
record OpenProcess (ls : List Line) (ct : List Setting) (z : Scope) : Type 0 where
  inside : inside z ≡ true
  balanced : balanced_to (depth z) 0 ls ≡ true
  settled : settled z ≡ true → ct ≡ []

record BalancedEntries (x : File) (es : List Entry) : Type 0 where
  file : BalancedFile x
  entries : Balanced (flat_map processes_of es)

unfoldable BalancedOpen : Open → Type 0
BalancedOpen (at_top x at) = BalancedFile x
BalancedOpen (in-module x at n es bt) = BalancedEntries x es
BalancedOpen (in-cell x at n es bt t m cs) = BalancedEntries x es
BalancedOpen (in-process x at n es bt m ls ct z) = BalancedEntries x es × OpenProcess ls ct z

record Reads (p : Past) : Type 0 where
  read : Open
  lines : reverse p ≡ lines_of_open read
  scope : scope p ≡ open_scope read
  free : (context p).attributed ≡ false → waiting read ≡ []
  balanced : BalancedOpen read

-- one statement more
more-lines : (p : Past) (s : Statement) (l : List Statement) → reverse p ≡ l → reverse (s ∷ p) ≡ l ++ s ∷ []
more-lines p s l e = reverse-cons s p ∙ ap (λ (k : List Statement). k ++ s ∷ []) e

-- where most may stand: what stands elsewhere in a scope may stand there
widest : (z : Scope) (s : Statement) (f a : Bool) → inside z ≡ false → fits z f a s ≡ true → fits z true false s ≡ true
unfolding stands_in kinds steps_in among any inside
widest top s true a i e = e
widest top s false a i e = rw (or_true_right (is an_autoidx s) _ (stands-kind top false a s e), stands-step top false a s e)
widest in_module s f true i e = object-fits s e true false
widest in_module s f false i e = e
widest in_cell s f a i e = e
widest in_process s f a i e = never true refl i
widest in_tail s f a i e = never true refl i
widest in_sync s f a i e = never true refl i
widest (in_switch k) s f a i e = never true refl i
widest (in_case k) s f a i e = never true refl i

-- where an attribute waits, no parameter, connection or end stands
free-kinds : (s : Statement) (f a : Bool) → fits in_module true true s ≡ false → fits in_module f a s ≡ true → a ≡ false
unfolding stands_in kinds
free-kinds s f true h e = never _ e h
free-kinds s f false h e = refl

stands_at : (z : Scope) (p : Past) (s : Statement) → scope p ≡ z → follows p s ≡ true → fits z (context p).first (context p).attributed s ≡ true
stands_at z p s q e = rw q at (follows-all p s e).standing

-- one entry more, and one module
more-balanced : (x : File) (es : List Entry) (e : Entry) → BalancedEntries x es → Balanced (processes_of e) → BalancedEntries x (es ++ e ∷ [])
more-balanced x es e b c = record { file = b.file; entries = rw (flat_map-snoc processes_of es e) (each_append _ (flat_map processes_of es) (processes_of e) b.entries c) }

module-balanced :
    (x : File) (at : List Setting) (n : Name) (es : List Entry) → BalancedEntries x es → BalancedFile (record { autoidx = x.autoidx; modules = x.modules ++ object at n es ∷ [] })
unfolding body_of
module-balanced x at n es b = each_append _ x.modules (object at n es ∷ []) b.file (b.entries, tt)

module _ (p : Past) (x : File) (at : List Setting) (lines : reverse p ≡ lines_of_open (at_top x at)) (z : scope p ≡ top) (b : BalancedFile x) where
  top-attribute : (n : Name) (c : Constant) → Reads (attr-stmt n c ∷ p)
  unfolding lines_of_open open_scope waiting BalancedOpen scope context statements_open
  top-attribute n c =
      record {
        read = at_top x (at ++ (n, c) ∷ []);
        lines = more-lines p (attr-stmt n c) _ lines ∙ simp (append_assoc, map-append);
        scope = z;
        free = λ e. absurd (false≢true (sym e));
        balanced = b;
      }

  top-module : (n : Name) → Reads (module-stmt n ∷ p)
  unfolding lines_of_open open_scope waiting BalancedOpen scope context flat_map statements_open
  top-module n =
      record {
        read = in-module x at n [] [];
        lines = more-lines p (module-stmt n) _ lines ∙ simp append_assoc;
        scope = refl;
        free = λ e. refl;
        balanced = record { file = b; entries = tt };
      }

-- in an open module
module _ (p : Past) (x : File) (at : List Setting) (n : Name) (es : List Entry) (bt : List Setting) (lines : reverse p ≡ lines_of_open (in-module x at n es bt)) (z : scope p ≡ in_module) (b : BalancedEntries x es) where
  module-attribute : (m : Name) (c : Constant) → Reads (attr-stmt m c ∷ p)
  unfolding lines_of_open open_scope waiting BalancedOpen scope context statements_open
  module-attribute m c =
      record {
        read = in-module x at n es (bt ++ (m, c) ∷ []);
        lines = more-lines p (attr-stmt m c) _ lines ∙ simp (append_assoc, map-append);
        scope = z;
        free = λ e. absurd (false≢true (sym e));
        balanced = b;
      }

  -- an entry that is whole
  module-entry : (s : Statement) (e : Entry) → lines_of e ≡ settings bt ++ s ∷ [] → Balanced (processes_of e) → scope (s ∷ p) ≡ in_module → Reads (s ∷ p)
  unfolding lines_of_open open_scope waiting BalancedOpen flat_map
  module-entry s e q c k =
      record {
        read = in-module x at n (es ++ e ∷ []) [];
        lines = more-lines p s _ lines ∙ simp (append_assoc, flat_map-append, append-nil, q);
        scope = k;
        free = λ e. refl;
        balanced = more-balanced x es e b c;
      }

  module-cell : (t m : Name) → Reads (cell-stmt t m ∷ p)
  unfolding lines_of_open open_scope waiting BalancedOpen scope statements_open
  module-cell t m =
      record {
        read = in-cell x at n es bt t m [];
        lines = more-lines p (cell-stmt t m) _ lines ∙ simp append_assoc;
        scope = refl;
        free = λ e. refl;
        balanced = b;
      }

  module-process : (m : Name) → Reads (proc-stmt m ∷ p)
  unfolding lines_of_open open_scope waiting BalancedOpen balanced_to depth inside scope flat_map statements_open
  module-process m =
      record {
        read = in-process x at n es bt m [] [] in_process;
        lines = more-lines p (proc-stmt m) _ lines ∙ simp append_assoc;
        scope = refl;
        free = λ e. refl;
        balanced = (b, record { inside = refl; balanced = refl; settled = λ e. refl });
      }

  module-end : bt ≡ [] → Reads (end-stmt ∷ p)
  unfolding lines_of_open open_scope waiting BalancedOpen scope outer nesting_open statements_open
  module-end q =
      let l : reverse p ≡ lines_of_open (in-module x at n es []) = rw q at lines in
      record {
        read = at_top (record { autoidx = x.autoidx; modules = x.modules ++ object at n es ∷ [] }) [];
        lines = more-lines p end-stmt _ l ∙ simp (append_assoc, flat_map-append, append-nil) refl;
        scope = rw z;
        free = λ e. refl;
        balanced = module-balanced x at n es b;
      }

-- in an open cell
module _ (p : Past) (x : File) (at : List Setting) (n : Name) (es : List Entry) (bt : List Setting) (t m : Name) (cs : List CellEntry) (lines : reverse p ≡ lines_of_open (in-cell x at n es bt t m cs)) (z : scope p ≡ in_cell) (b : BalancedEntries x es) where
  cell-line : (c : CellEntry) → scope (line_in c ∷ p) ≡ in_cell → Reads (line_in c ∷ p)
  unfolding lines_of_open open_scope waiting BalancedOpen
  cell-line c k =
      record {
        read = in-cell x at n es bt t m (cs ++ c ∷ []);
        lines = more-lines p (line_in c) _ lines ∙ simp (append_assoc, map-append);
        scope = k;
        free = λ e. refl;
        balanced = b;
      }

  cell-end : Reads (end-stmt ∷ p)
  unfolding lines_of_open open_scope waiting BalancedOpen processes_of scope outer lines_of flat_map statements_open
  cell-end =
      record {
        read = in-module x at n (es ++ cell-entry bt t m cs ∷ []) [];
        lines = more-lines p end-stmt _ lines ∙ simp (append_assoc, flat_map-append, append-nil);
        scope = rw z;
        free = λ e. refl;
        balanced = more-balanced x es (cell-entry bt t m cs) b tt;
      }

-- in an open process
balanced-append : (e d k : ℕ) (ls ms : List Line) → balanced_to d k ls ≡ true → balanced_to e d ms ≡ true → balanced_to e k (ls ++ ms) ≡ true
unfolding balanced_to
balanced-append e d k [] ms h b = rw (eqb-true k d h) b
balanced-append e d k (step_line at q xs ∷ ls) ms h b = balanced-append e d (cond (is_switch q) (k + 1) k) ls ms h b
balanced-append e d zero (end_line ∷ ls) ms h b = absurd (false≢true h)
balanced-append e d (suc k) (end_line ∷ ls) ms h b = balanced-append e d k ls ms h b

balanced-step : (d : ℕ) (ls : List Line) (at : List Setting) (q : Step) (xs : List Signal) (e : ℕ) → balanced_to d 0 ls ≡ true → e ≡ cond (is_switch q) (d + 1) d → balanced_to e 0 (ls ++ step_line at q xs ∷ []) ≡ true
unfolding balanced_to
balanced-step d ls at q xs e h k = balanced-append e d 0 ls (step_line at q xs ∷ []) h (eq-eqb (cond (is_switch q) (d + 1) d) e (sym k))

balanced-end : (d : ℕ) (ls : List Line) → balanced_to (suc d) 0 ls ≡ true → balanced_to d 0 (ls ++ end_line ∷ []) ≡ true
unfolding balanced_to
balanced-end d ls h = balanced-append d (suc d) 0 ls (end_line ∷ []) h (eq-eqb d d refl)

-- an attribute stands where one may wait; and where one waits, no end stands
attribute-settled : (z : Scope) (f a : Bool) (n : Name) (c : Constant) → fits z f a (attr-stmt n c) ≡ true → settled z ≡ false
unfolding settled stands_in kinds among any statements_open
attribute-settled top f a n c e = refl
attribute-settled in_module f a n c e = refl
attribute-settled in_cell f a n c e = refl
attribute-settled in_process f a n c e = refl
attribute-settled in_tail f a n c e = absurd (false≢true e)
attribute-settled in_sync f a n c e = absurd (false≢true e)
attribute-settled (in_switch k) f a n c e = refl
attribute-settled (in_case k) f a n c e = refl

end-free : (z : Scope) (f a : Bool) → inside z ≡ true → settled z ≡ false → fits z f a end-stmt ≡ true → a ≡ false
unfolding inside settled stands_in kinds among any statements_open
end-free z f false i s e = refl
end-free top f true i s e = absurd (false≢true i)
end-free in_module f true i s e = absurd (false≢true i)
end-free in_cell f true i s e = absurd (false≢true i)
end-free in_process f true i s e = absurd (false≢true e)
end-free in_tail f true i s e = absurd (false≢true (sym s))
end-free in_sync f true i s e = absurd (false≢true (sym s))
end-free (in_switch k) f true i s e = absurd (false≢true e)
end-free (in_case k) f true i s e = absurd (false≢true e)

module _ (p : Past) (x : File) (at : List Setting) (n : Name) (es : List Entry) (bt : List Setting) (m : Name) (ls : List Line) (ct : List Setting) (z : Scope) (lines : reverse p ≡ lines_of_open (in-process x at n es bt m ls ct z)) (q : scope p ≡ z) (b : BalancedEntries x es) (o : OpenProcess ls ct z) where
  process-attribute : (k : Name) (c : Constant) → follows p (attr-stmt k c) ≡ true → Reads (attr-stmt k c ∷ p)
  unfolding lines_of_open open_scope waiting BalancedOpen scope context statements_open
  process-attribute k c e =
      let s = attribute-settled z (context p).first (context p).attributed k c (stands_at z p (attr-stmt k c) q e) in
      record {
        read = in-process x at n es bt m ls (ct ++ (k, c) ∷ []) z;
        lines = more-lines p (attr-stmt k c) _ lines ∙ simp (append_assoc, map-append);
        scope = q;
        free = λ e. absurd (false≢true (sym e));
        balanced = (b, record { inside = o.inside; balanced = o.balanced; settled = λ h. never (settled z) h s });
      }

  process-step : (t : Step) (xs : List Signal) → follows p (step-stmt t xs) ≡ true → Reads (step-stmt t xs ∷ p)
  unfolding lines_of_open open_scope waiting BalancedOpen scope line_statements flat_map statements_open
  process-step t xs e =
      let d = step-deeper z (context p).first (context p).attributed t xs (stands_at z p (step-stmt t xs) q e) in
      record {
        read = in-process x at n es bt m (ls ++ step_line ct t xs ∷ []) [] (behind_step z t);
        lines = more-lines p (step-stmt t xs) _ lines ∙ simp (append_assoc, flat_map-append, append-nil);
        scope = rw q;
        free = λ e. refl;
        balanced = (b, record { inside = d.behind; balanced = balanced-step (depth z) ls ct t xs (depth (behind_step z t)) o.balanced d.depth; settled = λ h. refl });
      }

  -- the end of a switch, or of the process
  settled_lines : ct ≡ [] → reverse p ≡ lines_of_file x ++ (settings at ++ (module-stmt n ∷ flat_map lines_of es ++ (settings bt ++ proc-stmt m ∷ flat_map line_statements ls)))
  unfolding lines_of_open
  settled_lines w = rw (w, append-nil) at lines

  switch-end : (k : ℕ) → depth z ≡ suc k → ct ≡ [] → Reads (end-stmt ∷ p)
  unfolding lines_of_open open_scope waiting BalancedOpen scope line_statements flat_map statements_open
  switch-end k d w =
      let l = settled_lines w in
      let c : balanced_to (suc k) 0 ls ≡ true = rw d at o.balanced in
      let j : depth (outer z) ≡ k = omega (arith, outer-depth z) in
      record {
        read = in-process x at n es bt m (ls ++ end_line ∷ []) [] (outer z);
        lines = more-lines p end-stmt _ l ∙ simp (append_assoc, flat_map-append, append-nil);
        scope = rw q;
        free = λ e. refl;
        balanced = (b, record { inside = outer-inside z k d; balanced = rw j (balanced-end k ls c); settled = λ h. refl });
      }

  process-end : depth z ≡ 0 → ct ≡ [] → Reads (end-stmt ∷ p)
  unfolding lines_of_open open_scope waiting BalancedOpen scope lines_of process_lines processes_of flat_map statements_open
  process-end d w =
      let l = settled_lines w in
      let c : balanced_to 0 0 ls ≡ true = rw d at o.balanced in
      record {
        read = in-module x at n (es ++ process-entry (object bt m ls) ∷ []) [];
        lines = more-lines p end-stmt _ l ∙ simp (append_assoc, flat_map-append, append-nil);
        scope = rw q (process-ends z o.inside d);
        free = λ e. refl;
        balanced = more-balanced x es (process-entry (object bt m ls)) b (c, tt);
      }

  end-in-process : (k : ℕ) → depth z ≡ k → ct ≡ [] → Reads (end-stmt ∷ p)
  end-in-process zero d w = process-end d w
  end-in-process (suc k) d w = switch-end k d w

-- the first statement of a file
first-autoidx : (i : ℤ) → Reads (autoidx-stmt i ∷ [])
unfolding lines_of_open open_scope waiting BalancedOpen scope nesting_open statements_open
first-autoidx i = record { read = at_top (record { autoidx = some i; modules = [] }) []; lines = refl; scope = refl; free = λ e. refl; balanced = tt }

autoidx-first : (i : ℤ) (p : Past) → scope p ≡ top → follows p (autoidx-stmt i) ≡ true → Reads (autoidx-stmt i ∷ p)
unfolding context stands_in kinds among any statements_open
autoidx-first i [] z e = first-autoidx i
autoidx-first i (s ∷ p) z e = absurd (false≢true (stands_at top (s ∷ p) (autoidx-stmt i) z e))

-- a statement of no kind that may stand there
misplaced : (z : Scope) (p : Past) → inside z ≡ false → scope p ≡ z → (s : Statement) → fits z true false s ≡ false → follows p s ≡ true → Reads (s ∷ p)
misplaced z p i q s h e = never (fits z true false s) (widest z s _ _ i (stands_at z p s q e)) h

-- in a process only attributes, steps and ends stand
unfoldable line_kind : ℕ → Bool
line_kind n = eqb n 2 || eqb n 12 || eqb n 13

line-kinds : (z : Scope) (f a : Bool) → inside z ≡ true → all (λ k. line_kind (code k)) (kinds z f a) ≡ true
unfolding inside line_kind kinds all code
line-kinds top f a i = absurd (false≢true i)
line-kinds in_module f a i = absurd (false≢true i)
line-kinds in_cell f a i = absurd (false≢true i)
line-kinds in_process f true i = refl
line-kinds in_process f false i = refl
line-kinds in_tail f a i = refl
line-kinds in_sync f a i = refl
line-kinds (in_switch k) f true i = refl
line-kinds (in_switch k) f false i = refl
line-kinds (in_case k) f true i = refl
line-kinds (in_case k) f false i = refl

not-inside : (z : Scope) (p : Past) → inside z ≡ true → scope p ≡ z → (s : Statement) → line_kind (code (contents s).kind) ≡ false → follows p s ≡ true → Reads (s ∷ p)
not-inside z p i q s h e =
    let k = stands-kind z (context p).first (context p).attributed s (stands_at z p s q e) in
    never (line_kind (code (contents s).kind)) (among-test line_kind (kinds z (context p).first (context p).attributed) s (line-kinds z (context p).first (context p).attributed i) k) h

step-top :
    (p : Past) (x : File) (at : List Setting) → reverse p ≡ lines_of_open (at_top x at) → scope p ≡ top → BalancedFile x → (s : Statement) → follows p s ≡ true → Reads (s ∷ p)
unfolding stands_in kinds among any inside statements_open
step-top p x at l z b =
    let no = misplaced top p refl z in
    by_form _ (λ i e. autoidx-first i p z e) (λ n c e. top-attribute p x at l z b n c) (λ n e. top-module p x at l z b n) (λ n c. no (param-stmt n c) refl) (λ w n. no (wire-stmt w n) refl)
    (λ m n. no (memory-stmt m n) refl) (λ t n. no (cell-stmt t n) refl) (λ o n c. no (cell-param-stmt o n c) refl) (λ n y. no (cell-conn-stmt n y) refl) (λ y w. no (conn-stmt y w) refl)
    (λ n. no (proc-stmt n) refl) (λ q xs. no (step-stmt q xs) refl) (no end-stmt refl)

step-module :
    (p : Past) (x : File) (at : List Setting) (n : Name) (es : List Entry) (bt : List Setting) → reverse p ≡ lines_of_open (in-module x at n es bt) → scope p ≡ in_module →
    ((context p).attributed ≡ false → bt ≡ []) → BalancedEntries x es → (s : Statement) → follows p s ≡ true → Reads (s ∷ p)
unfolding stands_in kinds among any lines_of processes_of inside scope statements_open
step-module p x at n es bt l z f b =
    let no = misplaced in_module p refl z in
    let entry = module-entry p x at n es bt l z b in
    let free : (s : Statement) → fits in_module true true s ≡ false → follows p s ≡ true → bt ≡ [] = λ s h e. f (free-kinds s (context p).first (context p).attributed h (stands_at in_module p s z e)) in
    by_form _ (λ i. no (autoidx-stmt i) refl) (λ m c e. module-attribute p x at n es bt l z b m c) (λ m. no (module-stmt m) refl)
    (λ m c e. entry (param-stmt m c) (param-entry m c) (rw (free (param-stmt m c) refl e)) tt z)
    (λ w m e. entry (wire-stmt w m) (wire-entry (object bt m w)) refl tt z)
    (λ y m e. entry (memory-stmt y m) (memory-entry (object bt m y)) refl tt z)
    (λ t m e. module-cell p x at n es bt l z b t m) (λ o m c. no (cell-param-stmt o m c) refl) (λ m y. no (cell-conn-stmt m y) refl)
    (λ y w e. entry (conn-stmt y w) (connection-entry y w) (rw (free (conn-stmt y w) refl e)) tt z)
    (λ m e. module-process p x at n es bt l z b m) (λ q xs. no (step-stmt q xs) refl) (λ e. module-end p x at n es bt l z b (free end-stmt refl e))

step-cell :
    (p : Past) (x : File) (at : List Setting) (n : Name) (es : List Entry) (bt : List Setting) (t m : Name) (cs : List CellEntry) →
    reverse p ≡ lines_of_open (in-cell x at n es bt t m cs) → scope p ≡ in_cell → BalancedEntries x es → (s : Statement) → follows p s ≡ true → Reads (s ∷ p)
unfolding stands_in kinds among any line_in inside scope statements_open
step-cell p x at n es bt t m cs l z b =
    let no = misplaced in_cell p refl z in
    let line = cell-line p x at n es bt t m cs l z b in
    by_form _ (λ i. no (autoidx-stmt i) refl) (λ k c. no (attr-stmt k c) refl) (λ k. no (module-stmt k) refl) (λ k c. no (param-stmt k c) refl) (λ w k. no (wire-stmt w k) refl)
    (λ y k. no (memory-stmt y k) refl) (λ y k. no (cell-stmt y k) refl) (λ o k c e. line (parameter-entry o (k, c)) z) (λ k y e. line (port-entry k y) z) (λ y w. no (conn-stmt y w) refl)
    (λ k. no (proc-stmt k) refl) (λ q xs. no (step-stmt q xs) refl) (λ e. cell-end p x at n es bt t m cs l z b)

step-process :
    (p : Past) (x : File) (at : List Setting) (n : Name) (es : List Entry) (bt : List Setting) (m : Name) (ls : List Line) (ct : List Setting) (z : Scope) →
    reverse p ≡ lines_of_open (in-process x at n es bt m ls ct z) → scope p ≡ z → ((context p).attributed ≡ false → ct ≡ []) → BalancedEntries x es → OpenProcess ls ct z →
    (s : Statement) → follows p s ≡ true → Reads (s ∷ p)
unfolding line_kind statements_open
step-process p x at n es bt m ls ct z l q f b o =
    let no = not-inside z p o.inside q in
    let free : follows p end-stmt ≡ true → ct ≡ [] =
    λ e. by-test (settled z) o.settled (λ t. f (end-free z (context p).first (context p).attributed o.inside t (stands_at z p end-stmt q e))) in
    by_form _ (λ i. no (autoidx-stmt i) refl) (λ k c e. process-attribute p x at n es bt m ls ct z l q b o k c e) (λ k. no (module-stmt k) refl) (λ k c. no (param-stmt k c) refl)
    (λ w k. no (wire-stmt w k) refl) (λ y k. no (memory-stmt y k) refl) (λ y k. no (cell-stmt y k) refl) (λ t k c. no (cell-param-stmt t k c) refl) (λ k y. no (cell-conn-stmt k y) refl)
    (λ y w. no (conn-stmt y w) refl) (λ k. no (proc-stmt k) refl) (λ t xs e. process-step p x at n es bt m ls ct z l q b o t xs e)
    (λ e. end-in-process p x at n es bt m ls ct z l q b o (depth z) refl (free e))

step :
    (p : Past) (o : Open) → reverse p ≡ lines_of_open o → scope p ≡ open_scope o → ((context p).attributed ≡ false → waiting o ≡ []) → BalancedOpen o → (s : Statement) →
    follows p s ≡ true → Reads (s ∷ p)
unfolding open_scope waiting BalancedOpen
step p (at_top x at) l z f b = step-top p x at l z b
step p (in-module x at n es bt) l z f b = step-module p x at n es bt l z f b
step p (in-cell x at n es bt t m cs) l z f b = step-cell p x at n es bt t m cs l z b
step p (in-process x at n es bt m ls ct y) l z f b = step-process p x at n es bt m ls ct y l z f b.0 b.1

reads : (p : Past) → Through follows p → Reads p
unfolding lines_of_open open_scope waiting BalancedOpen scope nesting_open
reads [] h = record { read = at_top (record { autoidx = none; modules = [] }) []; lines = refl; scope = refl; free = λ e. refl; balanced = tt }
reads (s ∷ p) h = let r = reads p h.1 in step p r.read r.lines r.scope r.free r.balanced s h.0

-- A file may end at the top, where no attribute waits
pub record Parsed (ss : List Statement) : Type 0 where
  pub file : File
  pub lines : ss ≡ lines_of_file file
  pub balanced : BalancedFile file

top-inside : (z : Scope) → inside z ≡ true → is_top z ≡ true → ⊥
unfolding inside is_top
top-inside top i e = false≢true i
top-inside in_module i e = false≢true e
top-inside in_cell i e = false≢true e
top-inside in_process i e = false≢true e
top-inside in_tail i e = false≢true e
top-inside in_sync i e = false≢true e
top-inside (in_switch k) i e = false≢true e
top-inside (in_case k) i e = false≢true e

closed : (p : Past) (o : Open) → reverse p ≡ lines_of_open o → waiting o ≡ [] → BalancedOpen o → is_top (open_scope o) ≡ true → Parsed (reverse p)
unfolding lines_of_open open_scope waiting BalancedOpen is_top
closed p (at_top x at) l w b z = record { file = x; lines = l ∙ rw (w, append-nil); balanced = b }
closed p (in-module x at n es bt) l w b z = absurd (false≢true z)
closed p (in-cell x at n es bt t m cs) l w b z = absurd (false≢true z)
closed p (in-process x at n es bt m ls ct y) l w b z = absurd (top-inside y b.1.inside z)

pub parsed : (p : Past) → Through follows p → closes p ≡ true → Parsed (reverse p)
unfolding closes
parsed p h e =
    let r = reads p h in
    let z : is_top (open_scope r.read) ≡ true = rw (context-scope p, r.scope) at (and-true-left (is_top (context p).scope) _ e) in
    closed p r.read r.lines (r.free (not-true _ (and-true-right (is_top (context p).scope) _ e))) r.balanced z

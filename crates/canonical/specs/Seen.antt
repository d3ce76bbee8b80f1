-- The wires that a line sees, and the signals whose bits lie in them.
-- Assumes nothing.
use Prim.Native.Nat.{ℕ, ◌+◌}
use Rattle.std.specs.Prelude.{◌≡◌, Bool, true, not, ◌&&◌, leb, ltb, length}
use Rattle.std.proofs.Math.Path.{refl, sym, ap}
use Rattle.std.proofs.Common.{◌∙◌, arith}
use mathlib.Core.List.{List, [], ◌∷◌, ◌++◌, map, flat_map, reverse, reverse_aux, reverse_aux-append, reverse-append, map-append, append_assoc}
use Rattle.std.proofs.Math.Option.{Option}
use Rattle.std.proofs.lemmas.Bool.{not-true}
use Rattle.rules.specs.Limits.{most_width}
use Rattle.rules.specs.Bytes.{any, all}
use Rattle.rules.specs.Tokens.{Name}
use Rattle.rules.specs.Statements.{Constant, Signal, Bit, digit, bit, Wire, Statement, module-stmt, param-stmt, wire-stmt, memory-stmt, cell-param-stmt, cell-conn-stmt, conn-stmt, step-stmt, end-stmt, a_module, a_wire, is, contents, statements_open}
use Rattle.rules.specs.Signals.{Wires}
use Rattle.rules.specs.Judgement.{Past, sum, wires}
use Rattle.rules.specs.Design.{Setting, Object, Cell, Line, step_line, end_line, Module, line_statements, process_lines}
use Rattle.admitted.specs.Admitted.{fine_bit, fine_signal}
use Rattle.lists.specs.Tests.{and-true-left, and-true-right}
use Rattle.lists.specs.Lists.{flat_map-append, element-stays, flat_map-map}
use Rattle.lists.specs.Elements.{all_append, all-implied, all_both, all_right, all-flat_map}
use Rattle.canonical.specs.Nesting.{CellEntry, Entry, param-entry, wire-entry, memory-entry, cell-entry, process-entry, connection-entry, settings, line_in, lines_of, wires_of, body_of, lines_of_module, cell_entries, entries, as_file}
use Rattle.canonical.specs.DesignLaws.{settings-pass, cell-pass, lines-pass, cell_entry, body-entries}
use Rattle.canonical.specs.Fine.{wires_in, line_signals, signals_in}
use Rattle.canonical.specs.Tally.{Through, behind-all, through_before}
use Rattle.canonical.specs.Apart.{sees}
use Rattle.lists.specs.Sums.{sum-append, sum-map, sum-flat_map, sum_same, sum-zero}
use Rattle.canonical.specs.Sums.{fails, all_none, none-all}
use Rattle.canonical.specs.BodySums.{cell_sum, process_sum, body_sum, body-sum, settings-zero}
use Rattle.canonical.specs.Walks.{no_module}
use Rattle.context.specs.Forms.{by-wire}
use Rattle.context.proofs.PlaceLaws.{wires-none, wires-one, wires-reset}

-- THE WIRES BEHIND SOME LINES
abbrev pub seen : Object Wire → Name × Wire
seen o = (o.name, o.body)

unfoldable pub quiet : Statement → Bool
quiet s = not (is a_module s) && not (is a_wire s)

quiet_step : (s : Statement) (p : Past) → quiet s ≡ true → wires (s ∷ p) ≡ wires p
unfolding quiet statements_open
quiet_step s p =
    by-wire (λ s. quiet s ≡ true → wires (s ∷ p) ≡ wires p) (λ w n e. cc)
    (λ s o q e. wires-none s p (not-true _ (and-true-left (not (is a_module s)) _ e)) q) s

pub wires-still : (l : List Statement) (p : Past) → all quiet l ≡ true → wires (reverse_aux l p) ≡ wires p
wires-still l p e = behind-all (λ q. wires q ≡ wires p) quiet (λ s q k h. quiet_step s q k ∙ h) l p e refl

settings-quiet : (at : List Setting) → all quiet (settings at) ≡ true
unfolding quiet statements_open
settings-quiet at = settings-pass quiet (λ n c. refl) at

cell-quiet : (es : List CellEntry) → all quiet (map line_in es ++ end-stmt ∷ []) ≡ true
unfolding quiet statements_open
cell-quiet es = cell-pass (λ s. s) quiet (λ o n c. refl) (λ n x. refl) refl es

lines-quiet : (ls : List Line) → all quiet (flat_map line_statements ls ++ end-stmt ∷ []) ≡ true
unfolding quiet statements_open
lines-quiet ls = lines-pass quiet (λ n c. refl) (λ p xs. refl) refl ls

process-quiet : (o : Object (List Line)) → all quiet (settings o.attributes ++ process_lines o.body o.name) ≡ true
unfolding process_lines all quiet statements_open
process-quiet o = all_append quiet (settings o.attributes) _ (settings-quiet o.attributes) (lines-quiet o.body)

entry-wires : (e : Entry) (p : Past) → wires (reverse_aux (lines_of e) p) ≡ reverse_aux (map seen (wires_of e)) (wires p)
unfolding lines_of wires_of all quiet statements_open
entry-wires (param-entry n c) p = wires-still (param-stmt n c ∷ []) p refl
entry-wires (wire-entry o) p =
    rw (reverse_aux-append (settings o.attributes))
    (wires-one o.body o.name (reverse_aux (settings o.attributes) p) ∙ ap (λ (l : Wires). (o.name, o.body) ∷ l) (wires-still (settings o.attributes) p (settings-quiet o.attributes)))
entry-wires (memory-entry o) p =
    wires-still (lines_of (memory-entry o)) p (all_append quiet (settings o.attributes) _ (settings-quiet o.attributes) refl)
entry-wires (cell-entry at t n es) p = wires-still (lines_of (cell-entry at t n es)) p (all_append quiet (settings at) _ (settings-quiet at) (cell-quiet es))
entry-wires (process-entry o) p = wires-still (lines_of (process-entry o)) p (process-quiet o)
entry-wires (connection-entry x y) p = wires-still (conn-stmt x y ∷ []) p refl

pub entries-wires : (es : List Entry) (p : Past) → wires (reverse_aux (flat_map lines_of es) p) ≡ reverse_aux (map seen (flat_map wires_of es)) (wires p)
unfolding flat_map
entries-wires [] p = refl
entries-wires (e ∷ es) p =
    ap wires (reverse_aux-append (lines_of e) (flat_map lines_of es) p)
    ∙ entries-wires es (reverse_aux (lines_of e) p)
    ∙ ap (reverse_aux (map seen (flat_map wires_of es))) (entry-wires e p)
    ∙ sym (reverse_aux-append (map seen (wires_of e)) (map seen (flat_map wires_of es)) (wires p))
    ∙ ap (λ (l : Wires). reverse_aux l (wires p)) (sym (map-append seen (wires_of e) (flat_map wires_of es)))

-- those of a whole module
pub body-wires : (n : Name) (es : List Entry) (p : Past) → wires (reverse_aux (flat_map lines_of es) (module-stmt n ∷ p)) ≡ wires_in (body_of es)
unfolding wires_in body_of statements_open
body-wires n es p = entries-wires es (module-stmt n ∷ p) ∙ ap (reverse_aux (map seen (flat_map wires_of es))) (wires-reset (module-stmt n) p refl)

-- A BIT OF A WIRE IS THAT OF THE SAME WIRE among more
bit-more : (later ws : Wires) (b : Bit) → fine_bit ws b ≡ true → fine_bit (later ++ ws) b ≡ true
unfolding fine_bit
bit-more later ws (digit d) e = refl
bit-more later ws (bit w i) e = rw (reverse-append later ws) (element-stays (λ v. ltb i v.1.width) (reverse ws) (reverse later) w e)

signal-more : (later ws : Wires) (x : Signal) → fine_signal ws x ≡ true → fine_signal (later ++ ws) x ≡ true
unfolding fine_signal
signal-more later ws x e =
    rw (and-true-left (leb (length x) most_width) _ e, all-implied (fine_bit ws) (fine_bit (later ++ ws)) (bit-more later ws) x (and-true-right (leb (length x) most_width) _ e))

-- the wires behind lines of a module are those before them and more
pub record Grown (ws vs : Wires) : Type 0 where
  pub later : Wires
  pub are : vs ≡ later ++ ws

step-grown : (ws : Wires) (s : Statement) (p : Past) → no_module s ≡ true → Grown ws (wires p) → Grown ws (wires (s ∷ p))
step-grown ws s p =
    by-wire (λ s. no_module s ≡ true → Grown ws (wires p) → Grown ws (wires (s ∷ p)))
    (λ w n e g. record { later = (n, w) ∷ g.later; are = wires-one w n p ∙ ap (λ (vs : Wires). (n, w) ∷ vs) g.are })
    (λ s o q e g. record { later = g.later; are = wires-none s p (not-true (is a_module s) e) q ∙ g.are }) s

grown : (l : List Statement) (p : Past) → all no_module l ≡ true → Grown (wires p) (wires (reverse_aux l p))
grown l p e = behind-all (λ q. Grown (wires p) (wires q)) no_module (step-grown (wires p)) l p e (record { later = []; are = refl })

-- SIGNALS IN THE WIRES ws
unfoldable pub sound : Wires → Statement → Bool
sound ws s = all (fine_signal ws) (contents s).signals

pub seen-sound :
    (ws : Wires) (l : List Statement) (p : Past) → ws ≡ wires (reverse_aux l p) → all no_module l ≡ true → Through sees (reverse_aux l p) → all (sound ws) l ≡ true
unfolding all sees sound
seen-sound ws [] p q e h = refl
seen-sound ws (s ∷ l) p q e h =
    let g = grown (s ∷ l) p e in
    let k = all-implied (fine_signal (wires p)) (fine_signal (g.later ++ wires p)) (signal-more g.later (wires p)) (contents s).signals (through_before sees l (s ∷ p) h).0 in
    let r : all (fine_signal ws) (contents s).signals ≡ true = rw (q, g.are) k in
    rw r (seen-sound ws l (s ∷ p) q (and-true-right (no_module s) _ e) h)

pub sound-sees :
    (ws : Wires) (l : List Statement) (p : Past) → wires p ≡ ws → all quiet l ≡ true → all (sound ws) l ≡ true → Through sees p → Through sees (reverse_aux l p)
unfolding sees sound
sound-sees ws l p q e k h =
    (behind-all (λ p. (wires p ≡ ws) × Through sees p) (λ s. quiet s && sound ws s)
    (λ s p b a. (quiet_step s p (and-true-left (quiet s) _ b) ∙ a.0, (rw a.0 (and-true-right (quiet s) _ b), a.1)))
    l p (all_both quiet (sound ws) _ (λ s a b. rw (a, b)) l e k) (q, h)).1

-- of a module's lines those of its signals
unfoldable signals_by : (Signal → ℕ) → Statement → ℕ
signals_by h s = sum h (contents s).signals

module _ (h : Signal → ℕ) where
  by_zero : (at : List Setting) → sum (signals_by h) (settings at) ≡ 0
  unfolding signals_by sum statements_open
  by_zero = settings-zero (signals_by h) (λ n c. refl)

  by-cell : (c : Object Cell) → cell_sum (signals_by h) c ≡ sum h (map (λ k. k.1) c.body.connections)
  unfolding cell_sum signals_by sum statements_open
  by-cell c =
      let p : sum (λ p. signals_by h (cell-param-stmt p.0 p.1.0 p.1.1)) c.body.parameters ≡ 0 = sum-zero _ (λ p. refl) c.body.parameters in
      let k : sum (λ k. signals_by h (cell-conn-stmt k.0 k.1)) c.body.connections ≡ sum (λ k. h k.1) c.body.connections = sum_same _ _ (λ k. omega arith) c.body.connections in
      omega (arith, by_zero c.attributes, sum-map h (λ (k : Name × Signal). k.1) c.body.connections)

  by-line : (l : Line) → sum (signals_by h) (line_statements l) ≡ sum h (line_signals l)
  unfolding line_statements line_signals signals_by sum statements_open
  by-line (step_line at p xs) = omega (arith, sum-append (signals_by h) (settings at) (step-stmt p xs ∷ []), by_zero at)
  by-line end_line = refl

  by-process : (o : Object (List Line)) → process_sum (signals_by h) o ≡ sum h (flat_map line_signals o.body)
  unfolding process_sum signals_by sum statements_open
  by-process o =
      let b : sum (signals_by h) (flat_map line_statements o.body) ≡ sum h (flat_map line_signals o.body) =
      sum-flat_map (signals_by h) line_statements o.body ∙ sum_same _ _ by-line o.body ∙ sym (sum-flat_map h line_signals o.body) in
      omega (arith, by_zero o.attributes)

  signal-sum : (m : Module) → body_sum (signals_by h) m ≡ sum h (signals_in m)
  unfolding body_sum signals_in signals_by sum statements_open
  signal-sum m =
      let f : Statement → ℕ = signals_by h in
      let p : sum (λ p. f (param-stmt p.0 p.1)) m.parameters ≡ 0 = sum-zero _ (λ p. refl) m.parameters in
      let w : sum (λ w. sum f (settings w.attributes) + f (wire-stmt w.body w.name)) m.wires ≡ 0 = sum-zero _ (λ w. omega (arith, by_zero w.attributes)) m.wires in
      let y : sum (λ y. sum f (settings y.attributes) + f (memory-stmt y.body y.name)) m.memories ≡ 0 = sum-zero _ (λ y. omega (arith, by_zero y.attributes)) m.memories in
      let c = sum_same (cell_sum f) (λ c. sum h (map (λ k. k.1) c.body.connections)) by-cell m.cells in
      let r = sum_same (process_sum f) (λ o. sum h (flat_map line_signals o.body)) by-process m.processes in
      let ports : List Signal = flat_map (λ (c : Object Cell). map (λ k. k.1) c.body.connections) m.cells in
      let inside : List Signal = flat_map (λ o. flat_map line_signals o.body) m.processes in
      let cs = sum-flat_map h (λ (c : Object Cell). map (λ k. k.1) c.body.connections) m.cells in
      let rs = sum-flat_map h (λ (o : Object (List Line)). flat_map line_signals o.body) m.processes in
      let ks = sum-flat_map h (λ (k : Signal × Signal). k.0 ∷ k.1 ∷ []) m.connections in
      omega (arith, sum-append h (ports ++ inside) (flat_map (λ k. k.0 ∷ k.1 ∷ []) m.connections), sum-append h ports inside)

module _ (ws : Wires) where
  sound_none : (l : List Statement) → all (sound ws) l ≡ true → sum (signals_by (fails (fine_signal ws))) l ≡ 0
  unfolding all sound sum signals_by
  sound_none [] e = refl
  sound_none (s ∷ l) e = omega (arith, all_none (fine_signal ws) (contents s).signals (and-true-left (sound ws s) _ e), sound_none l (and-true-right (sound ws s) _ e))

  none-sound : (l : List Statement) → sum (signals_by (fails (fine_signal ws))) l ≡ 0 → all (sound ws) l ≡ true
  unfolding all sound sum signals_by
  none-sound [] e = refl
  none-sound (s ∷ l) e = rw (none-all (fine_signal ws) (contents s).signals (omega arith)) (none-sound l (omega arith))

  pub body-sound : (es : List Entry) → all (sound ws) (flat_map lines_of es) ≡ true → all (fine_signal ws) (signals_in (body_of es)) ≡ true
  body-sound es e =
      none-all (fine_signal ws) (signals_in (body_of es))
      (omega (arith, sound_none (flat_map lines_of es) e, body-sum (signals_by (fails (fine_signal ws))) es, signal-sum (fails (fine_signal ws)) (body_of es)))

  pub sound-body : (es : List Entry) → all (fine_signal ws) (signals_in (body_of es)) ≡ true → all (sound ws) (flat_map lines_of es) ≡ true
  sound-body es e =
      none-sound (flat_map lines_of es)
      (omega (arith, all_none (fine_signal ws) (signals_in (body_of es)) e, body-sum (signals_by (fails (fine_signal ws))) es, signal-sum (fails (fine_signal ws)) (body_of es)))

-- IN CANONICAL ORDER all wires of a module stand before its signals
unfoldable mute : Statement → Bool
mute s = not (any (λ x. true) (contents s).signals)

by-none : (f : Signal → Bool) (xs : List Signal) → not (any (λ x. true) xs) ≡ true → all f xs ≡ true
unfolding any all
by-none f [] e = refl
by-none f (x ∷ xs) e = cc

mute-sees : (s : Statement) (p : Past) → mute s ≡ true → sees p s ≡ true
unfolding mute sees
mute-sees s p e = by-none (fine_signal (wires p)) (contents s).signals e

mute-through : (l : List Statement) (p : Past) → all mute l ≡ true → Through sees p → Through sees (reverse_aux l p)
mute-through = behind-all (Through sees) mute (λ s p e h. (mute-sees s p e, h))

settings-mute : (at : List Setting) → all mute (settings at) ≡ true
unfolding mute any statements_open
settings-mute at = settings-pass mute (λ n c. refl) at

-- lines of entries of one kind
module _ (f : Statement → Bool) {A : Type 0} (g : A → Entry) where
  all-kind : ((x : A) → all f (lines_of (g x)) ≡ true) → (xs : List A) → all f (flat_map lines_of (map g xs)) ≡ true
  all-kind h xs = rw (flat_map-map lines_of g xs) (all-flat_map f (λ x. lines_of (g x)) h xs)

module _ (m : Module) where
  abbrev declares : List Entry
  declares = map (λ p. param-entry p.0 p.1) m.parameters ++ map wire-entry m.wires ++ map memory-entry m.memories

  abbrev connects : List Entry
  connects = map cell_entry m.cells ++ (map process-entry m.processes ++ map (λ k. connection-entry k.0 k.1) m.connections)

  entries-apart : flat_map lines_of (entries m) ≡ flat_map lines_of declares ++ flat_map lines_of connects
  unfolding entries
  entries-apart =
      ap (flat_map lines_of)
      (append_assoc (declares ++ map cell_entry m.cells) (map process-entry m.processes) (map (λ k. connection-entry k.0 k.1) m.connections)
      ∙ append_assoc declares (map cell_entry m.cells) (map process-entry m.processes ++ map (λ k. connection-entry k.0 k.1) m.connections))
      ∙ flat_map-append lines_of declares connects

  declares-mute : all mute (flat_map lines_of declares) ≡ true
  unfolding lines_of all mute any statements_open
  declares-mute =
      let p = all-kind mute (λ (p : Name × Option Constant). param-entry p.0 p.1) (λ p. refl) m.parameters in
      let w = all-kind mute wire-entry (λ w. all_append mute (settings w.attributes) _ (settings-mute w.attributes) refl) m.wires in
      let y = all-kind mute memory-entry (λ y. all_append mute (settings y.attributes) _ (settings-mute y.attributes) refl) m.memories in
      let ps : List Entry = map (λ p. param-entry p.0 p.1) m.parameters in
      let vs : List Entry = map wire-entry m.wires in
      let ys : List Entry = map memory-entry m.memories in
      rw (flat_map-append lines_of (ps ++ vs) ys, flat_map-append lines_of ps vs)
      (all_append mute (flat_map lines_of ps ++ flat_map lines_of vs) (flat_map lines_of ys) (all_append mute (flat_map lines_of ps) (flat_map lines_of vs) p w) y)

  connects-quiet : all quiet (flat_map lines_of connects) ≡ true
  unfolding lines_of all quiet statements_open
  connects-quiet =
      let c = all-kind quiet cell_entry (λ c. all_append quiet (settings c.attributes) _ (settings-quiet c.attributes) (cell-quiet (cell_entries c.body))) m.cells in
      let k = all-kind quiet (λ (k : Signal × Signal). connection-entry k.0 k.1) (λ k. refl) m.connections in
      let r = all-kind quiet process-entry process-quiet m.processes in
      let ks : List Entry = map (λ k. connection-entry k.0 k.1) m.connections in
      rw (flat_map-append lines_of (map cell_entry m.cells), flat_map-append lines_of (map process-entry m.processes))
      (all_append quiet (flat_map lines_of (map cell_entry m.cells)) _ c (all_append quiet (flat_map lines_of (map process-entry m.processes)) (flat_map lines_of ks) r k))

  body-sees :
      (n : Name) (p : Past) → all (fine_signal (wires_in m)) (signals_in m) ≡ true → Through sees (module-stmt n ∷ p) →
      Through sees (reverse_aux (flat_map lines_of (entries m)) (module-stmt n ∷ p))
  body-sees n p e h =
      let r = reverse_aux (flat_map lines_of declares) (module-stmt n ∷ p) in
      let b : all (fine_signal (wires_in m)) (signals_in (body_of (entries m))) ≡ true = rw (body-entries m) e in
      let s : all (sound (wires_in m)) (flat_map lines_of declares ++ flat_map lines_of connects) ≡ true = rw entries-apart at (sound-body (wires_in m) (entries m) b) in
      let w : wires r ≡ wires_in m =
      sym (wires-still (flat_map lines_of connects) r connects-quiet)
      ∙ ap wires (sym (reverse_aux-append (flat_map lines_of declares) (flat_map lines_of connects) (module-stmt n ∷ p)))
      ∙ ap (λ (l : List Statement). wires (reverse_aux l (module-stmt n ∷ p))) (sym entries-apart)
      ∙ body-wires n (entries m) p
      ∙ ap wires_in (body-entries m) in
      rw (entries-apart, reverse_aux-append (flat_map lines_of declares))
      (sound-sees (wires_in m) (flat_map lines_of connects) r w connects-quiet (all_right (sound (wires_in m)) (flat_map lines_of declares) _ s)
      (mute-through (flat_map lines_of declares) (module-stmt n ∷ p) declares-mute h))

pub module-sees :
    (o : Object Module) (p : Past) → all (fine_signal (wires_in o.body)) (signals_in o.body) ≡ true → Through sees p →
    Through sees (reverse_aux (lines_of_module (as_file o)) p)
unfolding lines_of_module mute any statements_open
module-sees o p e h =
    let r = reverse_aux (settings o.attributes) p in
    let m = module-stmt o.name in
    let front : Through sees (m ∷ r) = (mute-sees m r refl, mute-through (settings o.attributes) p (settings-mute o.attributes) h) in
    let body = body-sees o.body o.name r e front in
    rw (reverse_aux-append (settings o.attributes), reverse_aux-append (flat_map lines_of (entries o.body)))
    (mute-sees end-stmt (reverse_aux (flat_map lines_of (entries o.body)) (m ∷ r)) refl, body)

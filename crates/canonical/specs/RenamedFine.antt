-- An accepted rename leaves a fine design fine; so do all that stand.
-- Assumes nothing.
use Prim.Native.Nat.{ℕ, zero, suc, ◌+◌, ◌≤◌, ◌<◌}
use Rattle.std.specs.Prelude.{◌≡◌, Bool, true, false, ◌&&◌, leb, ltb, length}
use Rattle.std.proofs.Math.Path.{refl, sym, ap}
use Rattle.std.proofs.Common.{◌∙◌, leb-false, ltb-false}
use mathlib.Core.List.{List, [], ◌∷◌, ◌++◌, map, flat_map, reverse-reverse, foldl-append}
use Rattle.std.proofs.Math.Option.{Option, none, some, Option-elim}
use Rattle.std.proofs.Math.Bool.{cond}
use Rattle.std.proofs.lemmas.Bool.{false≢true, not-false}
use Rattle.std.proofs.Math.Nat.{le_trans}
use native.Mathlib.Omega.{arith}
use Rattle.std.proofs.Math.ListN.{get_elem?}
use Rattle.rules.specs.Limits.{name_room, most_renames, most_width}
use Rattle.rules.specs.Bytes.{same, any, all, legal}
use Rattle.rules.specs.Tokens.{Name}
use Rattle.rules.specs.Statements.{Signal, Bit, digit, bit, Wire, Statement, a_module, a_parameter, a_wire, a_memory, a_cell, a_cell_parameter, a_cell_connection, a_connection, a_process, a_step, an_attribute, wire-stmt, statements_open}
use Rattle.rules.specs.Judgement.{sum, among, count, signals_of_step, signal_size, value_size, string_size, name_size, exceeds_size, Verdict, accepted, port_numbers}
use Rattle.rules.specs.Design.{Object, object, Module, Design, flatten}
use Rattle.rules.specs.Session.{Rename, wire_at, change, rename_wire, renamed, now, room_used, names, taken, rename_call, undo_call}
use Rattle.admitted.specs.Admitted.{fine_bit, fine_signal, fine_alone}
use Rattle.lists.specs.Tests.{by-test, or-false-left, or-false-right}
use Rattle.lists.specs.Bytes.{same-eq}
use Rattle.lists.specs.Lists.{drop-last, elim-map, flat_map-map}
use Rattle.lists.specs.Elements.{Each, all_same}
use Rattle.lists.specs.Sums.{sum-append, sum-map}
use Rattle.context.specs.Sizes.{sizes_by, sums_of}
use Rattle.context.proofs.SizeLaws.{within-past, limits-within, exceeds-sums}
use Rattle.admitted.specs.Holds.{Allowed, no-renames, one-rename}
use Rattle.admitted.specs.JudgeLaws.{no-tests}
use Rattle.canonical.specs.Nesting.{settings}
use Rattle.canonical.specs.Fine.{times, Differ, wires_in, signals_in, ports_in, FineModule, FineDesign}
use Rattle.canonical.specs.Tally.{times_none}
use Rattle.canonical.specs.Sums.{fails, all_none, none-all}
use Rattle.canonical.specs.BodySums.{body_sum, module_sum, design_sum, flatten-sum}

-- ONE ELEMENT CHANGED
module _ {A : Type 0} (h : A → A) where
  -- a sum grows by at most what one element grows by
  sum-change : (g : A → ℕ) (c : ℕ) → ((x : A) → g (h x) ≤ g x + c) → (i : ℕ) (xs : List A) → sum g (change h i xs) ≤ sum g xs + c
  unfolding sum change
  sum-change g c k i [] = omega arith
  sum-change g c k zero (x ∷ xs) = omega (arith, k x)
  sum-change g c k (suc i) (x ∷ xs) = omega (arith, sum-change g c k i xs)

  pub map-change : {B : Type 0} (g : A → B) → ((x : A) → g (h x) ≡ g x) → (i : ℕ) (xs : List A) → map g (change h i xs) ≡ map g xs
  unfolding change
  map-change g k i [] = refl
  map-change g k zero (x ∷ xs) = ap (λ (y : _). y ∷ map g xs) (k x)
  map-change g k (suc i) (x ∷ xs) = ap (λ (l : List _). g x ∷ l) (map-change g k i xs)

  each-change : (P : A → Type 0) (i : ℕ) (xs : List A) → ((x : A) → get_elem? xs i ≡ some x → P x → P (h x)) → Each P xs → Each P (change h i xs)
  unfolding change
  each-change P i [] k e = tt
  each-change P zero (x ∷ xs) k e = (k x refl e.0, e.1)
  each-change P (suc i) (x ∷ xs) k e = (e.0, each-change P i xs k e.1)

-- SUMS OVER A DESIGN, module by module
module _ (f : Statement → ℕ) where
  module _ (r : Rename) (c : ℕ) (k : (w : Wire) (n : Name) → f (wire-stmt w r.new_name) ≤ f (wire-stmt w n) + c) where
    body-renamed : (m : Module) → body_sum f (rename_wire r m) ≤ body_sum f m + c
    unfolding body_sum rename_wire
    body-renamed m =
        let w =
        sum-change (λ (w : Object Wire). object w.attributes r.new_name w.body) (λ w. sum f (settings w.attributes) + f (wire-stmt w.body w.name)) c
        (λ w. omega (arith, k w.body w.name)) r.wire_number m.wires in
        omega arith

    -- a sum over a renamed design
    pub renamed-sum : (d : Design) → sum f (flatten (renamed r d)) ≤ sum f (flatten d) + c
    unfolding renamed module_sum design_sum
    renamed-sum d =
        let w =
        sum-change (λ (m : Object Module). object m.attributes m.name (rename_wire r m.body)) (module_sum f) c
        (λ m. omega (arith, body-renamed m.body)) r.module_number d.modules in
        omega (arith, flatten-sum f d, flatten-sum f (renamed r d))

-- STATEMENTS AND SIZES: only a name is another
module _ (r : Rename) (d : Design) where
  alone-renamed : legal r.new_name ≡ true → (w : Wire) (n : Name) → fine_alone (wire-stmt w n) ≡ true → fine_alone (wire-stmt w r.new_name) ≡ true
  unfolding fine_alone all statements_open
  alone-renamed l w n e = rw l (by-test (legal n) (λ q. rw q at e) (λ q. absurd (false≢true (rw q at e))))

  fails-renamed : legal r.new_name ≡ true → (w : Wire) (n : Name) → fails fine_alone (wire-stmt w r.new_name) ≤ fails fine_alone (wire-stmt w n) + 0
  unfolding fails
  fails-renamed l w n =
      by-test (fine_alone (wire-stmt w n))
      (λ e. rw (e, alone-renamed l w n e) (omega arith))
      (λ e. rw e (by-test (fine_alone (wire-stmt w r.new_name)) (λ q. rw q (omega arith)) (λ q. rw q (omega arith))))

  statements-renamed : legal r.new_name ≡ true → all fine_alone (flatten d) ≡ true → all fine_alone (flatten (renamed r d)) ≡ true
  statements-renamed l e =
      none-all fine_alone (flatten (renamed r d))
      (omega (arith, all_none fine_alone (flatten d) e, renamed-sum (fails fine_alone) r 0 (fails-renamed l) d))

  -- a size that no name counts in
  same_size : (f : Statement → ℕ) → ((w : Wire) (n m : Name) → f (wire-stmt w n) ≡ f (wire-stmt w m)) → sum f (flatten (renamed r d)) ≤ sum f (flatten d)
  same_size f h = omega (arith, renamed-sum f r 0 (λ w n. omega (arith, h w r.new_name n)) d)

  pub names-renamed : sum name_size (flatten (renamed r d)) ≤ sum name_size (flatten d) + length r.new_name
  unfolding name_size sum statements_open
  names-renamed = renamed-sum name_size r (length r.new_name) (λ w n. omega arith) d

  sizes-renamed : sum name_size (flatten (renamed r d)) ≤ name_room → exceeds_size (flatten d) ≡ false → exceeds_size (flatten (renamed r d)) ≡ false
  unfolding sums_of sizes_by count among signals_of_step signal_size value_size string_size statements_open
  sizes-renamed h e =
      let b = within-past (flatten d) e in
      sym (exceeds-sums (flatten (renamed r d)))
      ∙ limits-within (sums_of (flatten (renamed r d)))
      (record {
        modules = le_trans (same_size (count (a_module ∷ [])) (λ w n m. refl)) b.modules;
        wires = le_trans (same_size (count (a_wire ∷ [])) (λ w n m. refl)) b.wires;
        memories = le_trans (same_size (count (a_memory ∷ [])) (λ w n m. refl)) b.memories;
        cells = le_trans (same_size (count (a_cell ∷ [])) (λ w n m. refl)) b.cells;
        parameters = le_trans (same_size (count (a_parameter ∷ a_cell_parameter ∷ [])) (λ w n m. refl)) b.parameters;
        attributes = le_trans (same_size (count (an_attribute ∷ [])) (λ w n m. refl)) b.attributes;
        ports = le_trans (same_size (count (a_cell_connection ∷ [])) (λ w n m. refl)) b.ports;
        connections = le_trans (same_size (count (a_connection ∷ [])) (λ w n m. refl)) b.connections;
        processes = le_trans (same_size (count (a_process ∷ [])) (λ w n m. refl)) b.processes;
        steps = le_trans (same_size (count (a_step ∷ [])) (λ w n m. refl)) b.steps;
        step-signals = le_trans (same_size signals_of_step (λ w n m. refl)) b.step-signals;
        signal-bits = le_trans (same_size signal_size (λ w n m. refl)) b.signal-bits;
        value-bits = le_trans (same_size value_size (λ w n m. refl)) b.value-bits;
        string-bytes = le_trans (same_size string_size (λ w n m. refl)) b.string-bytes;
        name-bytes = h;
      })

-- NAMES AND WIRES OF A MODULE
abbrev rename_to : Name → Object Wire → Object Wire
rename_to n w = object w.attributes n w.body

module _ (r : Rename) (m : Module) where
  names-times : (n : Name) → times (same n) (names (rename_wire r m)) ≤ times (same n) (names m) + cond (same n r.new_name) 1 0
  unfolding names rename_wire times
  names-times n =
      let f : Name → ℕ = λ x. cond (same n x) 1 0 in
      let ws = m.wires in
      let vs = change (rename_to r.new_name) r.wire_number m.wires in
      let ys : List Name = map (λ o. o.name) m.memories in
      let cs : List Name = map (λ o. o.name) m.cells in
      let rs : List Name = map (λ o. o.name) m.processes in
      omega (
        arith,
        sum-append f (map (λ o. o.name) vs ++ ys ++ cs) rs,
        sum-append f (map (λ o. o.name) ws ++ ys ++ cs) rs,
        sum-append f (map (λ o. o.name) vs ++ ys) cs,
        sum-append f (map (λ o. o.name) vs) ys,
        sum-append f (map (λ o. o.name) ws ++ ys) cs,
        sum-append f (map (λ o. o.name) ws) ys,
        sum-map f (λ (o : Object Wire). o.name) vs,
        sum-map f (λ (o : Object Wire). o.name) ws,
        sum-change (rename_to r.new_name) (λ w. f w.name) (f r.new_name) (λ w. omega arith) r.wire_number ws,
      )

  pub names-differ : any (same r.new_name) (names m) ≡ false → Differ (names m) → Differ (names (rename_wire r m))
  names-differ t d n =
      by-test (same n r.new_name)
      (λ q.
      let z : times (same n) (names m) ≡ 0 = rw (same-eq n r.new_name q) (times_none (same r.new_name) (names m) t) in
      let k : times (same n) (names (rename_wire r m)) ≤ times (same n) (names m) + 1 = rw q at (names-times n) in
      omega arith)
      (λ q. let k : times (same n) (names (rename_wire r m)) ≤ times (same n) (names m) + 0 = rw q at (names-times n) in omega (arith, d n))

  bodies-same : map (λ w. w.body) (rename_wire r m).wires ≡ map (λ w. w.body) m.wires
  unfolding rename_wire
  bodies-same = map-change (rename_to r.new_name) (λ w. w.body) (λ w. refl) r.wire_number m.wires

  ports-same : ports_in (rename_wire r m) ≡ ports_in m
  unfolding ports_in
  ports-same =
      sym (flat_map-map port_numbers (λ (w : Object Wire). w.body) (rename_wire r m).wires)
      ∙ ap (flat_map port_numbers) bodies-same
      ∙ flat_map-map port_numbers (λ (w : Object Wire). w.body) m.wires

-- a bit asks only for the width of its wire
unfoldable bit_in : List Wire → Bit → Bool
bit_in ws (digit d) = true
bit_in ws (bit w i) = Option-elim (get_elem? ws w) false (λ v. ltb i v.width)

bit_in_lem : (m : Module) (b : Bit) → fine_bit (wires_in m) b ≡ bit_in (map (λ w. w.body) m.wires) b
unfolding fine_bit wires_in bit_in
bit_in_lem m (digit d) = refl
bit_in_lem m (bit w i) =
    rw reverse-reverse
    (sym (elim-map false (λ (v : Name × Wire). ltb i v.1.width) (λ (o : Object Wire). (o.name, o.body)) m.wires w) ∙ elim-map false (λ (v : Wire). ltb i v.width) (λ (o : Object Wire). o.body) m.wires w)

signal-renamed : (r : Rename) (m : Module) (x : Signal) → fine_signal (wires_in (rename_wire r m)) x ≡ fine_signal (wires_in m) x
unfolding fine_signal
signal-renamed r m x =
    ap (λ (b : Bool). leb (length x) most_width && b)
    (all_same _ _ (λ b. bit_in_lem (rename_wire r m) b ∙ ap (λ (ws : List Wire). bit_in ws b) (bodies-same r m) ∙ sym (bit_in_lem m b)) x)

module-renamed :
    (r : Rename) (o : Object Module) → any (same r.new_name) (names o.body) ≡ false → FineModule o →
    FineModule (object o.attributes o.name (rename_wire r o.body))
unfolding rename_wire signals_in
module-renamed r o t f =
    record {
      attributes = f.attributes;
      names = names-differ r o.body t f.names;
      parameters = f.parameters;
      port-numbers = λ n. rw (ports-same r o.body) (f.port-numbers n);
      wires = each-change (rename_to r.new_name) _ r.wire_number o.body.wires (λ w q p. p) f.wires;
      memories = f.memories;
      cells = f.cells;
      processes = f.processes;
      connections = f.connections;
      signals = all_same _ _ (signal-renamed r o.body) (signals_in o.body) ∙ f.signals;
    }

-- A DESIGN
taken_none :
    (r : Rename) (d : Design) (o : Object Module) → get_elem? d.modules r.module_number ≡ some o → taken d r.module_number r.new_name ≡ false →
    any (same r.new_name) (names o.body) ≡ false
unfolding taken Option-elim
taken_none r d o q t = rw q at t

pub fine-step :
    (r : Rename) (d : Design) → FineDesign d → legal r.new_name ≡ true → taken d r.module_number r.new_name ≡ false → sum name_size (flatten (renamed r d)) ≤ name_room →
    FineDesign (renamed r d)
unfolding renamed
fine-step r d f l t h =
    record {
      modules = each-change _ FineModule r.module_number d.modules (λ o q g. module-renamed r o (taken_none r d o q t) g) f.modules;
      names = rw (map-change (λ (m : Object Module). object m.attributes m.name (rename_wire r m.body)) (λ o. o.name) (λ o. refl) r.module_number d.modules) f.names;
      statements = statements-renamed r d l f.statements;
      sizes = sizes-renamed r d h f.sizes;
    }

-- NAMES NOW ARE AT MOST THE ROOM USED
pub room-now : (d : Design) (rs : List Rename) → sum name_size (flatten (now d rs)) ≤ room_used d rs
unfolding now room_used sum
room-now d [] = omega arith
room-now d (r ∷ rs) = omega (arith, room-now (renamed r d) rs, names-renamed r d)

pub now-more : (d : Design) (rs : List Rename) (r : Rename) → now d (rs ++ r ∷ []) ≡ renamed r (now d rs)
unfolding now
now-more d rs r = foldl-append (λ e q. renamed q e) d rs (r ∷ [])

pub undo-last : (rs : List Rename) (r : Rename) → undo_call (rs ++ r ∷ []) ≡ accepted rs
unfolding undo_call
undo-last [] r = refl
undo-last (q ∷ rs) r = ap accepted (drop-last (q ∷ rs) r)

pub room-more : (d : Design) (rs : List Rename) (r : Rename) → room_used d (rs ++ r ∷ []) ≡ room_used d rs + length r.new_name
unfolding room_used sum
room-more d rs r = omega (arith, sum-append (λ (q : Rename). length q.new_name) rs (r ∷ []))

-- WHAT AN ACCEPTED RENAME KEEPS
pub record Kept (d : Design) (rs qs : List Rename) (r : Rename) : Type 0 where
  pub legal : legal r.new_name ≡ true
  pub there : (o : Object Wire) × (wire_at d r.module_number r.wire_number ≡ some o)
  pub free : taken (now d rs) r.module_number r.new_name ≡ false
  pub few : length rs < most_renames
  pub room : room_used d rs + length r.new_name ≤ name_room
  pub listed : rs ++ r ∷ [] ≡ qs

is-there : {A : Type 0} (x : Option A) → Option-elim x true (λ a. false) ≡ false → (a : A) × (x ≡ some a)
unfolding Option-elim
is-there none e = absurd (false≢true (sym e))
is-there (some a) e = (a, refl)

pub accepted-keeps : (d : Design) (rs qs : List Rename) (r : Rename) → rename_call d rs r ≡ Verdict.accepted qs → Kept d rs qs r
unfolding rename_call
accepted-keeps d rs qs r e =
    let h = no-tests (rs ++ r ∷ []) qs _ e in
    let full = h.1.1.1.1.1.0 in
    record {
      legal = not-false (legal r.new_name) h.1.0;
      there = is-there (wire_at d r.module_number r.wire_number) h.1.1.1.0;
      free = h.1.1.1.1.0;
      few = leb-false most_renames (length rs) (or-false-left (leb most_renames (length rs)) _ full);
      room = ltb-false name_room (room_used d rs + length r.new_name) (or-false-right (leb most_renames (length rs)) _ full);
      listed = h.0;
    }

module _ (d : Design) (rs : List Rename) (r : Rename) where
  pub fine-renamed : FineDesign (now d rs) → rename_call d rs r ≡ Verdict.accepted (rs ++ r ∷ []) → FineDesign (renamed r (now d rs))
  fine-renamed f e =
      let k = accepted-keeps d rs (rs ++ r ∷ []) r e in
      let b : sum name_size (flatten (renamed r (now d rs))) ≤ room_used d (rs ++ r ∷ []) = rw (now-more d rs r) at (room-now d (rs ++ r ∷ [])) in
      fine-step r (now d rs) f k.legal k.free (omega (arith, room-more d rs r))

-- with renames each of which was accepted after those before it
pub fine-now : {d : Design} {qs : List Rename} → FineDesign d → Allowed d qs → FineDesign (now d qs)
unfolding now
fine-now f no-renames = f
fine-now {d} f (one-rename rs r h e q) = rw (q, now-more d rs r) (fine-renamed d rs r (fine-now f h) e)

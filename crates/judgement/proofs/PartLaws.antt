-- The parts of an answer are those of its statement, and so are the sizes that the code makes of them.
-- Assumes nothing.
use Prim.Native.Nat.{ℕ, zero, suc, ◌+◌, ◌*◌, ◌≤◌}
use Rattle.std.specs.Prelude.{Option as Optional, Some, None}
use mathlib.Core.Path.{◌≡◌, refl, sym, ap, ap₂, ◌∙◌}
use mathlib.Core.Bool.{true, cond}
use mathlib.Core.List.{List, [], ◌∷◌, reverse, Option-to_list}
use mathlib.Core.Option.{Option, none, some}
use native.Mathlib.Omega.{arith}
use native.Mathlib.Nat.{zero-mul, suc-mul}
use borrow.Author.Tests.{eqb-true, ne_eqb}
use lib.Dec.{eqb}
use lib.ListN.{length, take, drop, replicate, length-replicate, length-map, length-reverse, length-drop}
use lib.Seq.{length-take-le}
use Rattle.rules.specs.Bytes.{all}
use Rattle.rules.specs.Statements as rules
use Rattle.rules.specs.Statements.{statements_open, code, contents, own_name}
use Rattle.rules.specs.Numbers.{good_literal}
use Rattle.rules.specs.Signals.{kept, literal_bits, literal_width}
use Rattle.rules.specs.Judgement.{sum, equal, signal_size, value_size, string_size, name_size}
use Rattle.scanner.specs.Numbers.{capped}
use Rattle.lists.specs.Tests.{and-true-left}
use Rattle.lists.specs.Parts.{slice-le}
use Rattle.lists.specs.Sums.{sum-map}
use Rattle.numbers.specs.Kinds.{signal_of}
use Rattle.numbers.specs.KindLaws.{length-signal}
use Rattle.netlist.specs.Steps.{step_named, pieces}
use Rattle.strings.proofs.StringLaws.{decoded-length}
use Rattle.tokens.specs.Rows.{literal_in}
use Rattle.tokens.specs.declared.ConstantSpan.TheVariants as constant
use Rattle.tokens.specs.declared.ConstantSpan.{ConstantSpan}
use Rattle.literal_rules.proofs.ReadLaws.{value-few, value-width}
use Rattle.line_forms.specs.Forms.{name_in, value_in}
use Rattle.scanner.specs.declared.parts.Span.{Span}
use Rattle.syntax.specs.Statements.{fault_of, signals_in, statement_in, kind_in, names_in, steps_of, widths_in, Sound, GoodOptional}
use Rattle.syntax.specs.declared.Statement.{Statement}
use Rattle.syntax.specs.declared.Statement.TheVariants.{Autoidx, Attribute, Module, Parameter, Wire, Memory, Cell, CellParameter, CellConnection, Connection, Step, End, Process}
use Rattle.context.specs.Sizes.{KindSizesAre, sizes_of, AtMost}
use Rattle.context.specs.declared.sizes.Sizes.{Sizes}
use Rattle.context.proofs.SizeLaws.{sizes-small}
use Rattle.faults.specs.Faults.{merge}
use Rattle.faults.proofs.FaultLaws.{merge-zero}
use Rattle.syntax.specs.SignalLaws.{signal-long}
use Rattle.judgement.specs.Parts.{named_parts, connection_parts, step_parts, parts_of, bits_in, constants_in, digits_in, bytes_in, SizesAre, Coded}
use Rattle.judgement.specs.declared.Parts.{Parts}

unfoldable parts_open : Unit {0}
unfolding parts_of named_parts connection_parts step_parts fault_of kind_in names_in name_in
parts_open = tt

-- ---- the number that its signals leave, the kind and the own name of an answer

pub record Tells (a : Statement) : Type 0 where
  pub fault : (parts_of a).fault ≡ fault_of a
  pub kind : (parts_of a).kind ≡ code (kind_in a)
  pub own : (f : List ℕ) → name_in f (parts_of a).name ≡ own_name (names_in f a)

pub tells : (a : Statement) → Tells a
unfolding parts_open code own_name
tells (Autoidx w) = record { fault = refl; kind = refl; own = λ f. refl }
tells (Attribute n c) = record { fault = refl; kind = refl; own = λ f. refl }
tells (Module n) = record { fault = refl; kind = refl; own = λ f. refl }
tells (Parameter n c) = record { fault = refl; kind = refl; own = λ f. refl }
tells (Wire n w t k p) = record { fault = refl; kind = refl; own = λ f. refl }
tells (Memory n w z t) = record { fault = refl; kind = refl; own = λ f. refl }
tells (Cell k n) = record { fault = refl; kind = refl; own = λ f. refl }
tells (CellParameter o n c) = record { fault = refl; kind = refl; own = λ f. refl }
tells (CellConnection n w l) = record { fault = refl; kind = refl; own = λ f. refl }
tells (Connection l r k) = record { fault = refl; kind = refl; own = λ f. refl }
tells (Step p w n l) = record { fault = refl; kind = refl; own = λ f. refl }
tells End = record { fault = refl; kind = refl; own = λ f. refl }
tells (Process n) = record { fault = refl; kind = refl; own = λ f. refl }

-- ---- its step and the widths of its signals

pub record Asks (a : Statement) : Type 0 where
  pub steps : steps_of a ≡ Option-to_list (step_named (parts_of a).step)
  pub even : equal (widths_in a) ≡ true → widths_in a ≡ replicate (parts_of a).count (parts_of a).left

pub asks : (a : Statement) → Asks a
unfolding parts_open steps_of widths_in step_named Option-to_list equal all
asks (Autoidx w) = record { steps = refl; even = λ e. refl }
asks (Attribute n c) = record { steps = refl; even = λ e. refl }
asks (Module n) = record { steps = refl; even = λ e. refl }
asks (Parameter n c) = record { steps = refl; even = λ e. refl }
asks (Wire n w t k p) = record { steps = refl; even = λ e. refl }
asks (Memory n w z t) = record { steps = refl; even = λ e. refl }
asks (Cell k n) = record { steps = refl; even = λ e. refl }
asks (CellParameter o n c) = record { steps = refl; even = λ e. refl }
asks (CellConnection n w l) = record { steps = refl; even = λ e. refl }
asks (Connection a b l) =
    record { steps = refl; even = λ e. ap (λ (n : ℕ). a ∷ n ∷ []) (sym (eqb-true a b (and-true-left (eqb a b) true e))) }
asks (Step p w n l) = record { steps = refl; even = λ e. refl }
asks End = record { steps = refl; even = λ e. refl }
asks (Process n) = record { steps = refl; even = λ e. refl }

-- ---- its constant keeps the number rules, its step has a code, and its signals are few and narrow

pub record Fits (f : List ℕ) (a : Statement) : Type 0 where
  pub value : GoodOptional f (parts_of a).value
  pub coded : Coded (parts_of a).step
  pub few : (parts_of a).count ≤ 32768
  pub narrow : fault_of a ≡ 0 → bits_in (parts_of a) ≤ 8192

no-signals : (f : List ℕ) (a : Statement) → GoodOptional f (parts_of a).value → (parts_of a).step ≡ 0 → (parts_of a).count ≡ 0 → bits_in (parts_of a) ≡ 0 → Fits f a
no-signals f a v t n b = record { value = v; coded = λ h. absurd (h t); few = omega arith; narrow = λ e. omega arith }

pub fits : (f : List ℕ) (a : Statement) → Sound f a → Fits f a
unfolding parts_open bits_in
fits f (Autoidx w) h = no-signals f (Autoidx w) tt refl refl refl
fits f (Attribute n c) h = no-signals f (Attribute n c) h refl refl refl
fits f (Module n) h = no-signals f (Module n) tt refl refl refl
fits f (Parameter n c) h = no-signals f (Parameter n c) h refl refl refl
fits f (Wire n w t k p) h = no-signals f (Wire n w t k p) tt refl refl refl
fits f (Memory n w z t) h = no-signals f (Memory n w z t) tt refl refl refl
fits f (Cell k n) h = no-signals f (Cell k n) tt refl refl refl
fits f (CellParameter o n c) h = no-signals f (CellParameter o n c) h.1 refl refl refl
fits f (CellConnection n w l) h = record { value = tt; coded = λ g. absurd (g refl); few = omega arith; narrow = λ e. omega (arith, h e) }
fits f (Connection a b l) h = record { value = tt; coded = λ g. absurd (g refl); few = omega arith; narrow = λ e. omega (arith, h e) }
fits f (Step p w n l) h = record { value = tt; coded = λ g. h.1; few = h.0; narrow = λ e. (h.2 e).1 }
fits f End h = no-signals f End tt refl refl refl
fits f (Process n) h = no-signals f (Process n) tt refl refl refl

-- ---- an answer whose signals leave no number

module _ (a : Statement) where
  pub no-fault : (parts_of a).fault ≡ 0 → fault_of a ≡ 0
  no-fault e = sym (tells a).fault ∙ e

  pub merged-none : (p : Parts) (n r : ℕ) → p ≡ parts_of a → n ≡ merge p.fault r → n ≡ 0 → fault_of a ≡ 0
  merged-none p n r e q z = no-fault (ap (λ (x : Parts). x.fault) (sym e) ∙ (merge-zero p.fault r (sym q ∙ z)).0)

module _ (f : List ℕ) (a : Statement) (p : Parts) (e : p ≡ parts_of a) (sound : Sound f a) where
  pub parts-good : GoodOptional f p.value
  parts-good = rw e (fits f a sound).value

  pub parts-coded : Coded p.step
  parts-coded = rw e (fits f a sound).coded

  pub parts-few : p.count ≤ 32768
  parts-few = rw e (fits f a sound).few

  pub parts-narrow : fault_of a ≡ 0 → bits_in p ≤ 8192
  parts-narrow h = rw e ((fits f a sound).narrow h)

module _ (p : Parts) where
  pub bits-step : p.kind ≡ 13 → bits_in p ≡ p.count * p.left
  unfolding bits_in
  bits-step e = rw e

  pub bits-pair : (p.kind ≡ 13 → ⊥) → bits_in p ≡ p.left + p.right
  unfolding bits_in
  bits-pair h = rw (ne_eqb p.kind 13 h)

-- ---- how long its parts are

pub name-few : (f : List ℕ) (n : Span) → length (name_in f n) ≤ length f
unfolding name_in
name-few f n = slice-le n.start n.end f

digits_are : (f : List ℕ) (i j e : ℕ) → digits_in f (Some (constant.Value i j e)) ≡ length (literal_bits (literal_in f (constant.Value i j e)))
unfolding digits_in constants_in value_in literal_in literal_bits kept sum statements_open
digits_are f i j e = omega arith

pub value-digits :
    (f : List ℕ) (i j e : ℕ) → good_literal (literal_in f (constant.Value i j e)) ≡ true →
    (n : ℕ) → n ≡ capped (literal_width (literal_in f (constant.Value i j e))) → n ≡ digits_in f (Some (constant.Value i j e))
value-digits f i j e good n r = value-width f i j e good n r ∙ sym (digits_are f i j e)

digits-few : (f : List ℕ) (c : Optional ConstantSpan) → GoodOptional f c → digits_in f c ≤ 2048
unfolding digits_in constants_in value_in literal_in kept sum statements_open
digits-few f None h = omega arith
digits-few f (Some (constant.Integer z)) h = omega arith
digits-few f (Some (constant.Value i j e)) h = omega (arith, digits_are f i j e, value-few f i j e h.good)
digits-few f (Some (constant.Text i)) h = omega arith

bytes-few : (f : List ℕ) (c : Optional ConstantSpan) → bytes_in f c ≤ length f
unfolding bytes_in constants_in value_in literal_in kept sum statements_open
bytes-few f None = omega arith
bytes-few f (Some (constant.Integer z)) = omega arith
bytes-few f (Some (constant.Value i j e)) = omega arith
bytes-few f (Some (constant.Text i)) = omega (arith, decoded-length f i)

-- ---- the signals of a step

module _ (w : ℕ) where
  pieces-many : (n : ℕ) (s : List ℕ) → length (pieces w n s) ≡ n
  unfolding pieces
  pieces-many zero s = refl
  pieces-many (suc n) s = ap suc (pieces-many n (drop w s))

  signals-many : (n : ℕ) (s : List ℕ) → length (signals_in s w n) ≡ n
  unfolding signals_in
  signals-many n s = length-map (pieces w n s) _ ∙ pieces-many n s

  pieces-wide : (n : ℕ) (s : List ℕ) → n * w ≤ length s → sum (λ x. length (signal_of (reverse x))) (pieces w n s) ≡ n * w
  unfolding pieces sum
  pieces-wide zero s h = sym (zero-mul w)
  pieces-wide (suc n) s h =
      let first = length-signal (reverse (take w s)) ∙ length-reverse (take w s) ∙ length-take-le w s (omega (arith, suc-mul n w)) in
      omega (arith, suc-mul n w, first, pieces-wide n (drop w s) (omega (arith, suc-mul n w, length-drop w s)))

  signals-wide : (n : ℕ) (s : List ℕ) → n * w ≤ length s → sum length (signals_in s w n) ≡ n * w
  unfolding signals_in
  signals-wide n s h = sum-map length (λ x. signal_of (reverse x)) (pieces w n s) ∙ pieces-wide n s h

-- ---- the statement that an answer stands for has these parts

pub record Meant (f : List ℕ) (a : Statement) (x : rules.Statement) : Type 0 where
  pub kind-of : (parts_of a).kind ≡ code (contents x).kind
  pub many : (parts_of a).count ≡ length (contents x).signals
  pub signals : bits_in (parts_of a) ≡ signal_size x
  pub values : digits_in f (parts_of a).value ≡ value_size x
  pub strings : bytes_in f (parts_of a).value ≡ string_size x
  pub names : length (name_in f (parts_of a).first) + length (name_in f (parts_of a).name) ≡ name_size x

abbrev On : (rules.Statement → Type 0) → Option rules.Statement → Type 0
On P none = Unit {0}
On P (some x) = P x

on_some : (P : rules.Statement → Type 0) {o : Option rules.Statement} {x : rules.Statement} → On P o → o ≡ some x → P x
on_some P h e = rw e at h

unfoldable meant_open : Unit {0}
unfolding parts_open statements_open statement_in bits_in sum signal_size value_size string_size name_size digits_in bytes_in constants_in value_in
meant_open = tt

meant-all : (f s : List ℕ) (a : Statement) → Sound f a → fault_of a ≡ 0 → 8192 ≤ length s → On (Meant f a) (statement_in f s a)
unfolding meant_open
meant-all f s (Autoidx w) h e b = record { kind-of = refl; many = refl; signals = refl; values = refl; strings = refl; names = omega arith }
meant-all f s (Attribute n c) h e b = record { kind-of = refl; many = refl; signals = refl; values = refl; strings = refl; names = omega arith }
meant-all f s (Module n) h e b = record { kind-of = refl; many = refl; signals = refl; values = refl; strings = refl; names = omega arith }
meant-all f s (Parameter n c) h e b = record { kind-of = refl; many = refl; signals = refl; values = refl; strings = refl; names = omega arith }
meant-all f s (Wire n w t k p) h e b = record { kind-of = refl; many = refl; signals = refl; values = refl; strings = refl; names = omega arith }
meant-all f s (Memory n w z t) h e b = record { kind-of = refl; many = refl; signals = refl; values = refl; strings = refl; names = omega arith }
meant-all f s (Cell k n) h e b = record { kind-of = refl; many = refl; signals = refl; values = refl; strings = refl; names = omega arith }
meant-all f s (CellParameter o n c) h e b = record { kind-of = refl; many = refl; signals = refl; values = refl; strings = refl; names = omega arith }
meant-all f s (CellConnection n w l) h e b =
    let k : w ≤ 2048 = h e in
    record { kind-of = refl; many = refl; signals = omega (arith, signal-long s 0 w (omega arith)); values = refl; strings = refl; names = omega arith }
meant-all f s (Connection i j l) h e b =
    let k : (i ≤ 2048) × (j ≤ 2048) = h e in
    record {
      kind-of = refl;
      many = refl;
      signals = omega (arith, signal-long s 0 i (omega arith), signal-long s 2048 j (omega arith));
      values = refl;
      strings = refl;
      names = omega arith;
    }
meant-all f s (Step p w n l) h e b =
    rw h.1.1
    record {
      kind-of = refl;
      many = sym (signals-many w n s);
      signals = sym (signals-wide w n s (omega (arith, (h.2 e).1)));
      values = refl;
      strings = refl;
      names = omega arith;
    }
meant-all f s End h e b = record { kind-of = refl; many = refl; signals = refl; values = refl; strings = refl; names = omega arith }
meant-all f s (Process n) h e b = record { kind-of = refl; many = refl; signals = refl; values = refl; strings = refl; names = omega arith }

-- a sound answer stands for a statement
pub stands-for : (f s : List ℕ) (a : Statement) → Sound f a → (x : rules.Statement) × (statement_in f s a ≡ some x)
unfolding statement_in
stands-for f s (Autoidx w) h = (_, refl)
stands-for f s (Attribute n c) h = (_, refl)
stands-for f s (Module n) h = (_, refl)
stands-for f s (Parameter n c) h = (_, refl)
stands-for f s (Wire n w t k p) h = (_, refl)
stands-for f s (Memory n w z t) h = (_, refl)
stands-for f s (Cell k n) h = (_, refl)
stands-for f s (CellParameter o n c) h = (_, refl)
stands-for f s (CellConnection n w l) h = (_, refl)
stands-for f s (Connection i j l) h = (_, refl)
stands-for f s (Step p w n l) h = rw h.1.1 (_, refl)
stands-for f s End h = (_, refl)
stands-for f s (Process n) h = (_, refl)

-- ---- the sizes that the code makes of the parts

module _ (f : List ℕ) (a : Statement) (p : Parts) (c g v t m n : ℕ) (r : Sizes) (e : p ≡ parts_of a) (sound : Sound f a) (fault : fault_of a ≡ 0)
    (ec : c ≡ p.count) (eg : g ≡ bits_in p) (ev : v ≡ digits_in f p.value) (et : t ≡ bytes_in f p.value)
    (em : m ≡ length (name_in f p.first)) (en : n ≡ length (name_in f p.name)) (sized : KindSizesAre p.kind c g v t (m + n) r) where
  pub sizes-are : SizesAre f a r
  sizes-are s x room is =
      let M : Meant f a x = on_some (Meant f a) (meant-all f s a sound fault room) is in
      sized x
      (ap (λ (q : Parts). q.kind) e ∙ M.kind-of)
      (ec ∙ ap (λ (q : Parts). q.count) e ∙ M.many)
      (eg ∙ ap bits_in e ∙ M.signals)
      (ev ∙ ap (λ (q : Parts). digits_in f q.value) e ∙ M.values)
      (et ∙ ap (λ (q : Parts). bytes_in f q.value) e ∙ M.strings)
      (ap₂ (λ (i j : ℕ). i + j) em en ∙ ap (λ (q : Parts). length (name_in f q.first) + length (name_in f q.name)) e ∙ M.names)

  pub sizes-few : length f ≤ 32768 → AtMost 2147483647 r
  sizes-few few =
      let s : List ℕ = replicate 8192 0 in
      let room : 8192 ≤ length s = omega (arith, length-replicate {A = ℕ} 8192 0) in
      let w = stands-for f s a sound in
      let M : Meant f a w.0 = on_some (Meant f a) (meant-all f s a sound fault room) w.1 in
      let q : sizes_of w.0 ≡ r = sizes-are s w.0 room w.1 in
      let k = fits f a sound in
      rw (← q)
      (sizes-small w.0 2147483647 (omega arith)
      (omega (arith, M.many, k.few))
      (omega (arith, M.signals, k.narrow fault))
      (omega (arith, M.values, digits-few f (parts_of a).value k.value))
      (omega (arith, M.strings, bytes-few f (parts_of a).value))
      (omega (arith, M.names, name-few f (parts_of a).first, name-few f (parts_of a).name)))

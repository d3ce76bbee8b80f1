-- EACH WIRE BIT INSIDE ITS WIRE: the laws.
-- Assumes nothing.
use Rattle.std.specs.Prelude.{ℕ, ◌≡◌, Bool, true, ◌&&◌, leb, length}
use Rattle.std.proofs.Math.Path.{refl}
use Rattle.std.proofs.Common.{sym, ◌∙◌}
use mathlib.Core.List.{List, [], ◌∷◌, ◌++◌, map, flat_map, reverse-reverse}
use Rattle.std.proofs.Math.Bool.{false}
use Rattle.std.proofs.Math.Dec.{ltb}
use Rattle.rules.specs.Limits.{most_width}
use Rattle.rules.specs.Bytes.{all}
use Rattle.rules.specs.Tokens.{Name}
use Rattle.rules.specs.Statements.{Bit, digit, bit, Signal, Wire, Statement}
use Rattle.rules.specs.Reading.{accepted, read_any}
use Rattle.rules.specs.Design.{Object, Cell, Line, Module, Design, design}
use Rattle.rules.specs.Session.{Rename, now}
use Rattle.rules.specs.Layout.{Memory}
use Rattle.lists.specs.Tests.{and-true-right}
use Rattle.lists.specs.Lists.{elim-map}
use Rattle.lists.specs.Elements.{all_left, all_right, all_cons, all_first, all-later, all-implied, all_map, all_of, each_map}
use Rattle.admitted.specs.Admitted.{fine_bit, fine_signal}
use Rattle.admitted.specs.Holds.{Holds}
use Rattle.canonical.specs.Fine.{wires_in, line_signals, signals_in, FineModule, FineDesign}
use Rattle.canonical.specs.AdmittedFine.{admitted-fine}
use Rattle.canonical.specs.Canonical.{now-fine}
use Rattle.soundness.specs.ReadLaws.{read-admitted}
use Rattle.theorems.specs.WireBits.{bit_inside, signal_inside, inside_wires, all_inside}

-- what all signals of a module pass, they pass cell by cell and connection by connection
all_apart : {A B : Type 0} (f : B → Bool) (g : A → List B) (h : A → Bool) → ((x : A) → all f (g x) ≡ true → h x ≡ true) → (xs : List A) → all f (flat_map g xs) ≡ true → all h xs ≡ true
unfolding all flat_map
all_apart f g h k [] e = refl
all_apart f g h k (x ∷ xs) e = all_cons h x xs (k x (all_left f (g x) (flat_map g xs) e)) (all_apart f g h k xs (all_right f (g x) (flat_map g xs) e))

module _ (m : Module) where
  bit-inside : (b : Bit) → fine_bit (wires_in m) b ≡ true → bit_inside m b ≡ true
  unfolding fine_bit wires_in bit_inside
  bit-inside (digit d) e = refl
  bit-inside (bit w i) e =
      elim-map false (λ (v : Name × Wire). ltb i v.1.width) (λ (o : Object Wire). (o.name, o.body)) m.wires w ∙ rw reverse-reverse at e

  signal-inside : (s : Signal) → fine_signal (wires_in m) s ≡ true → signal_inside m s ≡ true
  unfolding fine_signal signal_inside
  signal-inside s e = all-implied (fine_bit (wires_in m)) (bit_inside m) bit-inside s (and-true-right (leb (length s) most_width) _ e)

  abbrev fine : Signal → Bool
  fine = fine_signal (wires_in m)

  cell-inside : (ks : List (Name × Signal)) → all fine (map (λ k. k.1) ks) ≡ true → all (λ k. signal_inside m k.1) ks ≡ true
  cell-inside ks e = all-implied (λ k. fine k.1) (λ k. signal_inside m k.1) (λ k. signal-inside k.1) ks (sym (all_map fine (λ k. k.1) ks) ∙ e)

  lines-inside : (ls : List Line) → all fine (flat_map line_signals ls) ≡ true → all (λ l. all (signal_inside m) (line_signals l)) ls ≡ true
  lines-inside ls e = all_apart fine line_signals _ (λ l. all-implied fine (signal_inside m) signal-inside (line_signals l)) ls e

  sides-inside : (x y : Signal) → all fine (x ∷ y ∷ []) ≡ true → signal_inside m x && signal_inside m y ≡ true
  sides-inside x y e = rw (signal-inside x (all_first fine x (y ∷ []) e), signal-inside y (all_first fine y [] (all-later fine x (y ∷ []) e)))

  module-inside : all fine (signals_in m) ≡ true → inside_wires m ≡ true
  unfolding signals_in inside_wires
  module-inside e =
      let cells : List Signal = flat_map (λ (c : Object Cell). map (λ (k : Name × Signal). k.1) c.body.connections) m.cells in
      let steps : List Signal = flat_map (λ (o : Object (List Line)). flat_map line_signals o.body) m.processes in
      let sides : List Signal = flat_map (λ (k : Signal × Signal). k.0 ∷ k.1 ∷ []) m.connections in
      rw (
        all_apart fine _ _ (λ (c : Object Cell). cell-inside c.body.connections) m.cells (all_left fine cells steps (all_left fine (cells ++ steps) sides e)),
        all_apart fine _ _ (λ (o : Object (List Line)). lines-inside o.body) m.processes (all_right fine cells steps (all_left fine (cells ++ steps) sides e)),
        all_apart fine _ _ (λ (k : Signal × Signal). sides-inside k.0 k.1) m.connections (all_right fine (cells ++ steps) sides e),
      )

fine-inside : (d : Design) → FineDesign d → all_inside d ≡ true
unfolding all_inside
fine-inside d f = all_of _ d.modules (each_map FineModule _ (λ o g. module-inside o.body g.signals) d.modules f.modules)

-- THE DESIGN THAT IS READ, from a text of any length
pub read-inside : (file : List ℕ) (ss : List Statement) → read_any file ≡ accepted ss → all_inside (design ss) ≡ true
read-inside file ss e = let a = read-admitted file ss e in fine-inside (design ss) (admitted-fine ss a.0 a.1)

-- THE DESIGN THAT MEMORY HOLDS, with the names now
pub held-inside : {m : Memory} {ss : List Statement} {rs : List Rename} → Holds m ss rs → all_inside (now (design ss) rs) ≡ true
held-inside {m} {ss} {rs} h = fine-inside (now (design ss) rs) (now-fine ss rs (record { admitted = h.admitted; closes = h.closes }) h.allowed)

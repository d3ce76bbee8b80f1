-- A design that some file holds, told of the design itself, whatever the order in a file.
use Rattle.std.specs.Prelude.{ℕ, ◌≤◌, ◌≡◌, Bool, true, false, cond, ◌&&◌, eqb, length}
use mathlib.Core.List.{List, [], ◌∷◌, ◌++◌, map, flat_map, reverse}
use Rattle.rules.specs.Bytes.{same, all}
use Rattle.rules.specs.Tokens.{Name}
use Rattle.rules.specs.Statements.{Signal, Statement, contents, module-stmt}
use Rattle.rules.specs.Signals.{Wires}
use Rattle.rules.specs.Judgement.{Past, sum, port_numbers, fit_widths, exceeds_size}
use Rattle.rules.specs.Design.{Setting, Object, Cell, Line, step_line, end_line, Module, Design, process_lines, flatten}
use Rattle.rules.specs.Session.{names}
use Rattle.lists.specs.Elements.{Each}
use Rattle.admitted.specs.Admitted.{stands, arity, fine_signal, fine_alone}
use Rattle.canonical.specs.Nesting.{balanced}

-- how many pass a test
unfoldable pub times : {A : Type 0} → (A → Bool) → List A → ℕ
times f xs = sum (λ x. cond (f x) 1 0) xs

-- names that differ: each stands there at most once
abbrev pub Differ : List Name → Type 0
Differ ns = (n : Name) → times (same n) ns ≤ 1

abbrev pub setting_names : List Setting → List Name
setting_names at = map (λ a. a.0) at

-- a module's wires as a line behind them sees them, the last one first; all its signals
unfoldable pub wires_in : Module → Wires
wires_in m = reverse (map (λ o. (o.name, o.body)) m.wires)

unfoldable pub line_signals : Line → List Signal
line_signals (step_line at p xs) = xs
line_signals end_line = []

unfoldable pub signals_in : Module → List Signal
signals_in m =
    flat_map (λ c. map (λ k. k.1) c.body.connections) m.cells
    ++ flat_map (λ o. flat_map line_signals o.body) m.processes
    ++ flat_map (λ k. k.0 ∷ k.1 ∷ []) m.connections

-- the port numbers of its wires
unfoldable pub ports_in : Module → List ℕ
ports_in m = flat_map (λ w. port_numbers w.body) m.wires

-- Parameter names in one cell differ, and so do port names
pub record FineCell (c : Object Cell) : Type 0 where
  pub attributes : Differ (setting_names c.attributes)
  pub parameters : Differ (map (λ p. p.1.0) c.body.parameters)
  pub ports : Differ (map (λ k. k.0) c.body.connections)

-- A LINE OF A PROCESS: it stands behind those before it, with so many signals and such widths as it has to have
unfoldable pub follows : Past → Statement → Bool
follows p s =
    stands p s
    && all (λ q. arity q (length (contents s).signals)) (contents s).steps
    && fit_widths p s (map length (contents s).signals)

-- each of some statements passes a test behind those before it, from p on
unfoldable pub passing : (Past → Statement → Bool) → Past → List Statement → Bool
passing f p [] = true
passing f p (s ∷ l) = f p s && passing f (s ∷ p) l

unfoldable pub line_settings : Line → List Setting
line_settings (step_line at p xs) = at
line_settings end_line = []

-- Attribute names on a process, and on each of its steps, differ; its switches are closed; and its lines follow one another, behind the line
-- of some module
pub record FineProcess (o : Object (List Line)) : Type 0 where
  pub attributes : Differ (setting_names o.attributes)
  pub steps : Each (λ l. Differ (setting_names (line_settings l))) o.body
  pub balanced : balanced 0 o.body ≡ true
  pub lines : passing follows (module-stmt o.name ∷ []) (process_lines o.body o.name) ≡ true

-- Attribute names on one object, parameter names and port numbers in a module differ, and wires, memories, cells and processes share one name
-- space; both sides of a connection are equally wide; the bits of each signal lie in wires of the module
pub record FineModule (o : Object Module) : Type 0 where
  pub attributes : Differ (setting_names o.attributes)
  pub names : Differ (names o.body)
  pub parameters : Differ (map (λ p. p.0) o.body.parameters)
  pub port-numbers : (n : ℕ) → times (eqb n) (ports_in o.body) ≤ 1
  pub wires : Each (λ w. Differ (setting_names w.attributes)) o.body.wires
  pub memories : Each (λ y. Differ (setting_names y.attributes)) o.body.memories
  pub cells : Each FineCell o.body.cells
  pub processes : Each FineProcess o.body.processes
  pub connections : Each (λ k. eqb (length k.0) (length k.1) ≡ true) o.body.connections
  pub signals : all (fine_signal (wires_in o.body)) (signals_in o.body) ≡ true

-- Module names differ; the parts of each statement keep the rules on their own; no size is exceeded
pub record FineDesign (d : Design) : Type 0 where
  pub modules : Each FineModule d.modules
  pub names : Differ (map (λ o. o.name) d.modules)
  pub statements : all fine_alone (flatten d) ≡ true
  pub sizes : exceeds_size (flatten d) ≡ false

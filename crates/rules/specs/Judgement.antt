-- The number that a line of good shape is refused with, after the statements so far.
-- Source: document 01, "Numbers given back", with the name spaces of "Objects" and the limits of "Sizes"; 004 has none
-- of these. On one line the lowest number counts, so the tests stand in that order.
use Rattle.std.specs.Prelude.{ℕ, zero, suc, ◌+◌, Bool, true, false, not, cond, ◌&&◌, ◌||◌, length, take, drop, leb, ltb, eqb}
use mathlib.Core.List.{List, [], ◌∷◌, ◌++◌, map, flat_map, zip, foldl, Option-to_list}
use Rattle.std.proofs.Math.Option.{Option, none, some}
use Rattle.rules.specs.Limits.{most_modules, most_wires, most_memories, most_cells, most_parameters, most_attributes, most_cell_connections, most_connections, most_processes, most_steps, most_step_signals, most_signal_bits, most_value_bits, most_string_bytes, name_room, most_width}
use Rattle.rules.specs.Bytes.{same, any, all}
use Rattle.rules.specs.Tokens.{Name}
use Rattle.rules.specs.Statements.{Sig, Signal, digits_of, bytes_of, Wire, Statement, Shape, Opt, Kind, an_attribute, a_module, a_parameter, a_wire, a_memory, a_cell, a_cell_parameter, a_cell_connection, a_connection, a_process, an_end, a_step, Step, assign, update, switch, case, low, high, posedge, negedge, edge, global, init, always, step_code, Stmt, contents, is, own_name, translate}
use Rattle.rules.specs.Shapes.{Scope, top, in_module, in_cell, in_process, in_tail, in_sync, in_switch, in_case, Context}
use Rattle.rules.specs.Numbers.{int32, good_literal, good_numbers, good_wire, good_memory, wire_of, memory_of}
use Rattle.rules.specs.Signals.{Wires, parts, width, bits, declared_wire, good_slice, kept}

-- The statements so far, the last one first
abbrev pub Past : Type 0
Past = List Statement

module _ {A : Type 0} where
  -- those before the first that passes a test; those that pass it
  unfoldable pub until : (A → Bool) → List A → List A
  until f [] = []
  until f (x ∷ xs) = let r = x ∷ until f xs in cond (f x) [] r

  unfoldable pub only : (A → Bool) → List A → List A
  only f [] = []
  only f (x ∷ xs) = let r = only f xs in cond (f x) (x ∷ r) r

  unfoldable pub sum : (A → ℕ) → List A → ℕ
  sum f [] = 0
  sum f (x ∷ xs) = f x + sum f xs

-- WHAT A LINE SEES OF THE PAST: where it stands, the wires of its module, the names of each name space, and the sums of each size.
-- A module line opens a module, a cell line a cell and a process line a process; `end` closes what was opened last
unfoldable pub outer : Scope → Scope
outer top = top
outer in_module = top
outer in_cell = in_module
outer in_process = in_module
outer in_tail = in_module
outer in_sync = in_module
outer (in_switch zero) = in_tail
outer (in_switch (suc k)) = in_case k
outer (in_case zero) = in_tail
outer (in_case (suc k)) = in_case k

-- how many switches are open around a switch that a line here opens, and around the case that it begins
unfoldable pub around : Scope → ℕ
around top = 0
around in_module = 0
around in_cell = 0
around in_process = 0
around in_tail = 0
around in_sync = 0
around (in_switch k) = k
around (in_case k) = k + 1

unfoldable pub nested : Scope → ℕ
nested top = 0
nested in_module = 0
nested in_cell = 0
nested in_process = 0
nested in_tail = 0
nested in_sync = 0
nested (in_switch k) = k
nested (in_case k) = k

unfoldable pub behind_step : Scope → Step → Scope
behind_step r assign = r
behind_step r update = r
behind_step r switch = in_switch (around r)
behind_step r case = in_case (nested r)
behind_step r low = in_sync
behind_step r high = in_sync
behind_step r posedge = in_sync
behind_step r negedge = in_sync
behind_step r edge = in_sync
behind_step r global = in_sync
behind_step r init = in_sync
behind_step r always = in_sync

unfoldable pub scope : Past → Scope
scope [] = top
scope (s ∷ ss) =
    let r = scope ss in
    cond (is a_module s) in_module
    (cond (is a_cell s) in_cell
    (cond (is a_process s) in_process
    (cond (is an_end s) (outer r)
    (foldl behind_step r (contents s).steps))))

unfoldable pub steps : Step → Statement → Bool
steps p s = any (λ q. eqb (step_code p) (step_code q)) (contents s).steps

-- the signals of the switches that are open, the innermost first
unfoldable pub switches : Past → List Signal
switches [] = []
switches (s ∷ ss) =
    let r = switches ss in
    cond (is an_end s) (drop 1 r) (cond (steps switch s) ((contents s).signals ++ r) r)

unfoldable pub context : Past → Context
context [] = record { scope = top; first = true; attributed = false }
context (s ∷ ss) = record { scope = scope (s ∷ ss); first = false; attributed = is an_attribute s }

-- what stands since the line that opened the module or the cell, and the attributes of the next object
unfoldable pub of_module : Past → Past
of_module ss = until (is a_module) ss

unfoldable pub of_cell : Past → Past
of_cell ss = until (is a_cell) ss

unfoldable pub of_object : Past → Past
of_object ss = until (λ s. not (is an_attribute s)) ss

-- A wire must be declared earlier in the same module
unfoldable pub wires : Past → Wires
wires ss = flat_map (λ s. zip (contents s).names (contents s).wires) (of_module ss)

unfoldable pub among : {C S W M : Type 0} → List Kind → Stmt C S W M → Bool
among ks s = any (λ k. is k s) ks

-- A name space: the statements of some kinds in a part of the past
pub record Space : Type 0 where
  pub kinds : List Kind
  pub part : Past → Past

unfoldable pub space : List Kind → (Past → Past) → Space
space ks f = record { kinds = ks; part = f }

unfoldable pub names_in : Space → Past → List Name
names_in z ss = map (λ s. own_name (contents s).names) (only (among z.kinds) (z.part ss))

-- Module names differ. Wires, memories, cells and processes of a module share one name space. Attribute names on one object, parameter names in
-- one cell or module, port names in one cell differ
unfoldable pub name_spaces : List Space
name_spaces =
    space (a_module ∷ []) (λ ss. ss)
    ∷ space (a_wire ∷ a_memory ∷ a_cell ∷ a_process ∷ []) of_module
    ∷ space (an_attribute ∷ []) of_object
    ∷ space (a_parameter ∷ []) of_module
    ∷ space (a_cell_parameter ∷ []) of_cell
    ∷ space (a_cell_connection ∷ []) of_cell
    ∷ []

-- Each count is over the whole design: statements of a kind; signal bits, after slicing; value bits and decoded string bytes in
-- attributes and parameters (integers count in neither); name room: every name as often as it stands in the file
unfoldable pub count : List Kind → Statement → ℕ
count ks s = cond (among ks s) 1 0

unfoldable pub signal_size : Statement → ℕ
signal_size s = sum length (contents s).signals

unfoldable pub value_size : Statement → ℕ
value_size s = sum (λ c. length (digits_of c)) (contents s).constants

unfoldable pub string_size : Statement → ℕ
string_size s = sum (λ c. length (bytes_of c)) (contents s).constants

unfoldable pub name_size : Statement → ℕ
name_size s = sum length (contents s).names

-- signals in the lines of processes, parts of a signal not counted
unfoldable pub signals_of_step : Statement → ℕ
signals_of_step s = cond (is a_step s) (length (contents s).signals) 0

unfoldable pub sizes : List (ℕ × (Statement → ℕ))
sizes =
    (most_modules, count (a_module ∷ []))
    ∷ (most_wires, count (a_wire ∷ []))
    ∷ (most_memories, count (a_memory ∷ []))
    ∷ (most_cells, count (a_cell ∷ []))
    ∷ (most_parameters, count (a_parameter ∷ a_cell_parameter ∷ []))
    ∷ (most_attributes, count (an_attribute ∷ []))
    ∷ (most_cell_connections, count (a_cell_connection ∷ []))
    ∷ (most_connections, count (a_connection ∷ []))
    ∷ (most_processes, count (a_process ∷ []))
    ∷ (most_steps, count (a_step ∷ []))
    ∷ (most_step_signals, signals_of_step)
    ∷ (most_signal_bits, signal_size)
    ∷ (most_value_bits, value_size)
    ∷ (most_string_bytes, string_size)
    ∷ (name_room, name_size)
    ∷ []

-- THE TESTS OF A LINE.
-- 7: number or option rule broken, integer outside 32 bits, value over 2,048 wide or with too many digits;
-- no two port numbers alike in a module
unfoldable pub port_numbers : Wire → List ℕ
port_numbers w = map (λ p. p.1) (Option-to_list w.port)

unfoldable pub new_port : Wires → List Opt → Bool
new_port ws os = all (λ n. not (any (λ v. any (eqb n) (port_numbers v.1)) ws)) (port_numbers (wire_of os))

unfoldable pub all_parts : Shape → List Sig
all_parts sh = flat_map parts (contents sh).signals

unfoldable pub breaks_number : Wires → Shape → Bool
breaks_number ws sh =
    not (all int32 (contents sh).integers
    && all good_literal (contents sh).constants
    && all good_numbers (all_parts sh)
    && all (λ os. good_wire os && new_port ws os) (contents sh).wires
    && all good_memory (contents sh).memories)

-- 8: wire not there
unfoldable pub lacks_wire : Wires → Shape → Bool
lacks_wire ws sh = not (all (declared_wire ws) (all_parts sh))

-- 9: name taken
unfoldable pub takes_name : {C S W M : Type 0} → Past → Stmt C S W M → Bool
takes_name ss s = any (λ z. among z.kinds s && any (same (own_name (contents s).names)) (names_in z ss)) name_spaces

-- 10: slice rule broken; the signals of a statement have equal width: both sides of a module's `connect`, of an assign, of an update;
-- each compare value is exactly as wide as the switch signal, and a sync signal one bit
unfoldable pub equal : List ℕ → Bool
equal [] = true
equal (w ∷ ws) = all (eqb w) ws

-- the widths that a step's signals have to have, from what stands before it
unfoldable pub step_widths : Past → Step → List ℕ
step_widths ss assign = []
step_widths ss update = []
step_widths ss switch = []
step_widths ss case = map length (take 1 (switches ss))
step_widths ss low = 1 ∷ []
step_widths ss high = 1 ∷ []
step_widths ss posedge = 1 ∷ []
step_widths ss negedge = 1 ∷ []
step_widths ss edge = 1 ∷ []
step_widths ss global = []
step_widths ss init = []
step_widths ss always = []

unfoldable pub fit_widths : {C S W M : Type 0} → Past → Stmt C S W M → List ℕ → Bool
fit_widths ss s ws = equal (flat_map (step_widths ss) (contents s).steps ++ ws)

unfoldable pub breaks_width : Wires → Past → Shape → Bool
breaks_width ws ss sh = not (all (good_slice ws) (all_parts sh) && fit_widths ss sh (map (width ws) (contents sh).signals))

-- 11: a size exceeded; 2,048 bits in any signal or part of one before slicing
unfoldable pub exceeds_size : Past → Bool
exceeds_size ss = any (λ z. ltb z.0 (sum z.1 ss)) sizes

unfoldable pub part_too_wide : Wires → Shape → Bool
part_too_wide ws sh = not (all (λ s. leb (width ws s) most_width) (all_parts sh))

-- the first test that holds gives the number
unfoldable pub lowest : List (ℕ × Bool) → Option ℕ
lowest [] = none
lowest (t ∷ ts) = let r = lowest ts in cond t.1 (some t.0) r

pub data Verdict (A : Type 0) : Type 0 where
  accepted : A → Verdict A
  refused : ℕ → Verdict A

unfoldable pub verdict : {A : Type 0} → A → Option ℕ → Verdict A
verdict a none = accepted a
verdict a (some n) = refused n

-- what a line means
unfoldable pub meaning : Wires → Shape → Statement
meaning ws sh = translate kept (bits ws) wire_of memory_of sh

-- on one line the lowest number that applies
unfoldable pub judge_in : Wires → Past → Shape → Verdict Statement
judge_in ws ss sh =
    verdict (meaning ws sh)
    (lowest
    ((7, breaks_number ws sh)
    ∷ (8, lacks_wire ws sh)
    ∷ (9, takes_name ss sh)
    ∷ (10, breaks_width ws ss sh)
    ∷ (11, part_too_wide ws sh || exceeds_size (meaning ws sh ∷ ss))
    ∷ []))

unfoldable pub judge : Past → Shape → Verdict Statement
judge ss sh = judge_in (wires ss) ss sh

unfoldable pub judgement_open : Unit {0}
unfolding zip flat_map until only sum outer around nested behind_step steps switches scope context of_module of_cell of_object wires among space names_in name_spaces count signal_size value_size string_size name_size signals_of_step sizes port_numbers new_port all_parts breaks_number lacks_wire takes_name equal step_widths fit_widths breaks_width exceeds_size part_too_wide lowest verdict meaning judge_in judge
judgement_open = tt

-- What may stand after what: the statements that some line says, after the statements so far.
use Rattle.std.specs.Prelude.{ℕ, ◌+◌, ◌-◌, List, [], ◌∷◌, ◌++◌, map, reverse, Bool, true, false, not, cond, ◌&&◌, ◌||◌, length, pos, ◌+ℤ◌, leb, ltb, eqb}
use Rattle.std.proofs.Math.Option.{Option-elim}
use Rattle.std.proofs.Math.ListN.{get_elem?}
use Rattle.rules.specs.Limits.{most_width, most_switches}
use Rattle.rules.specs.Bytes.{any, all, within, legal}
use Rattle.rules.specs.Statements.{Constant, value, integer, string, Bit, digit, bit, Signal, Wire, Memory, Statement, Kind, an_autoidx, an_attribute, a_module, a_parameter, a_wire, a_memory, a_cell, a_cell_parameter, a_cell_connection, a_connection, a_process, an_end, a_step, Step, assign, update, switch, case, low, high, posedge, negedge, edge, global, init, always, step_code, contents}
use Rattle.rules.specs.Shapes.{Scope, top, in_module, in_cell, in_process, in_tail, in_sync, in_switch, in_case}
use Rattle.rules.specs.Numbers.{int32}
use Rattle.rules.specs.Signals.{Wires}
use Rattle.rules.specs.Judgement.{Past, context, wires, among, port_numbers, takes_name, fit_widths, exceeds_size}
use Rattle.rules.specs.Reading.{is_top}

-- the kinds of line that have a form where they stand
unfoldable pub kinds : Scope → (first attributed : Bool) → List Kind
kinds top first attributed = cond first (an_autoidx ∷ an_attribute ∷ a_module ∷ []) (an_attribute ∷ a_module ∷ [])
kinds in_module first attributed =
    cond attributed (an_attribute ∷ a_wire ∷ a_memory ∷ a_cell ∷ a_process ∷ []) (a_parameter ∷ a_connection ∷ an_end ∷ an_attribute ∷ a_wire ∷ a_memory ∷ a_cell ∷ a_process ∷ [])
kinds in_cell first attributed = a_cell_parameter ∷ a_cell_connection ∷ an_end ∷ []
kinds in_process first attributed = cond attributed (an_attribute ∷ a_step ∷ []) (an_attribute ∷ a_step ∷ an_end ∷ [])
kinds in_tail first attributed = a_step ∷ an_end ∷ []
kinds in_sync first attributed = a_step ∷ an_end ∷ []
kinds (in_switch k) first attributed = cond attributed (an_attribute ∷ a_step ∷ []) (an_attribute ∷ a_step ∷ an_end ∷ [])
kinds (in_case k) first attributed = cond attributed (an_attribute ∷ a_step ∷ []) (an_attribute ∷ a_step ∷ an_end ∷ [])

-- and of the lines inside a process the steps: behind attributes only a switch or a case, and switches at most 16 deep
unfoldable pub syncs : List Step
syncs = low ∷ high ∷ posedge ∷ negedge ∷ edge ∷ global ∷ init ∷ always ∷ []

unfoldable pub nested_steps : ℕ → List Step
nested_steps k = cond (ltb (k + 1) most_switches) (switch ∷ case ∷ []) (case ∷ [])

unfoldable pub steps_in : Scope → (attributed : Bool) → List Step
steps_in top attributed = []
steps_in in_module attributed = []
steps_in in_cell attributed = []
steps_in in_process attributed = cond attributed (switch ∷ []) (switch ∷ assign ∷ syncs)
steps_in in_tail attributed = assign ∷ syncs
steps_in in_sync attributed = update ∷ syncs
steps_in (in_switch k) attributed = case ∷ []
steps_in (in_case k) attributed = cond attributed (nested_steps k) (nested_steps k ++ assign ∷ [])

unfoldable pub same_step : Step → Step → Bool
same_step p q = eqb (step_code p) (step_code q)

unfoldable pub stands_in : Scope → (first attributed : Bool) → Statement → Bool
stands_in z first attributed s = among (kinds z first attributed) s && all (λ p. any (same_step p) (steps_in z attributed)) (contents s).steps

unfoldable pub stands : Past → Statement → Bool
stands ss s = stands_in (context ss).scope (context ss).first (context ss).attributed s

-- how many signals a step has
unfoldable pub arity : Step → ℕ → Bool
arity assign n = eqb n 2
arity update n = eqb n 2
arity switch n = eqb n 1
arity case n = true
arity low n = eqb n 1
arity high n = eqb n 1
arity posedge n = eqb n 1
arity negedge n = eqb n 1
arity edge n = eqb n 1
arity global n = eqb n 0
arity init n = eqb n 0
arity always n = eqb n 0

-- Integers are limited to 32 bits, values to 2,048; a string has no byte 0
unfoldable pub fine_constant : Constant → Bool
fine_constant (value ds) = leb (length ds) most_width
fine_constant (integer i) = int32 i
fine_constant (string s) = all (within 1 255) s

-- Wire: width 0 to 2,048, at most one port number from 1 to 1,023, no two alike in a module; offset + width - 1 is at most 2,147,483,647
unfoldable pub own_wire : Wire → Bool
own_wire w =
    leb w.width most_width
    && int32 w.offset
    && (eqb w.width 0 || int32 (w.offset +ℤ pos (w.width - 1)))
    && all (within 1 1023) (port_numbers w)

unfoldable pub new_ports : Wires → Wire → Bool
new_ports ws w = all (λ n. not (any (λ v. any (eqb n) (port_numbers v.1)) ws)) (port_numbers w)

unfoldable pub fine_wire : Wires → Wire → Bool
fine_wire ws w = own_wire w && new_ports ws w

-- Memory: width 1 to 2,048, size 0 or more
unfoldable pub fine_memory : Memory → Bool
fine_memory m = within 1 most_width m.width && leb m.size 2147483647 && int32 m.offset

-- each wire bit inside its wire, which is declared earlier in the same module; 2,048 bits in any signal
unfoldable pub fine_bit : Wires → Bit → Bool
fine_bit ws (digit d) = true
fine_bit ws (bit w i) = Option-elim (get_elem? (reverse ws) w) false (λ v. ltb i v.1.width)

unfoldable pub fine_signal : Wires → Signal → Bool
fine_signal ws bs = leb (length bs) most_width && all (fine_bit ws) bs

-- the parts of a statement keep the rules on their own, whatever else there is
unfoldable pub fine_alone : Statement → Bool
fine_alone s =
    all legal (contents s).names
    && all int32 (contents s).integers
    && all fine_constant (contents s).constants
    && all own_wire (contents s).wires
    && all fine_memory (contents s).memories
    && all (λ p. arity p (length (contents s).signals)) (contents s).steps

-- and with the wires ws before it: its port numbers are not theirs, its signals lie in them
unfoldable pub fine_parts : Wires → Statement → Bool
fine_parts ws s = fine_alone s && all (new_ports ws) (contents s).wires && all (fine_signal ws) (contents s).signals

-- the signals of one statement have equal width, that of the open switch, or of one bit, where a step asks for it
unfoldable pub admits : Past → Statement → Bool
admits ss s =
    stands ss s
    && fine_parts (wires ss) s
    && fit_widths ss s (map length (contents s).signals)
    && not (takes_name ss s)
    && not (exceeds_size (s ∷ ss))

-- each statement may stand after those before it, the last one first; and the file may end here
unfoldable pub admitted : Past → Bool
admitted [] = true
admitted (s ∷ ss) = let r = admits ss s in admitted ss && r

unfoldable pub closes : Past → Bool
closes ss = is_top (context ss).scope && not (context ss).attributed

-- EACH WIRE BIT INSIDE ITS WIRE: in the design that any accepted text defines, and in the design with the names now that any memory holds, each wire bit of
-- each signal names a wire of its module, and a bit below that wire's width.
-- Assumes nothing.
use Rattle.std.specs.Prelude.{Bool, true, ◌&&◌}
use Rattle.std.proofs.Math.Option.{Option-elim}
use Rattle.std.proofs.Math.Bool.{false}
use Rattle.std.proofs.Math.Dec.{ltb}
use Rattle.std.proofs.Math.ListN.{get_elem?}
use Rattle.rules.specs.Bytes.{all}
use Rattle.rules.specs.Statements.{Bit, digit, bit, Signal}
use Rattle.rules.specs.Design.{Module, Design}
use Rattle.canonical.specs.Fine.{line_signals}

-- there is a wire with this number, and it is wide enough; a constant bit is of no wire
unfoldable pub bit_inside : Module → Bit → Bool
bit_inside m (digit d) = true
bit_inside m (bit w i) = Option-elim (get_elem? m.wires w) false (λ o. ltb i o.body.width)

unfoldable pub signal_inside : Module → Signal → Bool
signal_inside m s = all (bit_inside m) s

-- of each cell the connections, of each line of a process all signals, and of each connection of the module both sides
unfoldable pub inside_wires : Module → Bool
inside_wires m =
    all (λ c. all (λ k. signal_inside m k.1) c.body.connections) m.cells
    && all (λ o. all (λ l. all (signal_inside m) (line_signals l)) o.body) m.processes
    && all (λ k. signal_inside m k.0 && signal_inside m k.1) m.connections

unfoldable pub all_inside : Design → Bool
all_inside d = all (λ o. inside_wires o.body) d.modules

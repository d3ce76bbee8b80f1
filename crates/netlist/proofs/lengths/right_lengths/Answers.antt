-- `right_lengths` meets its contract, table by table.
-- Assumes nothing.
use Rattle.std.proofs.Common.{rules}
use Rattle.netlist.specs.Lengths.{right_sizes}
use Rattle.netlist.proofs.lengths.right_lengths.Goals as goal

pub returns-then-wires-eq-WIRES_LENGTH : goal.returns-then-wires-eq-WIRES_LENGTH
unfolding right_sizes
returns-then-wires-eq-WIRES_LENGTH c = search rules

pub returns-else-wires-eq-WIRES_LENGTH : goal.returns-else-wires-eq-WIRES_LENGTH
unfolding right_sizes
returns-else-wires-eq-WIRES_LENGTH c = search rules
